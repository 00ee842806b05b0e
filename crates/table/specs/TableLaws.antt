-- A table keeps the laws. Assumes nothing.
use Rattle.network.specs.Laws.{Lawful}
use Rattle.network.proofs.Propositions.{lawful_out}
use Rattle.table.specs.declared.table.Table.{Table}
use Rattle.table.specs.Tables.{network_of}

pub table_lawful : (t : Table) → Lawful (network_of t)
table_lawful t = lawful_out (network_of t) t.lawful
