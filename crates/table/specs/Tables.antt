-- What a table means. Assumes nothing.
use Rattle.network.specs.Network.{Network}
use Rattle.table.specs.declared.table.Table.{Table}
use Rattle.table.specs.Stored.{stored_network}

abbrev pub network_of : Table → Network
network_of t = stored_network t.answers
