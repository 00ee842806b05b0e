-- The answers that were read mean the routing's network, so they keep the laws.
use Rattle.table.proofs.Same.{stored_same, stored_lawful}
use Rattle.table.proofs.table.Table.read.Goals as goal

pub invariant_of-result : goal.invariant_of-result
invariant_of-result g c = record { lawful = ∣ stored_lawful _ (g.met.R.Routing.lawful c.args.routing.now) c.answers_of.result c.answers_of.ensures.sizes c.answers_of.ensures.arrays ∣₁ }

pub returns : goal.returns
returns g c = stored_same _ (g.met.R.Routing.lawful c.args.routing.now) c.answers_of.result c.answers_of.ensures.sizes c.answers_of.ensures.arrays
