-- The buffers from b on are chained.
use Rattle.cycle.specs.Chains.{ChainedFrom}
use Rattle.cycle.proofs.plan.Plan.chain.Given as goal

abbrev pub invariant-loop-b : goal.invariant-loop-b
invariant-loop-b g l = ChainedFrom (g.R.Routing.meaning l.self.routing.now) l.standing l.b
