-- The chains start with no buffer.
use Rattle.std.proofs.Common.{sym, subst}
use Rattle.cycle.specs.Chains.{ChainedFrom}
use Rattle.cycle.specs.Plans.{network_of}
use Rattle.cycle.proofs.Chaining.{chained_none}
use Rattle.cycle.proofs.standing.Standing.of.Goals as goal

pub chain-requires : goal.chain-requires
chain-requires g c =
    let plan = c.args.plan.now in
    subst (λ s. ChainedFrom (network_of plan) s plan.sizes.buffers) (sym c.empty-standing.ensures)
    (chained_none (network_of plan) plan.sizes.buffers plan.fits.measured.buffers_is (g.met.R.Routing.bounds plan.routing.now).nodes_bound)
