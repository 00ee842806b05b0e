-- What the loop keeps, which the check asks for.
use Rattle.std.proofs.Common.{ℕ, List, ◌++◌, vec_items}
use Rattle.network.specs.declared.route_step.RouteStep.{RouteStep}
use Rattle.network.specs.Routes.{Following}
use Rattle.network.proofs.routes.steps_between.Given as goal

-- whatever follows escape from here goes on from the steps so far
abbrev pub invariant-loop-step : goal.invariant-loop-step
invariant-loop-step g l = let net = g.R.Routing.meaning l.routing in (ss : List RouteStep) (m : ℕ) → Following net l.end l.node ss m → Following net l.end l.start (vec_items l.steps ++ ss) m

abbrev pub decreases-loop-step : goal.decreases-loop-step
decreases-loop-step g l = (g.R.Routing.meaning l.routing).distance l.node l.end
