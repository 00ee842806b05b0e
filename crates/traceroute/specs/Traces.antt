-- The route of a command. Assumes nothing.
use Rattle.std.specs.Prelude.{◌≡◌, ℕ, ◌<◌, cond, Ok, Err, Result, Vec, nat_lt}
use Rattle.std.specs.declared.alloc.Global.{Global}
use Rattle.network.specs.declared.route_step.RouteStep.{RouteStep}
use Rattle.network.specs.Routes.{Routed}
use Rattle.shape.specs.Shapes.{shaped}
use Rattle.traceroute.specs.declared.command.Command.{Command}
use Rattle.traceroute.specs.declared.trace_error.TraceError.{TraceError}
use Rattle.traceroute.specs.declared.trace_error.TraceError.TheVariants.{Unusable, NoNode, OutOfMemory}

-- the first of the two nodes that is not under the number of nodes
abbrev pub stray : Command → ℕ
stray c = cond (nat_lt c.start (shaped c.shape).nodes) c.end c.start

abbrev pub Traced : Command → Result (Vec RouteStep Global) TraceError → Type 0
Traced c (Ok steps) = Routed (shaped c.shape) c.start c.end (Ok steps)
Traced c (Err (Unusable name)) = ((shaped c.shape).nodes ≡ 0) × (name ≡ c.name)
Traced c (Err (NoNode node nodes)) = (nodes ≡ (shaped c.shape).nodes) × (0 < nodes) × (node ≡ stray c) × (node < nodes → ⊥)
Traced c (Err OutOfMemory) = (c.start < (shaped c.shape).nodes) × (c.end < (shaped c.shape).nodes)
