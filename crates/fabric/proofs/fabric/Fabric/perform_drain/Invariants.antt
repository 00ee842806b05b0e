-- What the loop of drain keeps: what is left of the drain, and its measure, the work left. Assumes nothing.
use Rattle.std.proofs.Common.{◌≡◌, ◌-◌, length}
use Rattle.switch.specs.Buffers.{work_left}
use Rattle.fabric.specs.Fabrics.{network_in, state_of}
use Rattle.fabric.proofs.Draining.{Draining}
use Rattle.fabric.proofs.fabric.Fabric.perform_drain.Given as goal

abbrev pub invariant-loop-trace : goal.invariant-loop-trace
invariant-loop-trace g l = (length l.trace ≡ 448) × Draining g.A.Arbiter.rule l.initial.self l.self l.count (work_left (network_in l.initial.self) (state_of l.initial.self).buffers - l.count)

abbrev pub decreases-loop-trace : goal.decreases-loop-trace
decreases-loop-trace g l = work_left (network_in l.self) (state_of l.self).buffers
