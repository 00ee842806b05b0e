-- What the grants that are left will leave is what all of them do.
use Rattle.std.proofs.Common.{◌≡◌, drop}
use Rattle.queue.specs.Contents.{Sound}
use Rattle.switch.specs.Cycle.{moves}
use Rattle.cycle.specs.Measures.{buffers_in}
use Rattle.cycle.specs.Moves.{AllMovable}
use Rattle.cycle.proofs.moving.move_each.Given as goal

abbrev pub invariant-loop-grant : goal.invariant-loop-grant
invariant-loop-grant l = record {
  buffers_are : moves l.sizes.buffers (buffers_in l.sizes l.queues) (drop l.grant-index l.grants) ≡ moves l.sizes.buffers (buffers_in l.sizes l.initial.queues) l.grants;
  movable : AllMovable l.sizes (buffers_in l.sizes l.queues) (drop l.grant-index l.grants);
  sound : Sound l.queues l.sizes.depth;
}
