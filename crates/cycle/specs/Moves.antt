-- Grants that can be carried out one after another, and what carrying them out leaves. Assumes nothing.
use Rattle.std.specs.Prelude.{◌≡◌, ℕ, ◌*◌, ◌<◌, ◌≤◌, List, [], ◌∷◌, length, drop, count_by, ◌==◌, slice_set}
use Rattle.std.specs.List.{AllByRecursion}
use Rattle.queue.specs.declared.packet.Packet.{Packet}
use Rattle.queue.specs.declared.queues.Queues.{Queues}
use Rattle.queue.specs.Contents.{Sound}
use Rattle.switch.specs.declared.grant.Grant.{Grant}
use Rattle.switch.specs.Buffers.{Buffers, contents}
use Rattle.switch.specs.Cycle.{move, moves}
use Rattle.cycle.specs.declared.sizes.Sizes.{Sizes}
use Rattle.cycle.specs.Measures.{buffers_in}

-- The table has slots for the buffers, and its queues lie within their runs.
pub record Slotted (sizes : Sizes) (queues : Queues) : Type 0 where
  pub shallow : sizes.depth ≤ 4
  pub slots : sizes.buffers * sizes.depth ≤ 2048
  pub sound : Sound queues sizes.depth

-- The grant is of a buffer, and leads out, or to a buffer that has room once the packet has left; and no packet of the
-- buffer has made many hops.
pub record Movable (sizes : Sizes) (bs : Buffers) (g : Grant) : Type 0 where
  pub old_under : g.old < sizes.buffers
  pub new_under : g.new ≤ sizes.buffers
  pub room : g.new < sizes.buffers → length (contents (slice_set bs g.old (drop 1 (contents bs g.old))) g.new) < sizes.depth
  pub few_hops : AllByRecursion (λ (q : Packet). q.hops ≤ 64) (contents bs g.old)

-- The grants can be carried out one after another.
abbrev pub AllMovable : Sizes → Buffers → List Grant → Type 0
AllMovable sizes bs [] = Unit {0}
AllMovable sizes bs (g ∷ gs) = Movable sizes bs g × AllMovable sizes (move sizes.buffers bs g) gs

-- A grant was carried out.
pub record Moved (sizes : Sizes) (old new : Queues) (g : Grant) : Type 0 where
  pub buffers_are : buffers_in sizes new ≡ move sizes.buffers (buffers_in sizes old) g
  pub sound : Sound new sizes.depth

-- The grants were carried out one after another.
pub record MovedInTurn (sizes : Sizes) (old new : Queues) (gs : List Grant) : Type 0 where
  pub buffers_are : buffers_in sizes new ≡ moves sizes.buffers (buffers_in sizes old) gs
  pub sound : Sound new sizes.depth

-- And so many of them are deliveries.
pub record AllMoved (sizes : Sizes) (old new : Queues) (gs : List Grant) (delivered : ℕ) : Type 0 where
  pub in_turn : MovedInTurn sizes old new gs
  pub delivered_is : delivered ≡ count_by (λ g. g.new == sizes.buffers) gs
