-- What the buffers of a table hold, and what a push and a pop change. Assumes nothing.
use Rattle.std.specs.Prelude.{◌≡◌, ℕ, zero, suc, ◌*◌, ◌<◌, ◌≤◌, ◌≢◌, List, [], ◌∷◌, ◌++◌, length, take, drop, replicate, Option, Result, Ok, Err, slice_index_or, slice_set}
use Rattle.std.specs.List.{slice_get}
use Rattle.queue.specs.declared.full.Full.{Full}
use Rattle.queue.specs.declared.packet.Packet.{Packet}
use Rattle.queue.specs.declared.queue.Queue.{Queue}
use Rattle.queue.specs.declared.queues.Queues.{Queues}
use Rattle.queue.specs.Held.{no_queue, no_room, held, Within}

-- The record of the buffer b.
abbrev pub queue_of : Queues → ℕ → Queue
queue_of queues b = slice_index_or queues.queues b no_queue

-- The slots of the buffer b: a run of depth slots that starts at b × depth.
abbrev pub run_of : Queues → ℕ → ℕ → List Packet
run_of queues depth b = take depth (drop (b * depth) queues.slots)

-- What the buffer b holds, the first packet first.
abbrev pub contents : Queues → ℕ → ℕ → List Packet
contents queues depth b = held (queue_of queues b) (run_of queues depth b)

-- What the n buffers from b on hold.
unfoldable pub contents_from : Queues → ℕ → ℕ → ℕ → List (List Packet)
contents_from queues depth b zero = []
contents_from queues depth b (suc n) = contents queues depth b ∷ contents_from queues depth (suc b) n

-- What the buffers 0 to t − 1 hold.
abbrev pub all_contents : Queues → ℕ → ℕ → List (List Packet)
all_contents queues depth t = contents_from queues depth 0 t

-- Every queue lies within its run of slots.
abbrev pub Sound : Queues → ℕ → Type 0
Sound queues depth = (b : ℕ) → Within (queue_of queues b) depth

-- Every buffer is empty, whatever the depth.
pub record Empty (queues : Queues) : Type 0 where
  pub none : (depth b : ℕ) → contents queues depth b ≡ []
  pub all : (depth t : ℕ) → all_contents queues depth t ≡ replicate t []
  pub sound : (depth : ℕ) → 0 < depth → Sound queues depth

-- The buffer b has come to hold these packets, and every other buffer holds what it held.
pub record Changed (old new : Queues) (depth b : ℕ) (packets : List Packet) : Type 0 where
  pub here : contents new depth b ≡ packets
  pub others : (a : ℕ) → a ≢ b → contents new depth a ≡ contents old depth a
  pub all : (t : ℕ) → all_contents new depth t ≡ slice_set (all_contents old depth t) b packets

-- A push into the buffer b, and its answer: with room, the packet has joined the buffer at its end; without room,
-- nothing has changed.
pub record Pushed (old new : Queues) (depth b : ℕ) (packet : Packet) (answer : Result (Unit {0}) Full) : Type 0 where
  pub room : length (contents old depth b) < depth → (answer ≡ Ok tt) × Changed old new depth b (contents old depth b ++ (packet ∷ []))
  pub full : depth ≤ length (contents old depth b) → (answer ≡ Err no_room) × (new ≡ old)
  pub sound : Sound new depth

-- A pop from the buffer b, and its answer: the first packet has left the buffer; where there was none, nothing has
-- changed.
pub record Popped (old new : Queues) (depth b : ℕ) (answer : Option Packet) : Type 0 where
  pub first : answer ≡ slice_get (contents old depth b) 0
  pub rest : Changed old new depth b (drop 1 (contents old depth b))
  pub none : contents old depth b ≡ [] → new ≡ old
  pub sound : Sound new depth
