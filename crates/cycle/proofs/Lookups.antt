-- What is read of one buffer, in the list of what all buffers hold. Assumes nothing.
use Rattle.std.proofs.Common.{◌≡◌, ℕ, ◌<◌, ltb, List, length, Option, sym, ap, ◌∙◌}
use Rattle.std.specs.List.{slice_get}
use Rattle.queue.specs.declared.packet.Packet.{Packet}
use Rattle.queue.specs.declared.queues.Queues.{Queues}
use Rattle.queue.specs.Contents.{contents as contents_in}
use Rattle.queue.proofs.Buffers.{getD_all_contents}
use Rattle.switch.specs.Buffers.{contents}
use Rattle.cycle.specs.declared.sizes.Sizes.{Sizes}
use Rattle.cycle.specs.Measures.{buffers_in}

module _ (sizes : Sizes) (queues : Queues) (b : ℕ) (h : b < sizes.buffers) where
  -- what it holds
  pub contents_there : contents_in queues sizes.depth b ≡ contents (buffers_in sizes queues) b
  contents_there = sym (getD_all_contents queues sizes.depth sizes.buffers b h)

  -- whether there is room, by the number of packets
  pub room_is : (count : ℕ) → count ≡ length (contents_in queues sizes.depth b) → ltb count sizes.depth ≡ ltb (length (contents (buffers_in sizes queues) b)) sizes.depth
  room_is count e = ap (λ (n : ℕ). ltb n sizes.depth) (e ∙ ap (λ (qs : List Packet). length qs) contents_there)

  -- the first packet
  pub front_is : (o : Option Packet) → o ≡ slice_get (contents_in queues sizes.depth b) 0 → o ≡ slice_get (contents (buffers_in sizes queues) b) 0
  front_is o e = e ∙ ap (λ (qs : List Packet). slice_get qs 0) contents_there
