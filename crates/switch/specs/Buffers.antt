-- The packets in the buffers, and the work that they leave. Assumes nothing.
use Rattle.std.specs.Prelude.{ℕ, suc, ◌+◌, List, [], ◌∷◌, ◌++◌, Some, None, sum_by, Option, slice_index_or, slice_set}
use Rattle.queue.specs.declared.packet.Packet.{Packet}
use Rattle.network.specs.Network.{Network}
use Rattle.switch.specs.Places.{location}

-- For each buffer its packets, the first to leave first.
abbrev pub Buffers : Type 0
Buffers = List (List Packet)

abbrev pub contents : Buffers → ℕ → List Packet
contents bs b = slice_index_or bs b []

-- The packet q joins the back of buffer b.
abbrev pub enqueue : Buffers → ℕ → Packet → Buffers
enqueue bs b q = slice_set bs b (contents bs b ++ (q ∷ []))

-- The sum of f over all packets and the buffers that they are in, where the first buffer has the number i.
abbrev pub total_from : (ℕ → Packet → ℕ) → ℕ → Buffers → ℕ
total_from f i [] = 0
total_from f i (qs ∷ bs) = sum_by (f i) qs + total_from f (suc i) bs

-- The distance to d from where a packet stands.
abbrev pub distance_from : Network → Option ℕ → ℕ → ℕ
distance_from net None d = 0
distance_from net (Some n) d = net.distance n d

-- The work of a packet in buffer b: its distance to go, and one for its delivery.
abbrev pub packet_work : Network → ℕ → Packet → ℕ
packet_work net b q = distance_from net (location net b) q.destination + 1

-- The work left.
unfoldable pub work_left : Network → Buffers → ℕ
work_left net bs = total_from (packet_work net) 0 bs
