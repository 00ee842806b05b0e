-- What a queue holds. Assumes nothing.
use Rattle.std.specs.Prelude.{ℕ, zero, suc, ◌-◌, ◌<◌, ◌≤◌, cond, List, [], ◌∷◌, length, nat_lt, slice_index_or}
use Rattle.queue.specs.declared.full.Full.{Full}
use Rattle.queue.specs.declared.packet.Packet.{Packet}
use Rattle.queue.specs.declared.queue.Queue.{Queue}

-- What an unused slot holds, and what is read past the end of a list.
abbrev pub no_packet : Packet
no_packet = record { number = 0; source = 0; destination = 0; hops = 0 }

-- What a push into a full queue answers.
abbrev pub no_room : Full
no_room = record {}

-- The slot x places on from the start of a run of len slots; past its end the run goes on at its start.
abbrev pub wrapped : ℕ → ℕ → ℕ
wrapped len x = cond (nat_lt x len) x (x - len)

-- The packets in n slots of a run, one after another from the place i on.
abbrev pub around : List Packet → ℕ → ℕ → List Packet
around run i zero = []
around run i (suc n) = slice_index_or run (wrapped (length run) i) no_packet ∷ around run (suc i) n

-- What a queue holds in its run of slots, the first packet first.
abbrev pub held : Queue → List Packet → List Packet
held queue run = around run queue.first queue.count

-- The record of a queue that holds no packet.
abbrev pub no_queue : Queue
no_queue = record { first = 0; count = 0 }

-- A queue lies within a run of len slots: its first packet has a place in it, and its packets are no more than slots.
abbrev pub Within : Queue → ℕ → Type 0
Within queue len = (queue.first < len) × (queue.count ≤ len)
