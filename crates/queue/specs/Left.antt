-- What an iterator over the packets of a queue has left. Assumes nothing.
use Rattle.std.specs.Prelude.{List, drop}
use Rattle.queue.specs.declared.packet.Packet.{Packet}
use Rattle.queue.specs.declared.packets.Packets.{Packets}
use Rattle.queue.specs.Held.{held}

-- The packets of the queue from its place k on.
abbrev pub packets_left : Packets → List Packet
packets_left packets = drop packets.k (held packets.queue packets.run.now)
