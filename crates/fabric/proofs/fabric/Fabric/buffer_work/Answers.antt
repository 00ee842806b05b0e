-- The work of the packets of one buffer is the sum over what the buffer holds, and small.
use Rattle.std.proofs.Common.{◌^◌, rules, arith}
use Rattle.std.proofs.lemmas.Iterator.{YieldsList-from_map}
use Rattle.std.proofs.lemmas.Iterator.Consumers.{YieldsList-at, YieldsList-from_first, sum_by_from_yields_List, fits_by_from_yields_list}
use Rattle.queue.specs.declared.packet.Packet.{Packet}
use Rattle.queue.specs.Contents.{contents}
use Rattle.queue.specs.Left.{packets_left}
use Rattle.switch.specs.Buffers.{packet_work}
use Rattle.fabric.specs.Fabrics.{network_in, depth_in}
use Rattle.fabric.proofs.Works.{buffer_few}
use Rattle.fabric.proofs.fabric.Fabric.buffer_work.Goals as goal

pub sum-requires-clause-fits : goal.sum-requires-clause-fits
sum-requires-clause-fits g c =
    let f = c.args.self.now in
    let work = packet_work (network_in f) c.args.b in
    let xs = contents f.body.queues (depth_in f) c.args.b in
    let few = buffer_few f c.args.b in
    fits_by_from_yields_list work xs c.map.result (2 ^ 64)
    (YieldsList-from_map _ work
    (YieldsList-at c.map.ensures.source (YieldsList-from_first (λ (x : Packet). x) packets_left xs c.packets.ensures))
    c.map.ensures.closure (λ x r q k. search rules))
    (omega arith)

pub returns : goal.returns
returns g c =
    let f = c.args.self.now in
    let work = packet_work (network_in f) c.args.b in
    let xs = contents f.body.queues (depth_in f) c.args.b in
    sum_by_from_yields_List work xs c.map.result c.sum.result c.sum.ensures.ran
    (YieldsList-from_map _ work
    (YieldsList-at c.map.ensures.source (YieldsList-from_first (λ (x : Packet). x) packets_left xs c.packets.ensures))
    c.map.ensures.closure (λ x r q k. search rules))
