-- The escape channel's buffer, and whether it has room.
use Rattle.std.proofs.Common.{◌∙◌}
use Rattle.cycle.specs.Starts.{network_in}
use Rattle.cycle.proofs.Fitting.{bounded, escape_channel}
use Rattle.cycle.proofs.NextBuffers.{by_escape_hop}
use Rattle.cycle.proofs.visit.Visit.by_escape.Goals as goal

pub channel_buffer-b-requires : goal.channel_buffer-b-requires
channel_buffer-b-requires g c =
    let visit = c.args.self.now in
    let start = visit.start.now in
    record {
      bounded = bounded (network_in start) start.plan.now.sizes start.plan.now.fits (g.met.R.Routing.bounds start.plan.now.routing.now);
      node = visit.node_within;
      port = c.requires;
      channel = escape_channel (network_in start) start.plan.now.sizes start.plan.now.fits (g.met.R.Routing.lawful start.plan.now.routing.now) visit.node c.args.d c.in_ok-hop.hop c.in_ok-hop.ensures;
    }

pub returns : goal.returns
returns g c =
    let visit = c.args.self.now in
    c.then_some.ensures
    ∙ by_escape_hop visit.start.now visit.node visit.port c.args.d c.in_ok-hop.hop c.channel_buffer-b.result c.in_ok-hop.ensures c.if-hop-self.false c.channel_buffer-b.ensures.value
    c.has_room.result c.has_room.ensures
