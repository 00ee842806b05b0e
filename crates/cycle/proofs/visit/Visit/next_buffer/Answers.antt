-- Delivered, or adaptively, or by escape.
use Rattle.std.proofs.Common.{true, false, Some, sym, refl, ◌∙◌, arith}
use Rattle.std.proofs.lemmas.Bool.{and_from, and_left, and_right}
use Rattle.cycle.specs.Starts.{network_in}
use Rattle.cycle.proofs.Fitting.{bounded}
use Rattle.cycle.proofs.NextBuffers.{next_delivery, next_by_link}
use Rattle.cycle.proofs.visit.Visit.next_buffer.Goals as goal
use Rattle.cycle.proofs.visit.Visit.next_buffer.Goals.{else-is_nearer-via-then-is_nearer+else-has_room, else-is_nearer-via-else-is_nearer}

pub returns-then-self-sizes : goal.returns-then-self-sizes
returns-then-self-sizes g c =
    let visit = c.args.self.now in
    c.then_some.ensures ∙ next_delivery visit.start.now visit.node visit.port c.args.d c.if-self-sizes.true

pub channel_buffer-adaptive-requires : goal.channel_buffer-adaptive-requires
channel_buffer-adaptive-requires g c =
    let visit = c.args.self.now in
    let start = visit.start.now in
    record {
      bounded = bounded (network_in start) start.plan.now.sizes start.plan.now.fits (g.met.R.Routing.bounds start.plan.now.routing.now);
      node = visit.node_within;
      port = omega (arith, visit.port_within, c.if-self-sizes.false);
      channel = omega (arith, start.plan.now.fits.measured.channels_is);
    }

pub returns-then-has_room : goal.returns-then-has_room
returns-then-has_room g c =
    let visit = c.args.self.now in
    next_by_link visit.start.now visit.node visit.port c.args.d
    c.channel_buffer-adaptive.result true (Some c.channel_buffer-adaptive.result) c.if-self-sizes.false c.channel_buffer-adaptive.ensures.value
    (and_from _ _ (sym c.is_nearer.ensures ∙ c.if-is_nearer.true) (sym c.has_room.ensures ∙ c.if-has_room.true))
    refl

pub returns : goal.returns
returns g c =
    let visit = c.args.self.now in
    next_by_link visit.start.now visit.node visit.port c.args.d
    c.channel_buffer-adaptive.result false c.by_escape.result c.if-self-sizes.false c.channel_buffer-adaptive.ensures.value
    (elim c.else-is_nearer.branch [
      | else-is_nearer-via-then-is_nearer+else-has_room v ↦ and_right _ _ (sym v.has_room.ensures ∙ v.if-has_room.false)
      | else-is_nearer-via-else-is_nearer v ↦ and_left _ _ (sym c.is_nearer.ensures ∙ v.if-is_nearer.false)
    ])
    c.by_escape.ensures
