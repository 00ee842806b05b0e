-- What the first packet of the buffer asks for, unless the buffer has a grant.
use Rattle.std.proofs.Common.{Some, None, sym, ◌∙◌}
use Rattle.cycle.specs.Measures.{visit_of}
use Rattle.cycle.specs.Starts.{snapshot}
use Rattle.cycle.proofs.Lookups.{front_is}
use Rattle.cycle.proofs.Scanning.{request_granted, request_empty, request_first}
use Rattle.cycle.proofs.visit.Visit.request.Goals as goal

pub returns-then-self-b : goal.returns-then-self-b
returns-then-self-b g c =
    let visit = c.args.self.now in
    sym (request_granted (snapshot visit.start.now) visit.granted.now (visit_of visit.node visit.port) c.args.b c.if-self-b.true)

pub returns-in_err-packet : goal.returns-in_err-packet
returns-in_err-packet g c =
    let visit = c.args.self.now in
    let start = visit.start.now in
    c.from_residual.ensures
    ∙ sym (request_empty (snapshot start) visit.granted.now (visit_of visit.node visit.port) c.args.b c.requires.stands c.if-self-b.false
    (front_is start.plan.now.sizes start.queues.now c.args.b c.requires.buffer None c.in_err-packet.ensures))

pub returns-in_err-new : goal.returns-in_err-new
returns-in_err-new g c =
    let visit = c.args.self.now in
    let start = visit.start.now in
    c.from_residual-in_err-new.ensures
    ∙ sym (request_first (snapshot start) visit.granted.now (visit_of visit.node visit.port) c.args.b c.requires.stands c.if-self-b.false c.in_ok-packet.packet None
    (front_is start.plan.now.sizes start.queues.now c.args.b c.requires.buffer (Some c.in_ok-packet.packet) c.in_ok-packet.ensures) c.in_err-new.ensures)

pub returns : goal.returns
returns g c =
    let visit = c.args.self.now in
    let start = visit.start.now in
    c.granting.ensures
    ∙ sym (request_first (snapshot start) visit.granted.now (visit_of visit.node visit.port) c.args.b c.requires.stands c.if-self-b.false c.in_ok-packet.packet (Some c.in_ok-new.new)
    (front_is start.plan.now.sizes start.queues.now c.args.b c.requires.buffer (Some c.in_ok-packet.packet) c.in_ok-packet.ensures) c.in_ok-new.ensures)
