-- Each visit decides what the definition does, and the trace has room for it.
use Rattle.std.proofs.Common.{◌+◌, length, take, arith}
use Rattle.std.proofs.lemmas.List.{length-take-le}
use mir.Facts.{Fits-below}
use Rattle.cycle.specs.Measures.{visit_of}
use Rattle.cycle.specs.Starts.{network_in, snapshot}
use Rattle.cycle.proofs.Decisions.{from_port, deciding_start, deciding_none, deciding_some, deciding_end, at_port, past_ports, next_visit}
use Rattle.cycle.proofs.start.Start.visit_all.Goals as goal
use Rattle.cycle.proofs.start.Start.visit_all.Goals.{in-Some, in_default}

pub loop-node-init : goal.loop-node-init
loop-node-init g c =
    let start = c.args.self.now in
    deciding_start (network_in start) (g.met.R.Routing.bounds start.plan.now.routing.now) start.plan.now.sizes start.plan.now.fits g.A.Arbiter.rule start.cycle start.queues.now c.args.arbiter.now
    c.args.trace.now (length (take start.plan.now.sizes.buffers c.args.granted.now)) c.fill.new.self (length-take-le start.plan.now.sizes.buffers c.args.granted.now c.requires.flags) (c.fill.ensures.after (λ y e. e)) c.requires.room

pub offset_bounds-trace-count : goal.offset_bounds-trace-count
offset_bounds-trace-count g c =
    let d = at_port c.args.self.now.plan.now.sizes c.loop-node.node c.loop-port.port c.loop-node-test.true c.loop-node.invariant (c.loop-port.invariant _ _) c.loop-port-test.true in
    Fits-below {n = 14336} tt (omega (arith, d.small))

pub bounds-trace-count : goal.bounds-trace-count
bounds-trace-count g c =
    let d = at_port c.args.self.now.plan.now.sizes c.loop-node.node c.loop-port.port c.loop-node-test.true c.loop-node.invariant (c.loop-port.invariant _ _) c.loop-port-test.true in
    omega (arith, d.few, d.long)

pub overflow_add-count : goal.overflow_add-count
overflow_add-count g c =
    let d = at_port c.args.self.now.plan.now.sizes c.loop-node.node c.loop-port.port c.loop-node-test.true c.loop-node.invariant (c.loop-port.invariant _ _) c.loop-port-test.true in
    Fits-below {n = 448} tt (omega (arith, d.small))

pub loop-port-preserved : goal.loop-port-preserved
loop-port-preserved g c = λ all old entered.
    let start = snapshot c.args.self.now in
    let sizes = c.args.self.now.plan.now.sizes in
    let d = next_visit sizes c.loop-node.node c.loop-port.port c.loop-port-test.true (c.loop-port.invariant all old entered) in
    let vs = from_port sizes c.loop-node.node (c.loop-port.port + 1) in
    let v = visit_of c.loop-node.node c.loop-port.port in
    let after = c.decide-decision.ensures.after in
    elim c.match-decision.branch [
      | in-Some w ↦
          simp (w.trace-is, w.count-is, w.granted-is)
          (deciding_some start g.A.Arbiter.rule all old c.loop-port.trace c.loop-port.count c.loop-port.granted c.loop-port.arbiter c.decide-decision.new.arbiter v vs
          d after w.in-Some.grant w.in-Some.ensures.answer)
      | in_default w ↦
          simp (w.trace-is, w.count-is, w.granted-is)
          (deciding_none start g.A.Arbiter.rule all old c.loop-port.trace c.loop-port.count c.loop-port.granted c.loop-port.arbiter c.decide-decision.new.arbiter v vs
          d after w.in_default.ensures.answer)
    ]

pub loop-node-preserved : goal.loop-node-preserved
loop-node-preserved g c =
    past_ports c.args.self.now.plan.now.sizes c.loop-node.node c.loop-port.port c.loop-node-test.true c.loop-node.invariant (c.loop-port.invariant _ _) c.loop-port-test.false

pub returns : goal.returns
returns g c =
    deciding_end (snapshot c.args.self.now) g.A.Arbiter.rule c.args.self.now.plan.now.sizes c.loop-node.node c.args.arbiter.now c.loop-node.arbiter
    c.args.trace.now c.loop-node.trace c.loop-node.count c.loop-node.granted c.loop-node-test.false c.loop-node.invariant
