-- The answers that the proof of perform_drain needs. Assumes nothing.
use Rattle.std.proofs.Common.{◌≡◌, ◌<◌, ◌∙◌, arith}
use Rattle.switch.specs.Calls.{inside}
use Rattle.fabric.specs.Fabrics.{state_of}
use Rattle.fabric.proofs.Calling.{not_number}
use Rattle.fabric.proofs.Draining.{goes_on, work_less, some_left, drain_goes_on, end_state, end_answer}
use Rattle.fabric.proofs.fabric.Fabric.perform_drain.Goals as goal

pub perform_cycle-requires : goal.perform_cycle-requires
perform_cycle-requires g c =
    record { may = goes_on g.A.Arbiter.rule g.met.A.Arbiter.exists c.args.self.now c.loop-trace.self _ _ c.loop-trace.invariant.1 _ c.loop-trace.invariant.0 c.requires.may (omega arith) }

pub loop-trace-smaller : goal.loop-trace-smaller
loop-trace-smaller g c =
    let f = c.args.self.now in
    let m = c.loop-trace.self in
    let some : 0 < inside (state_of m) = omega arith in
    let may = goes_on g.A.Arbiter.rule g.met.A.Arbiter.exists f m _ _ c.loop-trace.invariant.1 _ c.loop-trace.invariant.0 c.requires.may some in
    work_less g.A.Arbiter.rule g.met.A.Arbiter.exists f m _ _ c.loop-trace.invariant.1 c.perform_cycle.new.self some _ may _ c.perform_cycle.ensures.answered

pub loop-trace-preserved : goal.loop-trace-preserved
loop-trace-preserved g c =
    let f = c.args.self.now in
    let m = c.loop-trace.self in
    let some : 0 < inside (state_of m) = omega arith in
    let left = some_left g.A.Arbiter.rule g.met.A.Arbiter.exists f m _ _ c.loop-trace.invariant.1 some in
    let may = goes_on g.A.Arbiter.rule g.met.A.Arbiter.exists f m _ _ c.loop-trace.invariant.1 _ c.loop-trace.invariant.0 c.requires.may some in (
      c.perform_cycle.auto.trace ∙ c.loop-trace.invariant.0,
      drain_goes_on g.A.Arbiter.rule g.met.A.Arbiter.exists f m _ _ c.loop-trace.invariant.1 c.perform_cycle.new.self some _ may _ c.perform_cycle.ensures.answered _ (omega arith),
    )

pub returns : goal.returns
returns g c =
    let f = c.args.self.now in
    let m = c.loop-trace.self in
    let i = c.loop-trace.invariant.1 in
    let empty : inside (state_of m) ≡ 0 = omega (arith, c.inside.ensures, c.loop-trace-test.false) in
    let none = c.requires.may in
    record {
      answer_is = end_answer g.A.Arbiter.rule g.met.A.Arbiter.exists f m _ _ i empty none;
      state_is = end_state g.A.Arbiter.rule g.met.A.Arbiter.exists f m _ _ i empty none;
      routing_is = i.routing_same;
      network_is = i.network_same;
      depth_is = i.depth_same;
      unchanged = λ k e. absurd (not_number _ k e);
    }
