use Rattle.std.proofs.Common.{length, refl, arith}
use mir.Facts.{Fits-below}
use Rattle.fabric.proofs.OneCycle.{turned_idle, can_move, hops_small, turned_by}
use Rattle.fabric.proofs.Cycling.{turned_reached, turned_answer}
use Rattle.fabric.proofs.fabric.Fabric.perform_cycle.Goals as goal

pub invariant_of-self-clause-reached : goal.invariant_of-self-clause-reached
invariant_of-self-clause-reached g c =
    let f = c.args.self.now in
    turned_reached f g.A.Arbiter.rule (length c.args.trace.now) c.requires.may _ _ _ _ _ (turned_idle f g.A.Arbiter.rule g.met.A.Arbiter.exists (omega arith) c.args.trace.now) g.met.A.Arbiter.exists

pub returns-then-inside-eq0 : goal.returns-then-inside-eq0
returns-then-inside-eq0 g c =
    let f = c.args.self.now in
    let t = turned_idle f g.A.Arbiter.rule g.met.A.Arbiter.exists (omega arith) c.args.trace.now in
    record {
      answered = turned_answer f g.A.Arbiter.rule (length c.args.trace.now) c.requires.may _ _ _ _ _ t _ refl refl refl refl;
      traced = t.traced;
    }

pub move_all-delivered-requires : goal.move_all-delivered-requires
move_all-delivered-requires g c =
    let f = c.args.self.now in
    record {
      slotted = record { shallow = f.fits.shallow; slots = f.fits.slots; sound = f.sound };
      movable = can_move f g.A.Arbiter.rule g.met.A.Arbiter.exists c.decide-count.new.arbiter c.args.trace.now c.decide-count.new.trace c.decide-count.result c.decide-count.ensures;
    }

pub overflow_add-self-3 : goal.overflow_add-self-3
overflow_add-self-3 g c =
    let f = c.args.self.now in
    let small = hops_small f g.A.Arbiter.rule g.met.A.Arbiter.exists c.decide-count.new.arbiter c.args.trace.now c.decide-count.new.trace c.decide-count.result c.decide-count.ensures
    c.move_all-delivered.new.queues c.move_all-delivered.result c.move_all-delivered.ensures in
    Fits-below {n = 3900001} tt (omega (arith, f.few))

pub invariant_of-self-2-clause-reached : goal.invariant_of-self-2-clause-reached
invariant_of-self-2-clause-reached g c =
    let f = c.args.self.now in
    let t = turned_by f g.A.Arbiter.rule g.met.A.Arbiter.exists c.decide-count.new.arbiter c.args.trace.now c.decide-count.new.trace c.decide-count.result c.decide-count.ensures
    c.move_all-delivered.new.queues c.move_all-delivered.result c.move_all-delivered.ensures in
    turned_reached f g.A.Arbiter.rule (length c.args.trace.now) c.requires.may _ _ _ _ _ t g.met.A.Arbiter.exists

pub returns : goal.returns
returns g c =
    let f = c.args.self.now in
    let t = turned_by f g.A.Arbiter.rule g.met.A.Arbiter.exists c.decide-count.new.arbiter c.args.trace.now c.decide-count.new.trace c.decide-count.result c.decide-count.ensures
    c.move_all-delivered.new.queues c.move_all-delivered.result c.move_all-delivered.ensures in
    record {
      answered = turned_answer f g.A.Arbiter.rule (length c.args.trace.now) c.requires.may _ _ _ _ _ t _ refl refl refl refl;
      traced = t.traced;
    }
