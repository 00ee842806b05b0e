use Rattle.std.proofs.Common.{sym, refl, ap, subst, arith}
use Rattle.queue.specs.Contents.{Sound}
use mir.Facts.{Fits-below}
use Rattle.switch.specs.Calls.Answer.{number}
use Rattle.switch.specs.Calls.Call.{inject}
use Rattle.cycle.specs.declared.sizes.Sizes.{Sizes}
use Rattle.fabric.proofs.Calling.{performed_state, answered_number, kept}
use Rattle.fabric.proofs.Injecting.{nodes_are, nodes_few, nodes_within, slots_under, injectable, injected_state}
use Rattle.fabric.proofs.fabric.Fabric.take_in.Goals as goal

pub overflow_sub-b : goal.overflow_sub-b
overflow_sub-b g c = nodes_within c.args.self.now

pub overflow_cast-source : goal.overflow_cast-source
overflow_cast-source g c =
    let f = c.args.self.now in
    let q = injectable f c.args.source c.args.destination c.requires.may in
    Fits-below {n = 64} tt (omega (arith, q.source_in, nodes_are f, nodes_few f))

pub overflow_cast-destination : goal.overflow_cast-destination
overflow_cast-destination g c =
    let f = c.args.self.now in
    let q = injectable f c.args.source c.args.destination c.requires.may in
    Fits-below {n = 64} tt (omega (arith, q.destination_in, nodes_are f, nodes_few f))

pub take_in-requires : goal.take_in-requires
take_in-requires g c =
    let f = c.args.self.now in
    let q = injectable f c.args.source c.args.destination c.requires.may in
    record { shallow = f.fits.shallow; in_range = slots_under f c.args.source q.source_in; sound = f.sound; room = q.room; few = q.under_limit }

pub invariant_of-self-clause-reached : goal.invariant_of-self-clause-reached
invariant_of-self-clause-reached g c =
    let f = c.args.self.now in
    let q = injectable f c.args.source c.args.destination c.requires.may in
    let t = c.take_in.ensures.after in
    let new = c.take_in.new.self in
    kept f g.A.Arbiter.rule (inject c.args.source c.args.destination) g.met.A.Arbiter.exists f.arbiter new t.sizes_is
    (performed_state f g.A.Arbiter.rule (inject c.args.source c.args.destination) c.requires.may _ (injected_state f c.args.source c.args.destination q.source_in new t))

pub invariant_of-self-clause-sound : goal.invariant_of-self-clause-sound
invariant_of-self-clause-sound g c =
    let t = c.take_in.ensures.after in
    subst (λ (x : Sizes). Sound c.take_in.new.self.queues x.depth) (sym t.sizes_is) t.sound

pub invariant_of-self-clause-few : goal.invariant_of-self-clause-few
invariant_of-self-clause-few g c =
    let q = injectable c.args.self.now c.args.source c.args.destination c.requires.may in
    omega (arith, c.take_in.ensures.after.taken_is, q.under_limit)

pub returns : goal.returns
returns g c =
    let f = c.args.self.now in
    let q = injectable f c.args.source c.args.destination c.requires.may in
    let t = c.take_in.ensures.after in
    answered_number f g.A.Arbiter.rule (inject c.args.source c.args.destination) c.requires.may _ _ (ap number c.take_in.ensures.number)
    (injected_state f c.args.source c.args.destination q.source_in c.take_in.new.self t) refl refl (ap (λ (x : Sizes). x.depth) t.sizes_is)
