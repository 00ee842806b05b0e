-- Each grant is carried out where those before it have left the buffers.
use Rattle.std.proofs.Common.{◌+◌, drop, sym, ap, ◌∙◌, subst}
use Rattle.switch.specs.Buffers.{Buffers}
use Rattle.switch.specs.Cycle.{moves}
use Rattle.cycle.specs.Measures.{buffers_in}
use Rattle.cycle.specs.Moves.{AllMovable}
use Rattle.cycle.proofs.Moves.{moves_more, movable_more, moves_none}
use Rattle.cycle.proofs.moving.move_each.Goals as goal

pub loop-grant-preserved : goal.loop-grant-preserved
loop-grant-preserved c =
    let sizes = c.args.sizes in
    let gs = c.args.grants.now in
    let i = c.loop-grant.grant-index in
    let h = c.loop-grant-test.true in
    let bs = buffers_in sizes c.loop-grant.queues in
    let m = movable_more sizes bs gs i h c.loop-grant.invariant.movable in
    let e = c.move_packet.ensures.buffers_are in
    record {
      buffers_are = ap (λ (x : Buffers). moves sizes.buffers x (drop (i + 1) gs)) e ∙ sym (moves_more sizes.buffers bs gs i h) ∙ c.loop-grant.invariant.buffers_are;
      movable = subst (λ (x : Buffers). AllMovable sizes x (drop (i + 1) gs)) (sym e) m.1;
      sound = c.move_packet.ensures.sound;
    }

pub returns : goal.returns
returns c =
    let sizes = c.args.sizes in
    let gs = c.args.grants.now in
    record {
      buffers_are = sym (moves_none sizes.buffers (buffers_in sizes c.loop-grant.queues) gs c.loop-grant.grant-index c.loop-grant-test.false) ∙ c.loop-grant.invariant.buffers_are;
      sound = c.loop-grant.invariant.sound;
    }
