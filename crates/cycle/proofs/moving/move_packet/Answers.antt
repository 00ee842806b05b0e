-- The answers of move_packet. Assumes nothing.
use Rattle.std.proofs.Common.{rules}
use Rattle.cycle.proofs.Moves.{moved_none, moved_out, moved_on, first_hops, room_left}
use Rattle.cycle.proofs.moving.move_packet.Goals as goal

pub hopped-requires : goal.hopped-requires
hopped-requires c =
    first_hops c.args.sizes c.args.queues.now c.pop.new.self c.args.grant c.requires.movable c.in-Some.packet c.in-Some.ensures

pub unwrap-requires : goal.unwrap-requires
unwrap-requires c =
    let room = room_left c.args.sizes c.args.queues.now c.pop.new.self c.args.grant c.requires.movable c.in-Some.packet c.in-Some.ensures c.if-grant-sizes.true in
    rw (c.push.ensures.room room).0 (search rules)

pub returns-then-grant-sizes : goal.returns-then-grant-sizes
returns-then-grant-sizes c =
    moved_on c.args.sizes c.args.queues.now c.pop.new.self c.args.grant c.requires.movable c.in-Some.packet c.in-Some.ensures c.if-grant-sizes.true c.hopped.result c.hopped.ensures c.push.new.self c.push.result c.push.ensures

pub returns-else-grant-sizes : goal.returns-else-grant-sizes
returns-else-grant-sizes c =
    moved_out c.args.sizes c.args.queues.now c.pop.new.self c.args.grant c.requires.movable c.in-Some.packet c.in-Some.ensures c.if-grant-sizes.false

pub returns-in_default : goal.returns-in_default
returns-in_default c =
    moved_none c.args.sizes c.args.queues.now c.pop.new.self c.args.grant c.requires.movable c.in_default.ensures
