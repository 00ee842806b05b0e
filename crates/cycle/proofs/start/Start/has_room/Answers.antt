-- The buffer holds as many packets as its queue says.
use Rattle.std.proofs.Common.{◌∙◌}
use Rattle.cycle.proofs.Lookups.{room_is}
use Rattle.cycle.proofs.start.Start.has_room.Goals as goal

pub returns : goal.returns
returns g c = let start = c.args.self.now in c.is_below.ensures ∙ room_is start.plan.now.sizes start.queues.now c.args.b c.requires c.len.result (c.len.ensures start.plan.now.sizes.depth)
