-- The buffer has a record. By hand, since the check does not find it by the lemma in the attribute (tried).
use Rattle.std.proofs.Common.{rules}
use Rattle.queue.proofs.Frames.{has_record}
use Rattle.queue.proofs.queues.Queues.push.Goals as goal

pub offset_bounds-self-b : goal.offset_bounds-self-b
offset_bounds-self-b c = let below = has_record c.args.self.now c.args.depth c.args.b c.requires.sound c.requires.in_range in search rules

pub bounds-self-b : goal.bounds-self-b
bounds-self-b c = has_record c.args.self.now c.args.depth c.args.b c.requires.sound c.requires.in_range
