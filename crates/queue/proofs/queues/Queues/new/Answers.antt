-- No buffer holds a packet where every record is that of an empty queue.
use Rattle.std.proofs.Common.{replicate, sym, ap, subst}
use Rattle.queue.specs.declared.queue.Queue.{Queue}
use Rattle.queue.specs.Contents.{Empty}
use Rattle.queue.proofs.Frames.{empty}
use Rattle.queue.proofs.queues.Queues.new.Goals as goal

pub returns-clause-queues : goal.returns-clause-queues
returns-clause-queues c = ap (replicate 2048) c.new.ensures

pub returns-clause-empty : goal.returns-clause-empty
returns-clause-empty c = subst (λ (q : Queue). Empty (record { queues = replicate 2048 q; slots = _ })) (sym c.new.ensures) (empty 2048 _)
