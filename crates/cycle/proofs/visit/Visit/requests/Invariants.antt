-- The requests found so far, and those from the next buffer in the chain on, are all.
use Rattle.cycle.specs.Measures.{visit_of}
use Rattle.cycle.specs.Starts.{snapshot}
use Rattle.cycle.proofs.Scanning.{Found, below}
use Rattle.cycle.proofs.visit.Visit.requests.Given as goal

abbrev pub invariant-loop-next : goal.invariant-loop-next
invariant-loop-next g l = Found (snapshot l.self.start.now) l.self.granted.now (visit_of l.self.node l.self.port) l.entries.items l.next

abbrev pub decreases-loop-next : goal.decreases-loop-next
decreases-loop-next g l = below l.self.start.now.plan.now.sizes.buffers l.next
