-- Each array holds what its closures answer: the four one by one, since one search for all has no margin.
use Rattle.std.proofs.Common.{rules}
use Rattle.table.proofs.reading.answers_of.Goals as goal

pub returns-clause-arrays : goal.returns-clause-arrays
returns-clause-arrays g c = record { links_are = search rules; distances_are = search rules; escapes_are = search rules; ranks_are = search rules }
