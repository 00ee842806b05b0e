use Rattle.relabelling.specs.Labels.{WithinBelow}
use Rattle.relabelling.proofs.labelling.making.check_within.Given as goal

abbrev pub invariant-loop-label : goal.invariant-loop-label
invariant-loop-label l = WithinBelow l.label l.bytes
