use Rattle.relabelling.specs.Labels.{OnceBelow}
use Rattle.relabelling.proofs.labelling.making.check_once.Given as goal

abbrev pub invariant-loop-second : goal.invariant-loop-second
invariant-loop-second l = OnceBelow l.second l.bytes
