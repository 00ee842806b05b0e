-- It carries the theorem.
use Rattle.shape.proofs.ExamplesHold.{all_hold}
use Rattle.shape.proofs.examples.examples_hold.Goals as goal

pub returns : goal.returns
returns c = all_hold
