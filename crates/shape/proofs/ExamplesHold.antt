-- The worked examples hold, each by computation. Assumes nothing.
use Rattle.std.proofs.Common.{refl}
use Rattle.tree.specs.Trees.{climb, tree_distance, descends, in_subtree}
use Rattle.shape.specs.Examples.{Every, examples}

pub all_hold : Every examples
unfolding climb tree_distance descends in_subtree
all_hold = ((refl, refl), ((refl, refl), ((refl, refl), (refl, ((refl, refl), ((refl, refl), ((refl, refl), ((refl, refl), (refl, (refl, ((refl, refl), (refl, tt))))))))))))
