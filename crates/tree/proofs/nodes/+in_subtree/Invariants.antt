-- What falls, which the check asks for.
use Rattle.tree.proofs.nodes.+in_subtree.Given as goal

abbrev pub decreases-in_subtree : goal.decreases-in_subtree
decreases-in_subtree l = l.d
