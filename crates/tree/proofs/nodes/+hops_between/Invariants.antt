-- What falls, which the check asks for.
use Rattle.std.proofs.Common.{◌+◌}
use Rattle.tree.proofs.nodes.+hops_between.Given as goal

abbrev pub decreases-hops_between : goal.decreases-hops_between
decreases-hops_between l = l.n + l.d
