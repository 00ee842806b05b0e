-- Without these a goal stays open (tried).
use Rattle.std.proofs.Common.{◌≡◌, min, max, sym, arith}
use Rattle.tree.specs.Trees.{parent, tree_distance}
use Rattle.tree.specs.TreeFacts.{distance_same, distance_step}
use Rattle.tree.proofs.nodes.+hops_between.Goals as goal

pub returns-then-n-d : goal.returns-then-n-d
returns-then-n-d t c = record { is = sym (distance_same c.args.n c.args.d c.if-n-d.true); small = omega arith }

pub returns-else-n-d : goal.returns-else-n-d
returns-else-n-d t c =
    let e = distance_step c.args.n c.args.d c.if-n-d.false in
    let r : c.hops_between.result ≡ tree_distance (parent (max c.args.n c.args.d)) (min c.args.n c.args.d) = cc in
    record { is = omega arith; small = omega arith }
