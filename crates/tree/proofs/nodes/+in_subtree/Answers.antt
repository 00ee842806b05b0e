-- Without these a goal stays open (tried).
use Rattle.std.proofs.Common.{sym, ◌∙◌, arith}
use Rattle.std.proofs.lemmas.Bool.{eq-eqb, le-ltb}
use Rattle.tree.specs.TreeFacts.{subtree_same, subtree_none, subtree_more}
use Rattle.tree.proofs.nodes.+in_subtree.Goals as goal

pub returns-then-top-d : goal.returns-then-top-d
returns-then-top-d t c =
    let e = c.if-top-d.true in
    eq-eqb c.args.top c.args.d e ∙ sym (subtree_same c.args.top c.args.d e)

pub returns-then-top-d-2 : goal.returns-then-top-d-2
returns-then-top-d-2 t c = let e = subtree_more c.args.top c.args.d c.if-top-d-2.true in cc

pub returns-else-top-d-2 : goal.returns-else-top-d-2
returns-else-top-d-2 t c =
    le-ltb c.args.top c.args.d c.if-top-d-2.false ∙ sym (subtree_none c.args.top c.args.d (omega arith))
