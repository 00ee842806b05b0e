-- The calls leave the closure as it was.
use Rattle.std.proofs.Common.{rules}
use Rattle.table.proofs.Filling.{callable, filled}
use Rattle.table.proofs.row.Row.filled.Goals as goal

pub from_fn-requires : goal.from_fn-requires
from_fn-requires g c = (search rules, callable g.F.Fn g.met.F.FnMut.1.post_iff g.met.F.Fn.1.step_stays c.args.answer (λ k. c.requires.at (k, tt)) g.row.SIZE)

pub returns : goal.returns
returns g c = filled g.F.Fn g.met.F.FnMut.1.post_iff g.met.F.Fn.1.step_stays c.args.answer g.row.SIZE _ c.from_fn.ensures.items
