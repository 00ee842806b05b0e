use Rattle.std.proofs.Common.{◌*◌, ◌≤◌, mul-le-mul, arith}
use mir.Facts.{Fits-below}
use Rattle.fabric.proofs.Starting.{buffers_small}
use Rattle.fabric.proofs.fabric.making.may_make.Goals as goal

pub overflow_mul-of : goal.overflow_mul-of
overflow_mul-of g c =
    let small = buffers_small (g.R.Routing.meaning c.args.routing.now) (g.met.R.Routing.bounds c.args.routing.now) c.of.result c.args.depth c.of.ensures in
    let product : c.of.result.buffers * c.args.depth ≤ 1216 * 4 = mul-le-mul small c.if-depth-gt4.false in
    Fits-below {n = 4864} tt (omega arith)
