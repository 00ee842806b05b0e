use Rattle.std.proofs.Common.{arith}
use mir.Facts.{Fits-below}
use Rattle.std.proofs.lemmas.Bool.Decides.{nat_tests}
use Rattle.switch.specs.Calls.Call.{cycle}
use Rattle.fabric.proofs.Calling.{answered_refused}
use Rattle.fabric.proofs.Cycling.{visits_are, visits_few}
use Rattle.fabric.proofs.fabric.Fabric.may_cycle.Goals as goal

pub overflow_mul-self : goal.overflow_mul-self
overflow_mul-self g c = Fits-below {n = 448} tt (visits_few c.args.self.now)

pub returns-then-room-self : goal.returns-then-room-self
returns-then-room-self g c =
    let f = c.args.self.now in
    let e = visits_are f in
    answered_refused f g.A.Arbiter.rule (cycle c.args.room) 10 (grind (arith, nat_tests))

pub returns-then-self-ge1000000 : goal.returns-then-self-ge1000000
returns-then-self-ge1000000 g c =
    let f = c.args.self.now in
    let e = visits_are f in
    answered_refused f g.A.Arbiter.rule (cycle c.args.room) 11 (grind (arith, nat_tests))

pub returns : goal.returns
returns g c = let e = visits_are c.args.self.now in grind (arith, nat_tests)
