use Rattle.std.proofs.Common.{arith, rules}
use Rattle.std.proofs.lemmas.Bool.Decides.{nat_tests}
use Rattle.switch.specs.Calls.Call.{drain}
use Rattle.fabric.proofs.Calling.{answered_refused}
use Rattle.fabric.proofs.fabric.Fabric.may_drain.Goals as goal

pub returns-then-ne : goal.returns-then-ne
returns-then-ne g c = answered_refused c.args.self.now g.A.Arbiter.rule drain 12 (search rules)

pub returns-then-self-work : goal.returns-then-self-work
returns-then-self-work g c = answered_refused c.args.self.now g.A.Arbiter.rule drain 11 (grind (arith, nat_tests))
