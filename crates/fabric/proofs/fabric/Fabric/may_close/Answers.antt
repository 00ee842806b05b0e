use Rattle.std.proofs.Common.{rules}
use Rattle.switch.specs.Calls.Call.{close_feed}
use Rattle.fabric.proofs.Calling.{answered_refused}
use Rattle.fabric.proofs.fabric.Fabric.may_close.Goals as goal

pub returns-then-ne : goal.returns-then-ne
returns-then-ne g c = answered_refused c.args.self.now g.A.Arbiter.rule close_feed 5 (search rules)
