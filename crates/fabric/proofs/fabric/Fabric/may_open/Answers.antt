use Rattle.std.proofs.Common.{rules}
use Rattle.switch.specs.Calls.Call.{open_feed}
use Rattle.fabric.proofs.Calling.{answered_refused}
use Rattle.fabric.proofs.fabric.Fabric.may_open.Goals as goal

pub returns-then-ne : goal.returns-then-ne
returns-then-ne g c = answered_refused c.args.self.now g.A.Arbiter.rule open_feed 4 (search rules)
