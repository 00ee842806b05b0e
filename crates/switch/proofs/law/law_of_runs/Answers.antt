-- It carries the theorem.
use Rattle.switch.proofs.LawHolds.{switch_law}
use Rattle.switch.proofs.law.law_of_runs.Goals as goal

pub returns : goal.returns
returns g c = switch_law g.A.Arbiter.rule
