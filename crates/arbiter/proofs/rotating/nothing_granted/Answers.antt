-- Without this a goal stays open (tried).
use Rattle.std.proofs.Common.{None, refl}
use Rattle.arbiter.specs.Rotation.{replicate_at}
use Rattle.arbiter.specs.Proper.{link_limit}
use Rattle.arbiter.proofs.rotating.nothing_granted.Goals as goal

pub returns : goal.returns
returns c = record { state = refl; all_none = λ link. replicate_at link_limit link None }
