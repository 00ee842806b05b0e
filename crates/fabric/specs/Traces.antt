-- What a cycle leaves of its trace. Assumes nothing.
use Rattle.std.specs.Prelude.{◌≡◌, ℕ, List, length, take, drop}
use Rattle.switch.specs.declared.grant.Grant.{Grant}

-- The grants of a cycle stand at the front of the trace, and the rest is as it was.
pub record Traced (gs : List Grant) (old new : List Grant) (count : ℕ) : Type 0 where
  pub count_is : count ≡ length gs
  pub front : take count new ≡ gs
  pub rest : drop count new ≡ drop count old
