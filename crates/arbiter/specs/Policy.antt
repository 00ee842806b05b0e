-- The arbiter of a kind that is chosen at run time. Assumes nothing.
use Rattle.std.specs.Prelude.{ℕ, List}
use Rattle.arbiter.specs.declared.entry.Entry.{Entry}
use Rattle.arbiter.specs.declared.policy.Policy.{Policy}
use Rattle.arbiter.specs.declared.policy.Policy.TheVariants.{Lowest, Rotating, Oldest}
use Rattle.arbiter.specs.Rule.{Rule}
use Rattle.arbiter.specs.Lowest.{lowest}
use Rattle.arbiter.specs.Rotating.{rotating}
use Rattle.arbiter.specs.Oldest.{oldest}

abbrev pub place_by : Policy → ℕ → List Entry → ℕ
place_by (Lowest a) link es = lowest.place a link es
place_by (Rotating a) link es = rotating.place a link es
place_by (Oldest a) link es = oldest.place a link es

abbrev pub next_by : Policy → ℕ → List Entry → Policy
next_by (Lowest a) link es = Lowest (lowest.next a link es)
next_by (Rotating a) link es = Rotating (rotating.next a link es)
next_by (Oldest a) link es = Oldest (oldest.next a link es)

-- The rule of the arbiter that is held; the kind stays.
abbrev pub policy : Rule Policy
policy = record { place = place_by; next = next_by }
