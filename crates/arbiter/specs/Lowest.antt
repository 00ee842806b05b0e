-- The arbiter that grants the lowest buffer. Assumes nothing.
use Rattle.std.specs.Prelude.{ℕ, ◌<◌, ◌≤◌, List, length}
use Rattle.arbiter.specs.declared.entry.Entry.{Entry}
use Rattle.arbiter.specs.declared.lowest.Lowest.{Lowest}
use Rattle.arbiter.specs.Proper.{buffer_at}
use Rattle.arbiter.specs.Rule.{Rule}

-- The first place, and nothing to remember.
abbrev pub lowest : Rule Lowest
lowest = record { place = λ _ _ _. 0; next = λ state _ _. state }

-- What the kind is for: no listed buffer is lower than the one at the place.
abbrev pub NoneLower : List Entry → ℕ → Type 0
NoneLower es place = (k : ℕ) → k < length es → buffer_at es place ≤ buffer_at es k
