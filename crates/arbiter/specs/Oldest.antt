-- The arbiter that grants the oldest packet. Assumes nothing.
use Rattle.std.specs.Prelude.{ℕ, ◌+◌, ◌<◌, ◌≤◌, cond, List, [], ◌∷◌, length, ◌≢◌, nat_lt}
use Rattle.arbiter.specs.declared.entry.Entry.{Entry}
use Rattle.arbiter.specs.declared.oldest.Oldest.{Oldest}
use Rattle.arbiter.specs.Proper.{packet_at}
use Rattle.arbiter.specs.Rule.{Rule}

-- The place of the oldest packet among the one p at the place best and those of the list, whose first place is i; the
-- first of equals.
abbrev pub oldest_from : ℕ → ℕ → ℕ → List Entry → ℕ
oldest_from best p i [] = best
oldest_from best p i (e ∷ es) = cond (nat_lt e.packet p) (oldest_from i e.packet (i + 1) es) (oldest_from best p (i + 1) es)

abbrev pub oldest_place : List Entry → ℕ
oldest_place [] = 0
oldest_place (e ∷ es) = oldest_from 0 e.packet 1 es

-- The place of the oldest packet, and nothing to remember.
abbrev pub oldest : Rule Oldest
oldest = record { place = λ _ _ es. oldest_place es; next = λ state _ _. state }

-- What the kind is for: no listed packet is older than the one at the place, and of equals none stands earlier.
pub record NoneOlder (es : List Entry) (place : ℕ) : Type 0 where
  pub none_older : (k : ℕ) → k < length es → packet_at es place ≤ packet_at es k
  pub none_earlier : (k : ℕ) → k < place → packet_at es k ≢ packet_at es place
