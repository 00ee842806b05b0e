-- The arbiter that goes round the buffers. Assumes nothing.
use Rattle.std.specs.Prelude.{◌≡◌, ℕ, ◌<◌, ◌≤◌, Bool, true, ◌≢◌, ◌⊎◌, List, length, Some, None, Option, unwrap_or, nat_lt, position, slice_index_or, slice_set}
use Rattle.arbiter.specs.declared.entry.Entry.{Entry}
use Rattle.arbiter.specs.declared.rotating.Rotating.{Rotating}
use Rattle.arbiter.specs.Proper.{buffer_at}
use Rattle.arbiter.specs.Rule.{Rule}
use Rattle.arbiter.specs.Lowest.{NoneLower}

-- A buffer is above another; any is above none.
abbrev pub above : Option ℕ → ℕ → Bool
above None b = true
above (Some a) b = nat_lt a b

-- The place of the first entry above a buffer; 0 where there is none.
abbrev pub first_above : Option ℕ → List Entry → ℕ
first_above last es = unwrap_or (position (λ e. above last e.buffer) es) 0

-- The buffer granted last on a link, none where the link was never granted.
abbrev pub last_on : Rotating → ℕ → Option ℕ
last_on state link = slice_index_or state.last link None

-- The state that remembers a buffer for this link, and for no other.
abbrev pub remember : Rotating → ℕ → ℕ → Rotating
remember state link b = record { last = slice_set state.last link (Some b) }

-- The first entry above the buffer granted last on this link, else the first place.
abbrev pub turn : Rotating → ℕ → List Entry → ℕ
turn state link es = first_above (last_on state link) es

-- The granted buffer is remembered.
abbrev pub rotating : Rule Rotating
rotating = record { place = turn; next = λ state link es. remember state link (buffer_at es (turn state link es)) }

-- Going up from a to b, and round from the highest number to the lowest where b is not above a, one passes x before b.
abbrev pub Between : ℕ → ℕ → ℕ → Type 0
Between a b x = ((a < b) × ((a < x) × (x < b))) ⊎ ((b ≤ a) × ((a < x) ⊎ (x < b)))

-- No listed buffer lies strictly between the buffer last and the one at the place, going up and round; with no buffer
-- to start from, none is lower.
abbrev pub NoneBetween : Option ℕ → List Entry → ℕ → Type 0
NoneBetween None es place = NoneLower es place
NoneBetween (Some a) es place = (k : ℕ) → k < length es → Between a (buffer_at es place) (buffer_at es k) → ⊥

-- A buffer is the one granted last on a link; on the other links it is the one that it was before.
pub record Remembered (before after : Rotating) (link b : ℕ) : Type 0 where
  pub here : last_on after link ≡ Some b
  pub elsewhere : (other : ℕ) → other ≢ link → last_on after other ≡ last_on before other

-- What the kind is for: no listed buffer lies strictly between the one granted last on this link and the one at the
-- place, going up and round; the one at the place is then the one granted last.
pub record Rotated (before after : Rotating) (link : ℕ) (es : List Entry) (place : ℕ) : Type 0 where
  pub none_between : NoneBetween (last_on before link) es place
  pub remembered : Remembered before after link (buffer_at es place)
