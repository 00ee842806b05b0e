-- What order gives, by places, and which list is in order. Assumes nothing.
use Rattle.std.specs.Prelude.{ℕ, zero, suc, ◌+◌, ◌-◌, ◌<◌, ◌≤◌, List, [], ◌∷◌, length}
use Rattle.std.proofs.Common.{add-one, arith}
use Rattle.std.proofs.ByRecursion.{All-weaker, All-get_or, All-from_get_or}
use Rattle.arbiter.specs.declared.entry.Entry.{Entry}
use Rattle.arbiter.specs.Lowest.{lowest, NoneLower}
use Rattle.arbiter.specs.Rule.{Exists}
use Rattle.arbiter.specs.Proper.{buffer_limit, no_entry, buffer_at, Rising, Ordered}

-- in a list in order, by places
pub rises_at : (es : List Entry) (i j : ℕ) → Rising es → i ≤ j → j < length es → buffer_at es i ≤ buffer_at es j
rises_at [] i j r le lt = absurd (omega arith)
rises_at (e ∷ es) zero zero r le lt = omega arith
rises_at (e ∷ es) zero (suc j) r le lt = let h = All-get_or (λ f. e.buffer < f.buffer) es j no_entry (omega arith) r.0 in omega arith
rises_at (e ∷ es) (suc i) zero r le lt = absurd (omega arith)
rises_at (e ∷ es) (suc i) (suc j) r le lt = rises_at es i j r.1 (omega arith) (omega arith)

pub under_at : (es : List Entry) (i : ℕ) → Ordered es → i < length es → buffer_at es i < buffer_limit
under_at es i o lt = All-get_or (λ e. e.buffer < buffer_limit) es i no_entry lt o.under

pub first_lowest : (es : List Entry) → Ordered es → NoneLower es 0
first_lowest es o k lt = rises_at es 0 k o.rising (omega arith) lt

pub lowest_exists : Exists lowest
lowest_exists state link es p = p.some

-- each buffer is under the next
abbrev pub Climbing : List Entry → Type 0
Climbing es = (k : ℕ) → k + 1 < length es → buffer_at es k < buffer_at es (k + 1)

climbs_after : (e : Entry) (es : List Entry) → Climbing (e ∷ es) → Climbing es
climbs_after e es h k lt = let up = h (suc k) (omega arith) in rw add-one (rw add-one at up)

rising_from : (es : List Entry) → Climbing es → Rising es
rising_from [] h = tt
rising_from (e ∷ []) h = (tt, tt)
rising_from (e ∷ (f ∷ es)) h =
    let r : Rising (f ∷ es) = rising_from (f ∷ es) (climbs_after e (f ∷ es) h) in
    let up : e.buffer < f.buffer = h 0 (omega arith) in
    ((up, All-weaker (λ g. f.buffer < g.buffer) (λ g. e.buffer < g.buffer) (λ g l. omega arith) es r.0), r)

-- buffers that climb to one in range are in order
pub in_order : (es : List Entry) → Climbing es → (0 < length es → buffer_at es (length es - 1) < buffer_limit) → Ordered es
in_order es h last =
    let r = rising_from es h in
    record {
      rising = r;
      under = All-from_get_or (λ e. e.buffer < buffer_limit) es no_entry (λ i l. let n = last (omega arith) in let m = rises_at es i (length es - 1) r (omega arith) (omega arith) in omega arith);
    }

pub climbs : (es : List Entry) → Rising es → Climbing es
climbs [] r k lt = absurd (omega arith)
climbs (e ∷ es) r zero lt = All-get_or (λ f. e.buffer < f.buffer) es 0 no_entry (omega arith) r.0
climbs (e ∷ es) r (suc k) lt = let up = climbs es r.1 k (omega arith) in rw add-one (rw add-one at up)
