-- The search for the first entry above a buffer. Assumes nothing.
use Rattle.std.specs.Prelude.{◌≡◌, ℕ, zero, suc, ◌<◌, ◌≤◌, Bool, true, false, cond, ◌⊎◌, List, length, replicate, Some, None, Option, unwrap_or, slice_index_or, refl}
use Rattle.std.proofs.Common.{sym, subst, inl, inr, ⊎_elim, arith}
use Rattle.std.specs.List.{position_or_len}
use Rattle.std.proofs.lemmas.List.{length-replicate, get_or-replicate, get_or_past}
use Rattle.std.proofs.lemmas.List.Sums.{passes_at_first, fails_before_first}
use Rattle.std.proofs.lemmas.Bool.{true≢false, ltb-true, ltb-false, lt-ltb, le-ltb, cases_lt}
use Rattle.arbiter.specs.declared.entry.Entry.{Entry}
use Rattle.arbiter.specs.Proper.{no_entry, buffer_at, Ordered}
use Rattle.arbiter.specs.Rule.{Exists}
use Rattle.arbiter.specs.Rotating.{rotating, last_on, turn, above, first_above, NoneBetween}
use Rattle.arbiter.specs.Order.{rises_at, first_lowest}

-- no entry before a place is above
abbrev Passed : Option ℕ → List Entry → ℕ → Type 0
Passed last es n = (k : ℕ) → k < n → above last (buffer_at es k) ≡ false

-- what the search gives: the first entry above, or 0 where none is
record Here (last : Option ℕ) (es : List Entry) (r : ℕ) : Type 0 where
  within : r < length es
  is_above : above last (buffer_at es r) ≡ true
  passed : Passed last es r

abbrev Found : Option ℕ → List Entry → ℕ → Type 0
Found last es r = Here last es r ⊎ ((r ≡ 0) × Passed last es (length es))

found : (last : Option ℕ) (es : List Entry) → Found last es (first_above last es)
found last es =
    let test : Entry → Bool = λ e. above last e.buffer in
    let n = position_or_len test es in
    ⊎_elim {C = Found last es (first_above last es)}
    (λ lt. subst (λ b. Found last es (unwrap_or (cond b (Some n) None) 0)) (sym (lt-ltb n (length es) lt))
    (inl (record { within = lt; is_above = passes_at_first test es no_entry lt; passed = λ k. fails_before_first test es k no_entry })))
    (λ le. subst (λ b. Found last es (unwrap_or (cond b (Some n) None) 0)) (sym (le-ltb n (length es) le))
    (inr (refl, λ k lt. fails_before_first test es k no_entry (omega arith))))
    (cases_lt n (length es))

-- the kind's own words
here_some : (a : ℕ) (es : List Entry) (r : ℕ) → Ordered es → Here (Some a) es r → NoneBetween (Some a) es r
here_some a es r o h k lt b =
    let up : a < buffer_at es r = ltb-true a (buffer_at es r) h.is_above in
    ⊎_elim
    (λ k<r. let low : buffer_at es k ≤ a = ltb-false a (buffer_at es k) (h.passed k k<r) in ⊎_elim (λ p. omega arith) (λ p. omega arith) b)
    (λ r≤k. let high : buffer_at es r ≤ buffer_at es k = rises_at es r k o.rising r≤k lt in ⊎_elim (λ p. omega arith) (λ p. omega arith) b)
    (cases_lt k r)

here_between : (last : Option ℕ) (es : List Entry) (r : ℕ) → Ordered es → Here last es r → NoneBetween last es r
here_between None es zero o h = first_lowest es o
here_between None es (suc r) o h = absurd (true≢false (h.passed 0 (omega arith)))
here_between (Some a) es r o h = here_some a es r o h

missed_between : (last : Option ℕ) (es : List Entry) → Ordered es → Passed last es (length es) → NoneBetween last es 0
missed_between None es o p = first_lowest es o
missed_between (Some a) es o p = λ k lt b.
    let low : buffer_at es k ≤ a = ltb-false a (buffer_at es k) (p k lt) in
    let high : buffer_at es 0 ≤ buffer_at es k = first_lowest es o k lt in
    ⊎_elim (λ q. omega arith) (λ q. ⊎_elim (λ w. omega arith) (λ w. omega arith) q.1) b

found_between : (last : Option ℕ) (es : List Entry) → Ordered es → NoneBetween last es (first_above last es)
found_between last es o =
    ⊎_elim (here_between last es (first_above last es) o)
    (λ m. subst (NoneBetween last es) (sym m.0) (missed_between last es o m.1))
    (found last es)

-- what the place of the search is
pub above_within : (last : Option ℕ) (es : List Entry) (r : ℕ) → r ≡ first_above last es → 0 < length es → r < length es
above_within last es r e some = ⊎_elim (λ h. let w = h.within in omega arith) (λ m. omega (arith, m.0)) (found last es)

pub above_between : (last : Option ℕ) (es : List Entry) (r : ℕ) → r ≡ first_above last es → Ordered es → NoneBetween last es r
above_between last es r e o = subst (NoneBetween last es) (sym e) (found_between last es o)

pub rotating_exists : Exists rotating
rotating_exists state link es p = above_within (last_on state link) es (turn state link es) refl p.some

-- a read of copies of the default
pub replicate_at : {X : Type 0} (n i : ℕ) (x : X) → slice_index_or (replicate n x) i x ≡ x
replicate_at n i x = ⊎_elim (get_or-replicate n i x x) (λ le. get_or_past (replicate n x) i x (simp length-replicate le)) (cases_lt i n)
