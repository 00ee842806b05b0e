-- The search for the oldest packet. Assumes nothing.
use Rattle.std.specs.Prelude.{◌≡◌, ℕ, ◌+◌, ◌<◌, ◌≤◌, cond, List, [], ◌∷◌, length, drop, nat_lt, slice_index_or, refl}
use Rattle.std.proofs.Common.{sym, ap, subst, ⊎_elim, arith, below_more}
use Rattle.std.proofs.lemmas.List.{drop_more, length-drop}
use Rattle.std.proofs.lemmas.Bool.{cond-true, cond-false, ltb-true, ltb-false, cases_Bool}
use Rattle.arbiter.specs.declared.entry.Entry.{Entry}
use Rattle.arbiter.specs.Proper.{no_entry, packet_at}
use Rattle.arbiter.specs.Rule.{Exists}
use Rattle.arbiter.specs.Oldest.{oldest, oldest_from, oldest_place, NoneOlder}

-- the best of the places below n
record Best (es : List Entry) (n best : ℕ) : Type 0 where
  within : best < length es
  none_older : (k : ℕ) → k < n → packet_at es best ≤ packet_at es k
  none_earlier : (k : ℕ) → k < best → packet_at es best < packet_at es k
  behind : best < n

best_here : (es : List Entry) (i best : ℕ) → i < length es → Best es i best → packet_at es i < packet_at es best → Best es (i + 1) i
best_here es i best h b lt = record {
  within = h;
  none_older = below_more (λ k. packet_at es i ≤ packet_at es k) i (λ k l. let o = b.none_older k l in omega arith) (omega arith);
  none_earlier = λ k l. let o = b.none_older k l in omega arith;
  behind = omega arith;
}

best_later : (es : List Entry) (i best : ℕ) → Best es i best → packet_at es best ≤ packet_at es i → Best es (i + 1) best
best_later es i best b le = record {
  within = b.within;
  none_older = below_more (λ k. packet_at es best ≤ packet_at es k) i b.none_older le;
  none_earlier = b.none_earlier;
  behind = let l = b.behind in omega arith;
}

best_from : (es : List Entry) (i best : ℕ) (rest : List Entry) → drop i es ≡ rest → Best es i best → Best es (length es) (oldest_from best (packet_at es best) i rest)
best_from es i best [] d b =
    let le : length es ≤ i = omega (arith, length-drop i es, ap length d) in
    record {
      within = b.within;
      none_older = λ k l. b.none_older k (omega arith);
      none_earlier = b.none_earlier;
      behind = b.within;
    }
best_from es i best (e ∷ rest) d b =
    let h : i < length es = omega (arith, length-drop i es, ap length d) in
    let m = drop_more es i no_entry h in
    let here : slice_index_or es i no_entry ≡ e = cc in
    let later : drop (i + 1) es ≡ rest = cc in
    subst (λ (x : Entry). Best es (length es) (oldest_from best (packet_at es best) i (x ∷ rest))) here
    (⊎_elim {C = Best es (length es) (cond (nat_lt (packet_at es i) (packet_at es best)) (oldest_from i (packet_at es i) (i + 1) rest) (oldest_from best (packet_at es best) (i + 1) rest))}
    (λ t. subst (Best es (length es)) (sym (cond-true (nat_lt (packet_at es i) (packet_at es best)) (oldest_from i (packet_at es i) (i + 1) rest) (oldest_from best (packet_at es best) (i + 1) rest) t))
    (best_from es (i + 1) i rest later (best_here es i best h b (ltb-true (packet_at es i) (packet_at es best) t))))
    (λ f. subst (Best es (length es)) (sym (cond-false (nat_lt (packet_at es i) (packet_at es best)) (oldest_from i (packet_at es i) (i + 1) rest) (oldest_from best (packet_at es best) (i + 1) rest) f))
    (best_from es (i + 1) best rest later (best_later es i best b (ltb-false (packet_at es i) (packet_at es best) f))))
    (cases_Bool (nat_lt (packet_at es i) (packet_at es best))))

best_oldest : (es : List Entry) → 0 < length es → Best es (length es) (oldest_place es)
best_oldest [] some = absurd (omega arith)
best_oldest (e ∷ es) some =
    best_from (e ∷ es) 1 0 es refl (record {
      within = some;
      none_older = λ k l. let z : k ≡ 0 = omega arith in subst (λ (j : ℕ). packet_at (e ∷ es) 0 ≤ packet_at (e ∷ es) j) (sym z) (omega arith);
      none_earlier = λ k l. absurd (omega arith);
      behind = omega arith;
    })

-- what the place of the search is
pub oldest_exists : Exists oldest
oldest_exists state link es p = (best_oldest es p.some).within

pub oldest_first : (es : List Entry) (r : ℕ) → r ≡ oldest_place es → 0 < length es → NoneOlder es r
oldest_first es r e some =
    let b = best_oldest es some in
    subst (NoneOlder es) (sym e) (record { none_older = b.none_older; none_earlier = λ k l same. let s = b.none_earlier k l in omega arith })
