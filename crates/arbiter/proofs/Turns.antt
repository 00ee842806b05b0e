-- The search for the oldest packet by `min_by_key`. Assumes nothing.
use Rattle.std.proofs.Common.{◌≡◌, ℕ, ◌+◌, true, false, Bool, cond, List, [], ◌∷◌, map, Some, None, Option, nat_lt, refl, sym, ap, ◌∙◌, arith}
use Rattle.std.specs.Prelude.{MatchOption}
use Rattle.std.specs.declared.iter.Enumerate.{Enumerate}
use Rattle.std.specs.declared.slice.Iter.{Iter}
use Rattle.std.specs.declared.cmp.Ordering.{Ordering}
use denote.Ref.{Bor}
use denote.Param.Members.{Mut}
use Rattle.std.specs.Fn.{CalledAt}
use Rattle.std.specs.Iterator.{KeyTurn, PicksMinByKey, Drains}
use Rattle.std.specs.List.{FoldsTo, enumerate_from}
use Rattle.std.specs.Ordering.{min_by_ordering, nat_cmp}
use Rattle.std.specs.Iterator.Adapters.{enumerate_source, enumerate_count, enumerate_steps}
use Rattle.std.specs.Slice.Iter.{iter_rest}
use Rattle.std.proofs.iter.Yields.{fronts}
use Rattle.std.proofs.lemmas.Bool.Decides.{nat_tests}
use Rattle.std.proofs.lemmas.Iterator.{YieldsList, YieldsList-from_slice, items_from_drains}
use Rattle.std.proofs.lemmas.Iterator.Consumers.{YieldsList-from_enumerate}
use Rattle.arbiter.specs.declared.entry.Entry.{Entry}
use Rattle.arbiter.specs.Oldest.{oldest_from, oldest_place}

-- `min_by_key` over the entries with their places, by the packet: its turns are those of the search
min_is : {X : Type 0} (a b : ℕ) (x y : X) → min_by_ordering (nat_cmp a b) x y ≡ cond (nat_lt b a) y x
min_is a b x y = grind (arith, nat_tests)

cond_first : (b : Bool) (x y : ℕ × Bor Entry) → cond b x.0 y.0 ≡ (cond b x y).0
cond_first true x y = refl
cond_first false x y = refl

branches : (b : Bool) (i j p q n : ℕ) (es : List Entry) → oldest_from (cond b i j) (cond b p q) n es ≡ cond b (oldest_from i p n es) (oldest_from j q n es)
branches true i j p q n es = refl
branches false i j p q n es = refl

-- the items that came, as places and entries
items_are : {S : Type 0} (steps : S → Option (ℕ × Bor Entry) → S → Type 0) (s : S) (xs : List (ℕ × Bor Entry)) (es : List Entry) → Drains steps s xs
    → YieldsList steps (λ p. (p.0, p.1.now)) s (enumerate_from 0 es) → map (λ x. (x.0, x.1.now)) xs ≡ enumerate_from 0 es
items_are steps s xs es d l = items_from_drains {steps = steps} {s = s} xs (d.1.0, d.1.1, λ _. (d.0, d.1.2)) l

module _ {F : Type 0} (g : Mut F (Bor (ℕ × Bor Entry) × Unit {0}) ℕ) (keyed : (x : ℕ × Bor Entry) (k : ℕ) (f f' : F) → CalledAt g f x k f' → k ≡ x.1.now.packet) where
  turns_to : (xs : List (ℕ × Bor Entry)) (es : List Entry) (i : ℕ) (p q : (F × ℕ) × (ℕ × Bor Entry)) → map (λ x. (x.0, x.1.now)) xs ≡ enumerate_from i es
      → FoldsTo (KeyTurn min_by_ordering min_by_ordering g nat_cmp) p xs q → q.1.0 ≡ oldest_from p.1.0 p.0.1 i es
  turns_to [] [] i p q m t = ap (λ v. v.1.0) (sym t)
  turns_to [] (e ∷ es) i p q m t = cc
  turns_to (x ∷ xs) [] i p q m t = cc
  turns_to (x ∷ xs) (e ∷ es) i p q m t =
      let j = t.0 in
      let h = t.1 in
      let pair : (ℕ × Entry) = (x.0, x.1.now) in
      let same : pair ≡ (i, e) = cc in
      let at : x.0 ≡ i = ap (λ (v : ℕ × Entry). v.0) same in
      let here : x.1.now ≡ e = ap (λ (v : ℕ × Entry). v.1) same in
      let rest : map (λ x. (x.0, x.1.now)) xs ≡ enumerate_from (i + 1) es = cc in
      let k : h.0 ≡ e.packet = keyed x h.0 p.0.0 j.0.0 h.2 ∙ ap (λ (e : Entry). e.packet) here in
      let o : h.1 ≡ nat_cmp p.0.1 e.packet = sym h.3 ∙ ap (nat_cmp p.0.1) k in
      let b = nat_lt e.packet p.0.1 in
      let key : j.0.1 ≡ cond b e.packet p.0.1 = h.4 ∙ ap (λ (v : Ordering × ℕ). min_by_ordering v.0 p.0.1 v.1) {x = (h.1, h.0)} {y = (nat_cmp p.0.1 e.packet, e.packet)} (λ i. (o i, k i)) ∙ min_is p.0.1 e.packet p.0.1 e.packet in
      let best : j.1.0 ≡ cond b i p.1.0 =
      ap (λ (v : ℕ × Bor Entry). v.0) (h.5 ∙ ap (λ o. min_by_ordering o p.1 x) o ∙ min_is p.0.1 e.packet p.1 x) ∙ sym (cond_first b x p.1) ∙ ap (λ n. cond b n p.1.0) at in
      turns_to xs es (i + 1) j q rest t.2 ∙ ap (λ (v : ℕ × ℕ). oldest_from v.0 v.1 (i + 1) es) {x = (j.1.0, j.0.1)} {y = (cond b i p.1.0, cond b e.packet p.0.1)} (λ z. (best z, key z)) ∙ branches b i p.1.0 e.packet p.0.1 (i + 1) es

  pub first_oldest : {S : Type 0} {steps : S → Option (ℕ × Bor Entry) → S → Type 0} {s : S} (es : List Entry) (f : F) (r : Option (ℕ × Bor Entry)) → PicksMinByKey steps g nat_cmp s f r
      → YieldsList steps (λ p. (p.0, p.1.now)) s (enumerate_from 0 es) → MatchOption r (0 ≡ oldest_place es) (λ y. y.0 ≡ oldest_place es)
  first_oldest {steps = steps} {s = s} [] f None d l = refl
  first_oldest {steps = steps} {s = s} (e ∷ es) f None d l = let m = items_are steps s [] (e ∷ es) d l in cc
  first_oldest {steps = steps} {s = s} [] f (Some y) d l = let m = items_are steps s (d.0 ∷ d.1) [] d.5 l in cc
  first_oldest {steps = steps} {s = s} (e ∷ es) f (Some y) d l = let m = items_are steps s (d.0 ∷ d.1) (e ∷ es) d.5 l in
      let pair : (ℕ × Entry) = (d.0.0, d.0.1.now) in
      let same : pair ≡ (0, e) = cc in
      let rest : map (λ x. (x.0, x.1.now)) d.1 ≡ enumerate_from 1 es = cc in
      let key : d.2 ≡ e.packet = keyed d.0 d.2 f d.3 d.6 ∙ ap (λ (v : ℕ × Entry). v.1.packet) same in
      turns_to d.1 es 1 ((d.3, d.2), d.0) (d.4, y) rest d.7 ∙ ap (λ (v : ℕ × ℕ). oldest_from v.0 v.1 1 es) {x = (d.0.0, d.2)} {y = (0, e.packet)} (λ z. ((same z).0, key z))

place_of : (r : Option (ℕ × Bor Entry)) (place n : ℕ) → MatchOption r (0 ≡ n) (λ y. y.0 ≡ n) → MatchOption r (place ≡ 0) (λ y. place ≡ y.0) → place ≡ n
place_of None place n h e = e ∙ h
place_of (Some y) place n h e = e ∙ h

pub oldest_found : {F : Type 0} (g : Mut F (Bor (ℕ × Bor Entry) × Unit {0}) ℕ) (f : F) (s : Enumerate (Iter Entry)) (es : List Entry) (r : Option (ℕ × Bor Entry)) (place : ℕ)
    → PicksMinByKey (enumerate_steps fronts) g nat_cmp s f r → MatchOption r (place ≡ 0) (λ y. place ≡ y.0) → enumerate_count s ≡ 0 → iter_rest (enumerate_source s) ≡ es
    → ((x : ℕ × Bor Entry) (k : ℕ) (f f' : F) → CalledAt g f x k f' → k ≡ x.1.now.packet) → place ≡ oldest_place es
oldest_found g f s es r place d e zero rest keyed = place_of r place (oldest_place es) (first_oldest g keyed es f r d (YieldsList-from_enumerate (YieldsList-from_slice es rest) zero)) e
