-- The ring keeps the laws. Assumes nothing.
use Rattle.std.proofs.Common.{◌≡◌, ℕ, ◌+◌, ◌-◌, ◌*◌, ◌%◌, ◌<◌, ◌≤◌, min, true, cond, eqb, ltb, leb, Some, refl, ap, ◌∙◌, inl, inr, mod-eq_of_lt, one-mul, zero-mul, arith, lit<, lit≤}
use native.Mathlib.Nat.{add-mod_right, mod_self}
use Rattle.std.proofs.lemmas.Bool.Decides.{nat_tests}
use Rattle.std.proofs.lemmas.Bool.{cond_both, leb-true, and_parts, cases_lt}
use Rattle.network.specs.Network.{Network, hop}
use Rattle.network.specs.Laws.{Leads, Sizes, Lawful}
use Rattle.network.proofs.Restricted.{Sound, Agree, agree_sound, usable_lawful}
use Rattle.ring.specs.Rings.{ring_up, ring_rule, ring_sized, ring}

-- the same rule without remainders
abbrev around : ℕ → ℕ → ℕ → ℕ
around k n d = cond (leb n d) (d - n) (d + k - n)

abbrev after : ℕ → ℕ → ℕ
after k n = cond (ltb (n + 1) k) (n + 1) 0

abbrev before : ℕ → ℕ → ℕ
before k n = cond (eqb n 0) (k - 1) (n - 1)

abbrev flat : ℕ → Network
flat k = record {
  nodes = k;
  ports = 2;
  classes = 2;
  ceiling = 2 * k;
  link = λ n p. cond (eqb p 0) (Some (after k n)) (Some (before k n));
  distance = λ n d. min (around k n d) (around k d n);
  escape = λ n d. cond (leb (around k n d) (around k d n))
      (Some (hop 0 (cond (ltb d n) 0 1) (after k n)))
      (Some (hop 1 (cond (ltb n d) 0 1) (before k n)));
  rank = λ n p e. cond (eqb p 0) (cond (eqb e 0) 0 k + n) (cond (eqb e 0) 0 k + k - 1 - n);
}

module _ (k : ℕ) (lo : 3 ≤ k) (hi : k ≤ 64) where
  around_is : (n d : ℕ) → n < k → d < k → ring_up k n d ≡ around k n d
  around_is n d a b = elim (cases_lt d n) [
    | inl c ↦ let e : (d + k - n) % k ≡ d + k - n = mod-eq_of_lt (omega arith) in grind (arith, nat_tests, e)
    | inr c ↦
        let e : d + k - n ≡ (d - n) + k = omega arith in
        let f : ((d - n) + k) % k ≡ (d - n) % k = add-mod_right (d - n) k in
        let h : (d - n) % k ≡ d - n = mod-eq_of_lt (omega arith) in
        ap (λ x. x % k) e ∙ f ∙ h ∙ grind (arith, nat_tests)
  ]

  after_is : (n : ℕ) → n < k → (n + 1) % k ≡ after k n
  after_is n a = elim (cases_lt (n + 1) k) [
    | inl c ↦ let e : (n + 1) % k ≡ n + 1 = mod-eq_of_lt c in grind (arith, nat_tests, e)
    | inr c ↦
        let e : n + 1 ≡ k = omega arith in
        ap (λ x. x % k) e ∙ mod_self k ∙ grind (arith, nat_tests)
  ]

  before_is : (n : ℕ) → n < k → (n + k - 1) % k ≡ before k n
  before_is n a = elim (cases_lt n 1) [
    | inl c ↦ let e : (n + k - 1) % k ≡ n + k - 1 = mod-eq_of_lt (omega arith) in grind (arith, nat_tests, e)
    | inr c ↦
        let e : n + k - 1 ≡ (n - 1) + k = omega arith in
        let h : (n - 1) % k ≡ n - 1 = mod-eq_of_lt (omega arith) in
        ap (λ x. x % k) e ∙ add-mod_right (n - 1) k ∙ h ∙ grind (arith, nat_tests)
  ]

  times_is : (e : ℕ) → e < 2 → e * k ≡ cond (eqb e 0) 0 k
  times_is e a = elim (cases_lt e 1) [
    | inl c ↦ let z : e ≡ 0 = omega arith in ap (λ x. x * k) z ∙ zero-mul k ∙ grind (arith, nat_tests)
    | inr c ↦ let z : e ≡ 1 = omega arith in ap (λ x. x * k) z ∙ one-mul k ∙ grind (arith, nat_tests)
  ]

  agrees : Agree (flat k) (ring_rule k)
  agrees = record {
    nodes_eq = refl;
    ports_eq = refl;
    classes_eq = refl;
    ceiling_eq = refl;
    link_eq = λ n p a b. rw (after_is n a, before_is n a);
    distance_eq = λ n d a b. rw (around_is n d a b, around_is d n b a);
    escape_eq = λ n d a b c. rw (around_is n d a b, around_is d n b a, after_is n a, before_is n a);
    rank_eq = λ n p e m a b c l. rw (times_is e c);
  }

  flat_sound : Sound (flat k)
  flat_sound = record {
    distances = record { near = λ n d a b. grind (arith, nat_tests); here = λ n a. grind (arith, nat_tests); apart = λ n d a b z. grind (arith, nat_tests) };
    steps = λ n p m d a b c l. grind (arith, nat_tests);
    escapes = λ n d a b c. cond_both (leb (around k n d) (around k d n)) _ _ (Leads (flat k) n d)
        (λ e. record { port_in = lit< tt; class_in = grind (arith, nat_tests); along = refl; less = grind (arith, nat_tests) })
        (λ e. record { port_in = lit< tt; class_in = grind (arith, nat_tests); along = refl; less = grind (arith, nat_tests) });
    low = λ n p e m a b c l. grind (arith, nat_tests);
    rises = λ n d h j a b c l s m. grind (arith, nat_tests);
    links = λ n p m a b l. grind (arith, nat_tests);
  }

  ring_sound : Sound (ring_rule k)
  ring_sound = agree_sound (flat k) (ring_rule k) agrees flat_sound

  ring_sizes : Sizes (ring_rule k)
  ring_sizes = record {
    nodes_low = omega arith;
    nodes_high = hi;
    ports_low = lit≤ tt;
    ports_high = lit≤ tt;
    classes_low = lit≤ tt;
    classes_high = lit≤ tt;
    ceiling_low = omega arith;
    ceiling_high = omega arith;
  }

sized : (k : ℕ) → ring_sized k ≡ true → (3 ≤ k) × (k ≤ 64)
sized k good = let t = and_parts (leb 3 k) (leb k 64) good in (leb-true 3 k t.0, leb-true k 64 t.1)

pub ring_lawful : (k : ℕ) → Lawful (ring k)
ring_lawful k = usable_lawful (ring_sized k) (ring_rule k)
    (λ good. let s = sized k good in ring_sizes k s.0 s.1)
    (λ good. let s = sized k good in ring_sound k s.0 s.1)
