-- What one more grant, and one more packet, add to what a history tells. Assumes nothing.
use Rattle.std.proofs.Common.{◌≡◌, ℕ, zero, suc, ◌+◌, ◌<◌, ◌≤◌, Bool, true, false, cond, not, ◌&&◌, eqb, List, [], ◌∷◌, ◌++◌, length, get_or, Some, fold, count_by, Option, refl, ap, ◌∙◌, le_of_suc-le-suc, not-suc-le-zero, add-zero, arith}
use Rattle.std.specs.List.{AllByRecursion}
use Rattle.std.proofs.lemmas.List.Elements.{filter-append}
use Rattle.std.proofs.lemmas.List.{append-nil}
use Rattle.std.proofs.lemmas.List.Sums.{sum_by-cons, sum_by_push, fold_push}
use Rattle.std.proofs.lemmas.Bool.{eq-eqb, ne_eqb}
use Rattle.network.specs.Network.{Network}
use Rattle.switch.specs.declared.grant.Grant.{Grant}
use Rattle.switch.specs.Places.{buffer_count, location}
use Rattle.switch.specs.Cycle.{delivers}
use Rattle.switch.specs.Calls.{Endpoints}
use Rattle.switch.specs.History.{no_endpoints, deliveries_of, hops_of, grants_of, delivery_count, hop_count, position, sum_from}
use Rattle.switch.specs.Law.{HopOver, DeliveryAt, Journey}
use Rattle.switch.specs.Law.Journey.{inside, delivered, hop as journey_hop}
use Rattle.switch.specs.Invariant.{Hops}
use Rattle.switch.specs.Invariant.Hops.{stay, hop}

pub count_yes : (p : Grant → Bool) (gs : List Grant) (g : Grant) → p g ≡ true → count_by p (gs ++ (g ∷ [])) ≡ count_by p gs + 1
count_yes p gs g e = sum_by_push (λ x. cond (p x) 1 0) gs g ∙ ap (λ (b : Bool). count_by p gs + cond b 1 0) e

pub count_no : (p : Grant → Bool) (gs : List Grant) (g : Grant) → p g ≡ false → count_by p (gs ++ (g ∷ [])) ≡ count_by p gs
count_no p gs g e = sum_by_push (λ x. cond (p x) 1 0) gs g ∙ ap (λ (b : Bool). count_by p gs + cond b 1 0) e ∙ add-zero (count_by p gs)

module _ (net : Network) (gs : List Grant) (g : Grant) where
  pub hops_other : (k : ℕ) → (g.packet ≡ k → ⊥) → hops_of net k (gs ++ (g ∷ [])) ≡ hops_of net k gs
  hops_other k d = count_no _ gs g (ap (λ (b : Bool). b && not (delivers net g)) (ne_eqb g.packet k d))

  pub deliveries_other : (k : ℕ) → (g.packet ≡ k → ⊥) → deliveries_of net k (gs ++ (g ∷ [])) ≡ deliveries_of net k gs
  deliveries_other k d = count_no _ gs g (ap (λ (b : Bool). b && delivers net g) (ne_eqb g.packet k d))

  pub hops_mine : (k : ℕ) → g.packet ≡ k → (g.new ≡ buffer_count net → ⊥) → hops_of net k (gs ++ (g ∷ [])) ≡ hops_of net k gs + 1
  hops_mine k e d =
      let a = eq-eqb g.packet k e in let b = ne_eqb g.new (buffer_count net) d in
      count_yes _ gs g (let z : (eqb g.packet k && not (eqb g.new (buffer_count net))) ≡ true = rw (a, b) in z)

  pub hops_out : (k : ℕ) → g.packet ≡ k → g.new ≡ buffer_count net → hops_of net k (gs ++ (g ∷ [])) ≡ hops_of net k gs
  hops_out k e d =
      let a = eq-eqb g.packet k e in let b = eq-eqb g.new (buffer_count net) d in
      count_no _ gs g (let z : (eqb g.packet k && not (eqb g.new (buffer_count net))) ≡ false = rw (a, b) in z)

  pub deliveries_hop : (k : ℕ) → g.packet ≡ k → (g.new ≡ buffer_count net → ⊥) → deliveries_of net k (gs ++ (g ∷ [])) ≡ deliveries_of net k gs
  deliveries_hop k e d =
      let a = eq-eqb g.packet k e in let b = ne_eqb g.new (buffer_count net) d in
      count_no _ gs g (let z : (eqb g.packet k && eqb g.new (buffer_count net)) ≡ false = rw (a, b) in z)

  pub deliveries_mine : (k : ℕ) → g.packet ≡ k → g.new ≡ buffer_count net → deliveries_of net k (gs ++ (g ∷ [])) ≡ deliveries_of net k gs + 1
  deliveries_mine k e d =
      let a = eq-eqb g.packet k e in let b = eq-eqb g.new (buffer_count net) d in
      count_yes _ gs g (let z : (eqb g.packet k && eqb g.new (buffer_count net)) ≡ true = rw (a, b) in z)

  pub all_hop : (g.new ≡ buffer_count net → ⊥)
      → (hop_count net (gs ++ (g ∷ [])) ≡ hop_count net gs + 1) × (delivery_count net (gs ++ (g ∷ [])) ≡ delivery_count net gs)
  all_hop d =
      let b = ne_eqb g.new (buffer_count net) d in
      (count_yes _ gs g (ap not b), count_no _ gs g b)

  pub all_out : g.new ≡ buffer_count net
      → (hop_count net (gs ++ (g ∷ [])) ≡ hop_count net gs) × (delivery_count net (gs ++ (g ∷ [])) ≡ delivery_count net gs + 1)
  all_out d =
      let b = eq-eqb g.new (buffer_count net) d in
      (count_no _ gs g (ap not b), count_yes _ gs g b)

  pub position_other : (k : ℕ) (t : Endpoints) → (g.packet ≡ k → ⊥) → position net k t (gs ++ (g ∷ [])) ≡ position net k t gs
  position_other k t d =
      fold_push (λ (o : Option ℕ) (g : Grant). cond (eqb g.packet k && not (delivers net g)) (location net g.new) o) (Some t.source) gs g
      ∙ ap (λ (b : Bool). cond (b && not (delivers net g)) (location net g.new) (position net k t gs)) (ne_eqb g.packet k d)

  pub position_out : (k : ℕ) (t : Endpoints) → g.packet ≡ k → g.new ≡ buffer_count net → position net k t (gs ++ (g ∷ [])) ≡ position net k t gs
  position_out k t e d =
      let a = eq-eqb g.packet k e in let b = eq-eqb g.new (buffer_count net) d in
      let z : (eqb g.packet k && not (eqb g.new (buffer_count net))) ≡ false = rw (a, b) in
      fold_push (λ (o : Option ℕ) (g : Grant). cond (eqb g.packet k && not (delivers net g)) (location net g.new) o) (Some t.source) gs g
      ∙ ap (λ (b : Bool). cond b (location net g.new) (position net k t gs)) z

  pub position_hop : (k : ℕ) (t : Endpoints) → g.packet ≡ k → (g.new ≡ buffer_count net → ⊥) → position net k t (gs ++ (g ∷ [])) ≡ location net g.new
  position_hop k t e d =
      let a = eq-eqb g.packet k e in let b = ne_eqb g.new (buffer_count net) d in
      let z : (eqb g.packet k && not (eqb g.new (buffer_count net))) ≡ true = rw (a, b) in
      fold_push (λ (o : Option ℕ) (g : Grant). cond (eqb g.packet k && not (delivers net g)) (location net g.new) o) (Some t.source) gs g
      ∙ ap (λ (b : Bool). cond b (location net g.new) (position net k t gs)) z

-- A packet that no grant is of location at its source.
pub position_none : (net : Network) (k : ℕ) (t : Endpoints) (o : Option ℕ) (gs : List Grant) → AllByRecursion (λ g. (eqb g.packet k && not (delivers net g)) ≡ false) gs
    → fold (λ (o : Option ℕ) (g : Grant). cond (eqb g.packet k && not (delivers net g)) (location net g.new) o) o gs ≡ o
position_none net k t o [] h = refl
position_none net k t o (g ∷ gs) h =
    ap (λ (b : Bool). fold (λ (o : Option ℕ) (g : Grant). cond (eqb g.packet k && not (delivers net g)) (location net g.new) o) (cond b (location net g.new) o) gs) h.0
    ∙ position_none net k t o gs h.1

-- Sums over the injections.
pub ends_push : (f : ℕ → Endpoints → ℕ) (ts : List Endpoints) (i j : ℕ) (t : Endpoints) → j ≡ i + length ts → sum_from f i (ts ++ (t ∷ [])) ≡ sum_from f i ts + f j t
ends_push f [] i j t e = let s : i ≡ j = omega arith in let a : f i t ≡ f j t = ap (λ (x : ℕ). f x t) s in omega arith
ends_push f (x ∷ ts) i j t e = omega (arith, ends_push f ts (suc i) j t (omega arith))

ends_same : (f g : ℕ → Endpoints → ℕ) (ts : List Endpoints) (i : ℕ) → ((m : ℕ) (t : Endpoints) → i ≤ m → f m t ≡ g m t) → sum_from f i ts ≡ sum_from g i ts
ends_same f g [] i h = refl
ends_same f g (x ∷ ts) i h = omega (arith, h i x (omega arith), ends_same f g ts (suc i) (λ m t l. h m t (omega arith)))

pub ends_change : (f g : ℕ → Endpoints → ℕ) (ts : List Endpoints) (i k j : ℕ) → j ≡ i + k → k < length ts → ((m : ℕ) (t : Endpoints) → (j ≡ m → ⊥) → f m t ≡ g m t)
    → sum_from f i ts + g j (get_or ts k no_endpoints) ≡ sum_from g i ts + f j (get_or ts k no_endpoints)
ends_change f g [] i k j e l h = absurd (not-suc-le-zero l)
ends_change f g (x ∷ ts) i zero j e l h =
    let s : i ≡ j = omega arith in
    let a : f i x ≡ f j x = ap (λ (y : ℕ). f y x) s in
    let b : g i x ≡ g j x = ap (λ (y : ℕ). g y x) s in
    omega (arith, ends_same f g ts (suc i) (λ m t y. h m t (λ z. omega arith)))
ends_change f g (x ∷ ts) i (suc k) j e l h =
    omega (arith, h i x (λ z. omega arith), ends_change f g ts (suc i) k j (omega arith) (le_of_suc-le-suc l) h)

-- The grants of packet k,
module _ (gs : List Grant) (g : Grant) (k : ℕ) where
  kept_push : (b : Bool) → eqb g.packet k ≡ b → grants_of k (gs ++ (g ∷ [])) ≡ grants_of k gs ++ cond b (g ∷ []) []
  kept_push b e = filter-append (λ x. eqb x.packet k) gs (g ∷ []) ∙ ap (λ (t : Bool). grants_of k gs ++ cond t (g ∷ []) []) e

  pub grants_of_mine : g.packet ≡ k → grants_of k (gs ++ (g ∷ [])) ≡ grants_of k gs ++ (g ∷ [])
  grants_of_mine e = kept_push true (eq-eqb g.packet k e)

  pub grants_of_other : (g.packet ≡ k → ⊥) → grants_of k (gs ++ (g ∷ [])) ≡ grants_of k gs
  grants_of_other d = kept_push false (ne_eqb g.packet k d) ∙ append-nil (grants_of k gs)

-- none where no grant is of it,
pub grants_of_none : (k : ℕ) (gs : List Grant) → AllByRecursion (λ g. eqb g.packet k ≡ false) gs → grants_of k gs ≡ []
grants_of_none k [] h = refl
grants_of_none k (g ∷ gs) h = ap (λ (t : Bool). cond t (g ∷ grants_of k gs) (grants_of k gs)) h.0 ∙ grants_of_none k gs h.1

-- and one more hop, or a delivery, after its hops.
pub hops_on : (net : Network) {n m o : ℕ} {gs : List Grant} (g : Grant) → Hops net n gs m → HopOver net g m o → Hops net n (gs ++ (g ∷ [])) o
hops_on net g stay e = hop g e stay
hops_on net g (hop f d r) e = hop f d (hops_on net g r e)

pub hops_end : (net : Network) {n d : ℕ} {gs : List Grant} (g : Grant) → Hops net n gs d → DeliveryAt net g d → Journey net d n (gs ++ (g ∷ []))
hops_end net g stay e = delivered g e
hops_end net g (hop f d r) e = journey_hop f d (hops_end net g r e)

pub hops_journey : (net : Network) {n m d : ℕ} {gs : List Grant} → Hops net n gs m → Journey net d n gs
hops_journey net stay = inside
hops_journey net (hop f d r) = journey_hop f d (hops_journey net r)

-- Counts of what is not there.
pub count_none : (p : Grant → Bool) (gs : List Grant) → AllByRecursion (λ g. p g ≡ false) gs → count_by p gs ≡ 0
count_none p [] h = refl
count_none p (g ∷ gs) h =
    sum_by-cons (λ x. cond (p x) 1 0) g gs
    ∙ (let a : cond {A = ℕ} (p g) 1 0 ≡ 0 = ap (λ (t : Bool). cond {A = ℕ} t 1 0) h.0 in let b = count_none p gs h.1 in omega arith)
