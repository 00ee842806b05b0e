-- Sums over all packets, and what holds of all, when a packet leaves or joins a buffer. Assumes nothing.
use Rattle.std.proofs.Common.{◌≡◌, ℕ, zero, suc, ◌+◌, ◌<◌, ◌≤◌, true, false, cond, eqb, ◌⊎◌, List, [], ◌∷◌, ◌++◌, length, set, sum_by, sym, refl, ap, ◌∙◌, subst, inl, inr, le_of_suc-le-suc, not-suc-le-zero, arith, length-set}
use Rattle.std.specs.List.{AllByRecursion}
use Rattle.std.proofs.ByRecursion.{All-push}
use Rattle.std.proofs.lemmas.List.{get_or-set_same, get_or-set_other, set_past}
use Rattle.std.proofs.lemmas.List.Sums.{sum_by-cons, sum_by_push}
use Rattle.std.proofs.lemmas.Bool.{cases_eq, eq-eqb, ne_eqb}
use Rattle.queue.specs.declared.packet.Packet.{Packet}
use Rattle.network.specs.Network.{Network}
use Rattle.switch.specs.declared.grant.Grant.{Grant}
use Rattle.switch.specs.Places.{buffer_count}
use Rattle.switch.specs.Buffers.{Buffers, contents, enqueue, total_from}
use Rattle.switch.specs.Cycle.{hopped, forward, move}
use Rattle.switch.specs.Invariant.{InEach}

total_set : (f : ℕ → Packet → ℕ) (bs : Buffers) (i b j : ℕ) (xs : List Packet) → j ≡ i + b → b < length bs
    → total_from f i (set bs b xs) + sum_by (f j) (contents bs b) ≡ total_from f i bs + sum_by (f j) xs
total_set f [] i b j xs e h = absurd (not-suc-le-zero h)
total_set f (x ∷ bs) i zero j xs e h =
    let s : i ≡ j = omega arith in
    let a : sum_by (f i) x ≡ sum_by (f j) x = ap (λ (y : ℕ). sum_by (f y) x) s in
    let c : sum_by (f i) xs ≡ sum_by (f j) xs = ap (λ (y : ℕ). sum_by (f y) xs) s in
    omega arith
total_set f (x ∷ bs) i (suc b) j xs e h =
    let r = total_set f bs (suc i) b j xs (omega arith) (le_of_suc-le-suc h) in
    omega arith

-- A packet leaves the front of buffer b.
pub total_pop : (f : ℕ → Packet → ℕ) (bs : Buffers) (b : ℕ) (q : Packet) (qs : List Packet) → b < length bs → contents bs b ≡ q ∷ qs
    → total_from f 0 (set bs b qs) + f b q ≡ total_from f 0 bs
total_pop f bs b q qs h e =
    let t = total_set f bs 0 b b qs (omega arith) h in
    let s : sum_by (f b) (contents bs b) ≡ f b q + sum_by (f b) qs = ap (λ (xs : List Packet). sum_by (f b) xs) e ∙ sum_by-cons (f b) q qs in
    omega arith

-- A packet joins the back of buffer b.
pub total_push : (f : ℕ → Packet → ℕ) (bs : Buffers) (b : ℕ) (q : Packet) → b < length bs → total_from f 0 (enqueue bs b q) ≡ total_from f 0 bs + f b q
total_push f bs b q h =
    let t = total_set f bs 0 b b (contents bs b ++ (q ∷ [])) (omega arith) h in
    let s = sum_by_push (f b) (contents bs b) q in
    omega arith

-- Where a sum is 0, each part is.
sum_zero : (f : Packet → ℕ) (xs : List Packet) → sum_by f xs ≡ 0 → AllByRecursion (λ q. f q ≡ 0) xs
sum_zero f [] e = tt
sum_zero f (x ∷ xs) e = let s = sum_by-cons f x xs in (omega arith, sum_zero f xs (omega arith))

pub total_zero : (f : ℕ → Packet → ℕ) (bs : Buffers) (i b j : ℕ) → j ≡ i + b → b < length bs → total_from f i bs ≡ 0 → AllByRecursion (λ q. f j q ≡ 0) (contents bs b)
total_zero f [] i b j e h z = absurd (not-suc-le-zero h)
total_zero f (x ∷ bs) i zero j e h z =
    let s : i ≡ j = omega arith in
    subst (λ (y : ℕ). AllByRecursion (λ q. f y q ≡ 0) x) s (sum_zero (f i) x (omega arith))
total_zero f (x ∷ bs) i (suc b) j e h z = total_zero f bs (suc i) b j (omega arith) (le_of_suc-le-suc h) (omega arith)

-- Where each part is 0, the sum is.
sum_none : (f : Packet → ℕ) (xs : List Packet) → AllByRecursion (λ q. f q ≡ 0) xs → sum_by f xs ≡ 0
sum_none f [] h = refl
sum_none f (x ∷ xs) h = let s = sum_by-cons f x xs in let a = h.0 in let b = sum_none f xs h.1 in omega arith

pub total_none : (f : ℕ → Packet → ℕ) (bs : Buffers) (i : ℕ) → ((b : ℕ) → b < length bs → AllByRecursion (λ q. f (i + b) q ≡ 0) (contents bs b)) → total_from f i bs ≡ 0
total_none f [] i h = refl
total_none f (x ∷ bs) i h =
    let a : AllByRecursion (λ q. f i q ≡ 0) x = let e : i + 0 ≡ i = omega arith in subst (λ (j : ℕ). AllByRecursion (λ q. f j q ≡ 0) x) e (h 0 (omega arith)) in
    let b = sum_none (f i) x a in
    let c = total_none f bs (suc i)
    (λ k l. let e : i + suc k ≡ suc i + k = omega arith in subst (λ (j : ℕ). AllByRecursion (λ q. f j q ≡ 0) (contents bs k)) e (h (suc k) (omega arith))) in
    omega arith

-- A sum of larger parts is larger.
sum_le : (f g : Packet → ℕ) → ((q : Packet) → f q ≤ g q) → (xs : List Packet) → sum_by f xs ≤ sum_by g xs
sum_le f g h [] = omega arith
sum_le f g h (x ∷ xs) = omega (arith, sum_by-cons f x xs, sum_by-cons g x xs, h x, sum_le f g h xs)

pub total_le : (f g : ℕ → Packet → ℕ) → ((b : ℕ) (q : Packet) → f b q ≤ g b q) → (bs : Buffers) (i : ℕ) → total_from f i bs ≤ total_from g i bs
total_le f g h [] i = omega arith
total_le f g h (x ∷ bs) i = omega (arith, sum_le (f i) (g i) (h i) x, total_le f g h bs (suc i))

-- A sum that is not 0 has a packet.
pub some_packet : (f : ℕ → Packet → ℕ) (bs : Buffers) (i : ℕ) → 0 < total_from f i bs
    → (b : ℕ) × (q : Packet) × (qs : List Packet) × (b < length bs) × (contents bs b ≡ q ∷ qs)
some_packet f [] i h = absurd (let z : ⊥ = omega arith in z)
some_packet f ([] ∷ bs) i h = let r = some_packet f bs (suc i) (omega arith) in (suc r.0, r.1, r.2, (let k = r.3 in omega arith), r.4)
some_packet f ((q ∷ qs) ∷ bs) i h = (0, q, qs, (omega arith), refl)

-- What a buffer holds after a packet left it or another one.
pub each_pop : (P : ℕ → Packet → Type 0) (n : ℕ) (bs : Buffers) (b : ℕ) (q : Packet) (qs : List Packet) → b < length bs → contents bs b ≡ q ∷ qs
    → InEach P n bs → InEach P n (set bs b qs)
each_pop P n bs b q qs h e all c k = go (cases_eq c b)
  where
    go : (c ≡ b) ⊎ (c ≡ b → ⊥) → AllByRecursion (P c) (contents (set bs b qs) c)
    go (inl s) =
        let a : AllByRecursion (P c) (q ∷ qs) = subst (λ (xs : List Packet). AllByRecursion (P c) xs) (ap (λ (x : ℕ). contents bs x) s ∙ e) (all c k) in
        let f : contents (set bs b qs) c ≡ qs = ap (λ (x : ℕ). contents (set bs b qs) x) s ∙ get_or-set_same bs b qs [] h in
        subst (λ (xs : List Packet). AllByRecursion (P c) xs) (sym f) a.1
    go (inr d) = subst (λ (xs : List Packet). AllByRecursion (P c) xs) (sym (get_or-set_other bs b c qs [] d)) (all c k)

pub each_push : (P : ℕ → Packet → Type 0) (n : ℕ) (bs : Buffers) (b : ℕ) (q : Packet) → b < length bs → P b q → InEach P n bs → InEach P n (enqueue bs b q)
each_push P n bs b q h p all c k = go (cases_eq c b)
  where
    go : (c ≡ b) ⊎ (c ≡ b → ⊥) → AllByRecursion (P c) (contents (enqueue bs b q) c)
    go (inl s) =
        let a : AllByRecursion (P c) (contents bs c ++ (q ∷ [])) = All-push (P c) (contents bs c) q (all c k) (subst (λ (x : ℕ). P x q) (sym s) p) in
        let f : contents (enqueue bs b q) c ≡ contents bs c ++ (q ∷ [])
        = ap (λ (x : ℕ). contents (enqueue bs b q) x) s ∙ get_or-set_same bs b (contents bs b ++ (q ∷ [])) [] h ∙ ap (λ (x : ℕ). contents bs x ++ (q ∷ [])) (sym s) in
        subst (λ (xs : List Packet). AllByRecursion (P c) xs) (sym f) a
    go (inr d) = subst (λ (xs : List Packet). AllByRecursion (P c) xs) (sym (get_or-set_other bs b c _ [] d)) (all c k)

module _ (net : Network) (bs : Buffers) (g : Grant) where
  -- One grant carried out: a delivery is a packet that leaves,
  pub move_out : (q : Packet) (qs : List Packet) → contents bs g.old ≡ q ∷ qs → g.new ≡ buffer_count net → move (buffer_count net) bs g ≡ set bs g.old qs
  unfolding move
  move_out q qs e d =
      ap (λ (xs : List Packet). forward (buffer_count net) bs g xs) e
      ∙ ap (λ t. cond t (set bs g.old qs) (enqueue (set bs g.old qs) g.new (hopped q))) (eq-eqb g.new (buffer_count net) d)

  -- and any grant one that leaves and joins, where joining past the last buffer changes nothing.
  pub move_is : length bs ≡ buffer_count net → (q : Packet) (qs : List Packet) → contents bs g.old ≡ q ∷ qs
      → move (buffer_count net) bs g ≡ enqueue (set bs g.old qs) g.new (hopped q)
  unfolding move
  move_is sized q qs e = ap (λ (xs : List Packet). forward (buffer_count net) bs g xs) e ∙ go (cases_eq g.new (buffer_count net))
    where
      go : (g.new ≡ buffer_count net) ⊎ (g.new ≡ buffer_count net → ⊥) → forward (buffer_count net) bs g (q ∷ qs) ≡ enqueue (set bs g.old qs) g.new (hopped q)
      go (inl d) =
          ap (λ t. cond t (set bs g.old qs) (enqueue (set bs g.old qs) g.new (hopped q))) (eq-eqb g.new (buffer_count net) d)
          ∙ sym (set_past (set bs g.old qs) g.new _ (let k = length-set bs g.old qs in omega arith))
      go (inr d) = ap (λ t. cond t (set bs g.old qs) (enqueue (set bs g.old qs) g.new (hopped q))) (ne_eqb g.new (buffer_count net) d)

  pub length_move : length (move (buffer_count net) bs g) ≡ length bs
  unfolding move
  length_move = go (contents bs g.old)
    where
      either : (t : _) (q : Packet) (qs : List Packet) → length (cond t (set bs g.old qs) (enqueue (set bs g.old qs) g.new (hopped q))) ≡ length bs
      either true q qs = length-set bs g.old qs
      either false q qs = length-set (set bs g.old qs) g.new _ ∙ length-set bs g.old qs

      go : (xs : List Packet) → length (forward (buffer_count net) bs g xs) ≡ length bs
      go [] = refl
      go (q ∷ qs) = either (eqb g.new (buffer_count net)) q qs
