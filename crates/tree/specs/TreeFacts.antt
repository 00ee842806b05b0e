-- Distances and subtrees in the tree. Assumes nothing.
use Rattle.std.specs.Prelude.{◌≡◌, ℕ, zero, suc, ◌+◌, ◌*◌, ◌<◌, ◌≤◌, min, max, true, false, ◌≢◌, ◌⊎◌, refl}
use Rattle.std.proofs.Common.{sym, ap, ◌∙◌, inl, inr, arith}
use Rattle.std.proofs.Math.Nat.{max-eq_left, max-eq_right, min-eq_left, min-eq_right}
use Rattle.std.proofs.lemmas.Bool.{both_ways, cases_order, cases_lt, cases_eq, lt-ltb, le-ltb, eq-eqb, ne_eqb}
use Rattle.tree.specs.Trees.{parent, climb, tree_distance, descends, in_subtree, ancestor}

-- one step of a distance
climb_same : (f n d : ℕ) → n ≡ d → climb f n d ≡ 0
unfolding climb
climb_same zero n d e = refl
climb_same (suc f) n d e = rw (eq-eqb n d e)

climb_step : (f n d : ℕ) → n ≢ d → climb (suc f) n d ≡ suc (climb f (parent (max n d)) (min n d))
unfolding climb
climb_step f n d c = rw (ne_eqb n d c)

climb_left : (f n d : ℕ) → d < n → climb (suc f) n d ≡ suc (climb f (parent n) d)
climb_left f n d h = let e : n ≢ d = omega arith in let g : d ≤ n = omega arith in climb_step f n d e ∙ rw (max-eq_left g, min-eq_right g)

climb_turned : (f n d : ℕ) → n < d → climb (suc f) n d ≡ suc (climb f (parent d) n)
climb_turned f n d h = let e : n ≢ d = omega arith in let g : n ≤ d = omega arith in climb_step f n d e ∙ rw (max-eq_right g, min-eq_left g)

-- the distance is the same both ways
climb_swap : (f n d : ℕ) → climb f n d ≡ climb f d n
unfolding climb
climb_swap zero n d = refl
climb_swap (suc f) n d = elim (cases_order n d) [
  | inl e ↦ climb_same (suc f) n d e ∙ sym (climb_same (suc f) d n (sym e))
  | inr w ↦ elim w [
    | inl h ↦ climb_turned f n d h ∙ sym (climb_left f d n h)
    | inr h ↦ climb_left f n d h ∙ sym (climb_turned f d n h)
  ]
]

climb_right : (f n d : ℕ) → n < d → climb (suc f) n d ≡ suc (climb f n (parent d))
climb_right f n d h = climb_turned f n d h ∙ ap suc (climb_swap f (parent d) n)

-- more steps than the sum change nothing
enough : (f g n d : ℕ) → n + d ≤ f → n + d ≤ g → climb f n d ≡ climb g n d
enough zero g n d a b = let e : n ≡ d = omega arith in climb_same zero n d e ∙ sym (climb_same g n d e)
enough (suc f) zero n d a b = let e : n ≡ d = omega arith in climb_same (suc f) n d e ∙ sym (climb_same zero n d e)
enough (suc f) (suc g) n d a b =
    elim (cases_order n d) [
      | inl e ↦ climb_same (suc f) n d e ∙ sym (climb_same (suc g) n d e)
      | inr w ↦ elim w [
        | inl h ↦ climb_right f n d h ∙ ap suc (enough f g n (parent d) (omega arith) (omega arith)) ∙ sym (climb_right g n d h)
        | inr h ↦ climb_left f n d h ∙ ap suc (enough f g (parent n) d (omega arith) (omega arith)) ∙ sym (climb_left g n d h)
      ]
    ]

pub distance_same : (n d : ℕ) → n ≡ d → tree_distance n d ≡ 0
unfolding tree_distance
distance_same n d e = climb_same (n + d) n d e

pub distance_left : (n d : ℕ) → d < n → tree_distance n d ≡ suc (tree_distance (parent n) d)
unfolding tree_distance
distance_left n d h = enough (n + d) (suc (n + d)) n d (omega arith) (omega arith) ∙ climb_left (n + d) n d h ∙ ap suc (enough (n + d) (parent n + d) (parent n) d (omega arith) (omega arith))

pub distance_right : (n d : ℕ) → n < d → tree_distance n d ≡ suc (tree_distance n (parent d))
unfolding tree_distance
distance_right n d h = enough (n + d) (suc (n + d)) n d (omega arith) (omega arith) ∙ climb_right (n + d) n d h ∙ ap suc (enough (n + d) (n + parent d) n (parent d) (omega arith) (omega arith))

-- between two nodes that differ, one hop more than where the larger has climbed to its parent
pub distance_step : (n d : ℕ) → n ≢ d → tree_distance n d ≡ suc (tree_distance (parent (max n d)) (min n d))
unfolding tree_distance
distance_step n d c = enough (n + d) (suc (n + d)) n d (omega arith) (omega arith) ∙ climb_step (n + d) n d c ∙ ap suc (enough (n + d) (parent (max n d) + min n d) (parent (max n d)) (min n d) (omega arith) (omega arith))

pub distance_apart : (n d : ℕ) → tree_distance n d ≡ 0 → n ≡ d
distance_apart n d z = elim (cases_order n d) [
  | inl e ↦ e
  | inr w ↦ elim w [ inl h ↦ omega (arith, distance_right n d h) | inr h ↦ omega (arith, distance_left n d h) ]
]

-- a node is at most one farther than its parent,
pub up_step : (f n d : ℕ) → d ≤ f → 0 < n → tree_distance n d ≤ tree_distance (parent n) d + 1
up_step zero n d a h = omega (arith, distance_left n d (omega arith))
up_step (suc f) n d a h = elim (cases_order n d) [
  | inl e ↦ omega (arith, distance_same n d e)
  | inr w ↦ elim w [
    | inl k ↦ omega (arith, distance_right n d k, distance_right (parent n) d (omega arith), up_step f n (parent d) (omega arith) h)
    | inr k ↦ omega (arith, distance_left n d k)
  ]
]

-- and at most one nearer
pub down_step : (f n d : ℕ) → d ≤ f → 0 < n → tree_distance (parent n) d ≤ tree_distance n d + 1
down_step zero n d a h = omega (arith, distance_left n d (omega arith))
down_step (suc f) n d a h = elim (cases_order n d) [
  | inl e ↦ omega (arith, distance_right (parent n) d (omega arith), distance_same (parent n) (parent d) (ap parent e))
  | inr w ↦ elim w [
    | inl k ↦ omega (arith, distance_right n d k, distance_right (parent n) d (omega arith), down_step f n (parent d) (omega arith) h)
    | inr k ↦ omega (arith, distance_left n d k)
  ]
]

-- one step of a descent
descends_none : (f a d : ℕ) → d < a → descends f a d ≡ false
unfolding descends
descends_none zero a d h = ne_eqb a d (λ e. omega arith)
descends_none (suc f) a d h = let e : a ≢ d = omega arith in let g : d ≤ a = omega arith in rw (ne_eqb a d e, le-ltb a d g)

descends_same : (f a d : ℕ) → a ≡ d → descends f a d ≡ true
unfolding descends
descends_same zero a d e = eq-eqb a d e
descends_same (suc f) a d e = rw (eq-eqb a d e)

descends_more : (f a d : ℕ) → a < d → descends (suc f) a d ≡ descends f a (parent d)
unfolding descends
descends_more f a d h = let e : a ≢ d = omega arith in rw (ne_eqb a d e, lt-ltb a d h)

-- more steps than d change nothing
descends_enough : (f g a d : ℕ) → d ≤ f → d ≤ g → descends f a d ≡ descends g a d
descends_enough zero g a d x y = elim (cases_eq a d) [
  | inl e ↦ descends_same zero a d e ∙ sym (descends_same g a d e)
  | inr e ↦ descends_none zero a d (omega arith) ∙ sym (descends_none g a d (omega arith))
]
descends_enough (suc f) zero a d x y = elim (cases_eq a d) [
  | inl e ↦ descends_same (suc f) a d e ∙ sym (descends_same zero a d e)
  | inr e ↦ descends_none (suc f) a d (omega arith) ∙ sym (descends_none zero a d (omega arith))
]
descends_enough (suc f) (suc g) a d x y = elim (cases_order a d) [
  | inl e ↦ descends_same (suc f) a d e ∙ sym (descends_same (suc g) a d e)
  | inr w ↦ elim w [
    | inl h ↦ descends_more f a d h ∙ descends_enough f g a (parent d) (omega arith) (omega arith) ∙ sym (descends_more g a d h)
    | inr h ↦ descends_none (suc f) a d h ∙ sym (descends_none (suc g) a d h)
  ]
]

pub subtree_same : (a d : ℕ) → a ≡ d → in_subtree a d ≡ true
unfolding in_subtree
subtree_same a d e = descends_same d a d e

pub subtree_none : (a d : ℕ) → d < a → in_subtree a d ≡ false
unfolding in_subtree
subtree_none a d h = descends_none d a d h

pub subtree_more : (a d : ℕ) → a < d → in_subtree a d ≡ in_subtree a (parent d)
unfolding in_subtree
subtree_more a d h = descends_enough d (suc d) a d (omega arith) (omega arith) ∙ descends_more d a d h ∙ descends_enough d (parent d) a (parent d) (omega arith) (omega arith)

-- what is in the subtree of a has no smaller number
pub subtree_least : (a d : ℕ) → in_subtree a d ≡ true → a ≤ d
subtree_least a d u = elim (cases_lt d a) [ inl h ↦ absurd (both_ways (in_subtree a d) (subtree_none a d h) u) | inr h ↦ h ]

-- every node is in the subtree of the root
subtree_root : (f d : ℕ) → d ≤ f → in_subtree 0 d ≡ true
subtree_root zero d a = subtree_same 0 d (omega arith)
subtree_root (suc f) d a = elim (cases_lt 0 d) [
  | inl h ↦ subtree_more 0 d h ∙ subtree_root f (parent d) (omega arith)
  | inr h ↦ subtree_same 0 d (omega arith)
]

-- what is in the subtree of n, and is not n, is in that of a child
subtree_child : (f n d : ℕ) → d ≤ f → in_subtree n d ≡ true → n ≢ d → (in_subtree (2 * n + 1) d ≡ true) ⊎ (in_subtree (2 * n + 2) d ≡ true)
subtree_child zero n d a u c = absurd (c (omega (arith, subtree_least n d u)))
subtree_child (suc f) n d a u c =
    let l : n < d = omega (arith, subtree_least n d u) in
    let v : in_subtree n (parent d) ≡ true = sym (subtree_more n d l) ∙ u in
    elim (cases_eq n (parent d)) [
      | inl e ↦ elim (cases_eq (2 * n + 1) d) [
        | inl x ↦ inl (subtree_same (2 * n + 1) d x)
        | inr x ↦ inr (subtree_same (2 * n + 2) d (omega arith))
      ]
      | inr e ↦ elim (subtree_child f n (parent d) (omega arith) v e) [
        | inl x ↦ inl (subtree_more (2 * n + 1) d (omega (arith, subtree_least (2 * n + 1) (parent d) x)) ∙ x)
        | inr x ↦ inr (subtree_more (2 * n + 2) d (omega (arith, subtree_least (2 * n + 2) (parent d) x)) ∙ x)
      ]
    ]

-- an ancestor of d has d in the subtree of the second child, if not of the first
pub second_child : (n d : ℕ) → n ≢ d → ancestor n d ≡ true → in_subtree (2 * n + 1) d ≡ false → in_subtree (2 * n + 2) d ≡ true
second_child n d c u v = elim (subtree_child d n d (omega arith) (rw (ne_eqb n d c) at u) c) [
  | inl x ↦ absurd (both_ways (in_subtree (2 * n + 1) d) v x)
  | inr x ↦ x
]

-- a node that is neither d nor an ancestor of d does not have d in its subtree, and so is not the root
pub no_ancestor : (n d : ℕ) → n ≢ d → ancestor n d ≡ false → (0 < n) × (in_subtree n d ≡ false)
no_ancestor n d c u =
    let w : in_subtree n d ≡ false = rw (ne_eqb n d c) at u in
    let z : 0 < n = elim (cases_lt 0 n) [
      | inl x ↦ x
      | inr x ↦ let e : n ≡ 0 = omega arith in absurd (both_ways (in_subtree n d) w (ap (λ y. in_subtree y d) e ∙ subtree_root d d (omega arith)))
    ] in
    (z, w)

-- a child c of n with d in its subtree is nearer to d
pub child_nearer : (f n c d : ℕ) → d ≤ f → n < c → parent c ≡ n → in_subtree c d ≡ true → tree_distance c d + 1 ≡ tree_distance n d
child_nearer zero n c d a h p u = omega (arith, subtree_least c d u)
child_nearer (suc f) n c d a h p u = elim (cases_order c d) [
  | inl e ↦ omega (arith, distance_same c d e, distance_right n d (omega arith), distance_same n (parent d) (sym p ∙ ap parent e))
  | inr w ↦ elim w [
    | inl k ↦ omega (arith, distance_right n d (omega arith), distance_right c d k, child_nearer f n c (parent d) (omega arith) h p (sym (subtree_more c d k) ∙ u))
    | inr k ↦ absurd (both_ways (in_subtree c d) (subtree_none c d k) u)
  ]
]

-- the parent of a node that does not have d in its subtree is nearer to d
pub parent_nearer : (f n d : ℕ) → d ≤ f → 0 < n → in_subtree n d ≡ false → tree_distance (parent n) d + 1 ≡ tree_distance n d
parent_nearer zero n d a h u = omega (arith, distance_left n d (omega arith))
parent_nearer (suc f) n d a h u = elim (cases_order n d) [
  | inl e ↦ absurd (both_ways (in_subtree n d) u (subtree_same n d e))
  | inr w ↦ elim w [
    | inl k ↦ omega (arith, distance_right n d k, distance_right (parent n) d (omega arith), parent_nearer f n (parent d) (omega arith) h (sym (subtree_more n d k) ∙ u))
    | inr k ↦ omega (arith, distance_left n d k)
  ]
]
