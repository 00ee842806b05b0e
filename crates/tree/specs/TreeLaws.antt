-- The tree keeps the laws. Assumes nothing.
use Rattle.std.specs.Prelude.{◌≡◌, ℕ, zero, suc, ◌+◌, ◌-◌, ◌*◌, ◌%◌, ◌^◌, ◌<◌, ◌≤◌, Bool, true, false, cond, ◌&&◌, ◌||◌, ◌≢◌, ◌⊎◌, Some, None, Option, ◌==◌, nat_le, nat_lt, refl}
use Rattle.std.proofs.Common.{sym, ap, subst, ◌∙◌, inl, inr, mod-eq_of_lt, add-one, arith, lit<, lit≤}
use Rattle.std.proofs.Math.Nat.{pow-suc, pow-le-pow_right}
use Rattle.std.proofs.lemmas.Bool.Decides.{nat_tests}
use Rattle.std.proofs.lemmas.Bool.{both_ways, cases_order, cases_lt, cases_eq, cond_both, leb-true, and_parts, lt-ltb, le-ltb}
use Rattle.network.specs.declared.hop.Hop.{Hop}
use Rattle.network.specs.Network.{Network, hop}
use Rattle.network.specs.Laws.{Nearer, Leads, Sizes, Lawful}
use Rattle.network.proofs.Restricted.{Sound, usable_lawful}
use Rattle.tree.specs.Trees.{parent, depth, tree_distance, in_subtree, ancestor, far_end, far_end_stands, upper_end, tree_rule, tree_sized, tree}
use Rattle.tree.specs.TreeFacts.{distance_same, distance_right, distance_left, distance_apart, up_step, down_step, subtree_least, second_child, no_ancestor, child_nearer, parent_nearer}

depth_parent : (n : ℕ) → 0 < n → n < 63 → depth n ≡ depth (parent n) + 1
depth_parent n a b = grind (arith, nat_tests)

-- sums of depths over plain numbers, since a depth would compute
zero_low : (a b : ℕ) → b ≤ 0 → b ≤ a
zero_low a b h = omega arith

sum_right : (x y n d e : ℕ) → x ≡ suc y → d ≡ e + 1 → y ≤ n + e → x ≤ n + d
sum_right x y n d e a b c = omega arith

sum_left : (x y n d e : ℕ) → x ≡ suc y → n ≡ e + 1 → y ≤ e + d → x ≤ n + d
sum_left x y n d e a b c = omega arith

sum_below : (x t u h n : ℕ) → x ≤ t + u → t ≤ h → u ≤ h → 2 * h < n → x < n
sum_below x t u h n a b c d = omega arith

-- a distance is at most that by way of the root
distance_depth : (f n d : ℕ) → n + d ≤ f → n < 63 → d < 63 → tree_distance n d ≤ depth n + depth d
distance_depth zero n d a x y = let e = distance_same n d (omega arith) in let p : tree_distance n d ≤ 0 = omega arith in zero_low (depth n + depth d) (tree_distance n d) p
distance_depth (suc f) n d a x y = elim (cases_order n d) [
  | inl e ↦ let z = distance_same n d e in let p : tree_distance n d ≤ 0 = omega arith in zero_low (depth n + depth d) (tree_distance n d) p
  | inr w ↦ elim w [
    | inl k ↦ sum_right (tree_distance n d) (tree_distance n (parent d)) (depth n) (depth d) (depth (parent d)) (distance_right n d k) (depth_parent d (omega arith) y) (distance_depth f n (parent d) (omega arith) x (omega arith))
    | inr k ↦ sum_left (tree_distance n d) (tree_distance (parent n) d) (depth n) (depth d) (depth (parent n)) (distance_left n d k) (depth_parent n (omega arith) x) (distance_depth f (parent n) d (omega arith) (omega arith) y)
  ]
]

-- ranks over plain numbers: of two hops down, of one up and one down, and of two up
deeper_rank : (h t u r s : ℕ) → r ≡ h + t → s ≡ h + u → u ≡ t + 1 → r < s
deeper_rank h t u r s a b c = omega arith

turned_rank : (h t u r s : ℕ) → 1 ≤ h → r ≡ h - t → s ≡ h + u → t ≡ u + 1 → r < s
turned_rank h t u r s a b c d = omega arith

higher_rank : (h t u r s : ℕ) → t ≤ h → r ≡ h - t → s ≡ h - u → t ≡ u + 1 → r < s
higher_rank h t u r s a b c d = omega arith

low_up : (h t r : ℕ) → 1 ≤ h → r ≡ h - t → r < 2 * h
low_up h t r a b = omega arith

low_down : (h t u r : ℕ) → r ≡ h + t → u ≡ t + 1 → u ≤ h → r < 2 * h
low_down h t u r a b c = omega arith

-- a link that is there leads up to the parent, or down to a child that is a node
link_way_at : (nodes n p m : ℕ) (extra : Bool) → cond (far_end_stands nodes n p && extra) (Some (far_end n p)) None ≡ Some m → ((p < 2) × (0 < n) × (m ≡ parent n)) ⊎ ((2 ≤ p) × (n < m) × (m < nodes) × (parent m ≡ n))
link_way_at nodes n p m extra l = elim (cases_lt p 2) [
  | inl c ↦ let x : 0 < n = grind (arith, nat_tests) in let y : m ≡ parent n = grind (arith, nat_tests) in inl (c, x, y)
  | inr c ↦ let x : n < m = grind (arith, nat_tests) in let y : m < nodes = grind (arith, nat_tests) in let z : parent m ≡ n = grind (arith, nat_tests) in inr (c, x, y, z)
]

-- the heights and their numbers of nodes
abbrev Heights : ℕ → ℕ → Type 0
Heights height nodes = ((height ≡ 1) × (nodes ≡ 3)) ⊎ (((height ≡ 2) × (nodes ≡ 7)) ⊎ (((height ≡ 3) × (nodes ≡ 15)) ⊎ (((height ≡ 4) × (nodes ≡ 31)) ⊎ ((height ≡ 5) × (nodes ≡ 63)))))

module _ (nodes height fat : ℕ) (of_height : Heights height nodes) where
  abbrev rule : Network
  rule = tree_rule nodes height fat

  deep : (n : ℕ) → n < nodes → depth n ≤ height
  deep n h = grind (arith, nat_tests)

  few : nodes ≤ 63
  few = grind arith

  some : 1 ≤ height
  some = grind arith

  twice : 2 * height < nodes
  twice = grind arith

  link_way : (n p m : ℕ) → rule.link n p ≡ Some m → ((p < 2) × (0 < n) × (m ≡ parent n)) ⊎ ((2 ≤ p) × (n < m) × (m < nodes) × (parent m ≡ n))
  link_way n p m l = link_way_at nodes n p m (p % 2 == 0 || nat_lt (depth (upper_end n p)) fat) l

  -- a hop down, to a child with d in its subtree
  abbrev Down : ℕ → ℕ → Hop → Type 0
  Down n d h = (2 ≤ h.port) × (h.port < 6) × (h.class ≡ 0) × (rule.link n h.port ≡ Some h.next) × (n < h.next) × (parent h.next ≡ n) × (in_subtree h.next d ≡ true)

  -- a hop up, from a node with d not in its subtree
  abbrev Up : ℕ → ℕ → Hop → Type 0
  Up n d h = (h.port ≡ 0) × (h.class ≡ 0) × (h.next ≡ parent n) × (0 < n) × (in_subtree n d ≡ false)

  down_first : (n d : ℕ) → d < nodes → in_subtree (2 * n + 1) d ≡ true → Down n d (hop 2 0 (2 * n + 1))
  down_first n d b u = let x : 2 * n + 1 < nodes = omega (arith, subtree_least (2 * n + 1) d u) in (lit≤ tt, lit< tt, refl, rw (lt-ltb (2 * n + 1) nodes x), omega arith, omega arith, u)

  down_second : (n d : ℕ) → d < nodes → in_subtree (2 * n + 2) d ≡ true → Down n d (hop 4 0 (2 * n + 2))
  down_second n d b u = let x : 2 * n + 2 < nodes = omega (arith, subtree_least (2 * n + 2) d u) in (lit≤ tt, lit< tt, refl, rw (lt-ltb (2 * n + 2) nodes x), omega arith, omega arith, u)

  up_first : (n d : ℕ) → n ≢ d → ancestor n d ≡ false → Up n d (hop 0 0 (parent n))
  up_first n d c u = let w = no_ancestor n d c u in (refl, refl, refl, w.0, w.1)

  -- escape is the one or the other
  escape_way : (n d : ℕ) → d < nodes → n ≢ d → (P : Option Hop → Type 0) → ((h : Hop) → Down n d h → P (Some h)) → ((h : Hop) → Up n d h → P (Some h)) → P (rule.escape n d)
  escape_way n d b c P x y =
      cond_both (ancestor n d) (cond (in_subtree (2 * n + 1) d) (Some (hop 2 0 (2 * n + 1))) (Some (hop 4 0 (2 * n + 2)))) (Some (hop 0 0 (parent n))) P
      (λ u. cond_both (in_subtree (2 * n + 1) d) (Some (hop 2 0 (2 * n + 1))) (Some (hop 4 0 (2 * n + 2))) P
      (λ v. x (hop 2 0 (2 * n + 1)) (down_first n d b v))
      (λ v. x (hop 4 0 (2 * n + 2)) (down_second n d b (second_child n d c u v))))
      (λ u. y (hop 0 0 (parent n)) (up_first n d c u))

  down_nearer : (n d : ℕ) (h : Hop) → Down n d h → Nearer rule n d h
  down_nearer n d h w = record {
    port_in = w.1;
    class_in = omega (arith, w.2);
    along = w.3;
    less = child_nearer d n h.next d (omega arith) w.4 w.5 w.6;
  }

  up_nearer : (n d : ℕ) (h : Hop) → Up n d h → Nearer rule n d h
  up_nearer n d h w = record {
    port_in = omega (arith, w.0);
    class_in = omega (arith, w.1);
    along = rw (w.0, w.2, lt-ltb 0 n w.3);
    less = rw w.2 (parent_nearer d n d (omega arith) w.3 w.4);
  }

  rank_down : (n p e : ℕ) → 2 ≤ p → rule.rank n p e ≡ height + depth n
  rank_down n p e c = rw (le-ltb p 2 c)

  rank_up : (n p e : ℕ) → p < 2 → rule.rank n p e ≡ height - depth n
  rank_up n p e c = rw (lt-ltb p 2 c)

  abbrev Way : ℕ → ℕ → Option Hop → Type 0
  Way n d None = ⊥
  Way n d (Some h) = Down n d h ⊎ Up n d h

  way : (n d : ℕ) (h : Hop) → d < nodes → n ≢ d → rule.escape n d ≡ Some h → Down n d h ⊎ Up n d h
  way n d h b c e = subst (Way n d) e (escape_way n d b c (Way n d) (λ h. inl) (λ h. inr))

  rising : (n d : ℕ) (h j : Hop) → n < nodes → d < nodes → n ≢ d → rule.escape n d ≡ Some h → h.next ≢ d → rule.escape h.next d ≡ Some j → rule.rank n h.port h.class < rule.rank h.next j.port j.class
  rising n d h j a b c l s m = elim (way n d h b c l) [
    | inl x ↦ elim (way h.next d j b s m) [
      | inl y ↦
          let q = subtree_least h.next d x.6 in
          let t = depth_parent h.next (omega (arith, x.4)) (omega (arith, few)) ∙ ap (λ z. depth z + 1) x.5 in
          let u = rank_down n h.port h.class x.0 in
          let v = rank_down h.next j.port j.class y.0 in
          deeper_rank height (depth n) (depth h.next) (rule.rank n h.port h.class) (rule.rank h.next j.port j.class) u v t
      | inr y ↦ absurd (both_ways (in_subtree h.next d) y.4 x.6)
    ]
    | inr x ↦
        let t = depth_parent n x.3 (omega (arith, few)) ∙ ap (λ z. depth z + 1) (sym x.2) in
        let u = rank_up n h.port h.class (omega (arith, x.0)) in
        elim (way h.next d j b s m) [
          | inl y ↦
              let v = rank_down h.next j.port j.class y.0 in
              turned_rank height (depth n) (depth h.next) (rule.rank n h.port h.class) (rule.rank h.next j.port j.class) some u v t
          | inr y ↦
              let v = rank_up h.next j.port j.class (omega (arith, y.0)) in
              higher_rank height (depth n) (depth h.next) (rule.rank n h.port h.class) (rule.rank h.next j.port j.class) (deep n a) u v t
        ]
  ]

  rule_sound : Sound rule
  rule_sound = record {
    distances = record {
      near = λ n d a b. sum_below (tree_distance n d) (depth n) (depth d) height nodes (distance_depth (n + d) n d (omega arith) (omega (arith, few)) (omega (arith, few))) (deep n a) (deep d b) twice;
      here = λ n a. distance_same n n refl;
      apart = λ n d a b z. distance_apart n d z;
    };
    steps = λ n p m d a b c l. elim (link_way n p m l) [
      | inl w ↦ rw w.2 (up_step d n d (omega arith) w.1)
      | inr w ↦ subst (λ z. tree_distance z d ≤ tree_distance m d + 1) w.3 (down_step d m d (omega arith) (omega (arith, w.1)))
    ];
    escapes = λ n d a b c. escape_way n d b c (Leads rule n d) (down_nearer n d) (up_nearer n d);
    low = λ n p e m a b c l. elim (link_way n p m l) [
      | inl w ↦ low_up height (depth n) (rule.rank n p e) some (rank_up n p e w.0)
      | inr w ↦ low_down height (depth n) (depth m) (rule.rank n p e) (rank_down n p e w.0) (depth_parent m (omega (arith, w.1)) (omega (arith, w.2, few)) ∙ ap (λ z. depth z + 1) w.3) (deep m w.2)
    ];
    rises = rising;
    links = λ n p m a b l. elim (link_way n p m l) [ inl w ↦ omega (arith, w.1, w.2) | inr w ↦ w.2 ];
  }

  rule_sizes : Sizes rule
  rule_sizes = record {
    nodes_low = omega (arith, twice, some);
    nodes_high = omega (arith, few);
    ports_low = lit≤ tt;
    ports_high = lit≤ tt;
    classes_low = lit≤ tt;
    classes_high = lit≤ tt;
    ceiling_low = omega (arith, some);
    ceiling_high = omega (arith, twice);
  }

-- a height from 1 to 5 is one of five
heights : (h f : ℕ) → tree_sized h f ≡ true → Heights h (2 ^ (h + 1) - 1)
heights h f good =
    let t = and_parts (nat_le 1 h) (nat_le h 5 && nat_le f h) good in
    let lo = leb-true 1 h t.0 in
    let hi = leb-true h 5 (and_parts (nat_le h 5) (nat_le f h) t.1).0 in
    elim (cases_eq h 1) [
      | inl e ↦ inl (e, ap (λ x. 2 ^ (x + 1) - 1) e)
      | inr a ↦ elim (cases_eq h 2) [
        | inl e ↦ inr (inl (e, ap (λ x. 2 ^ (x + 1) - 1) e))
        | inr b ↦ elim (cases_eq h 3) [
          | inl e ↦ inr (inr (inl (e, ap (λ x. 2 ^ (x + 1) - 1) e)))
          | inr c ↦ elim (cases_eq h 4) [
            | inl e ↦ inr (inr (inr (inl (e, ap (λ x. 2 ^ (x + 1) - 1) e))))
            | inr d ↦ let e : h ≡ 5 = omega arith in inr (inr (inr (inr (e, ap (λ x. 2 ^ (x + 1) - 1) e))))
          ]
        ]
      ]
    ]

-- a shift gives the number of nodes
pub nodes_shifted : (h f : ℕ) → tree_sized h f ≡ true → 2 * 2 ^ h % 2 ^ 64 - 1 ≡ (tree h f).nodes
nodes_shifted h f good =
    let t = and_parts (nat_le 1 h) (nat_le h 5 && nat_le f h) good in
    let hi = leb-true h 5 (and_parts (nat_le h 5) (nat_le f h) t.1).0 in
    let few : 2 ^ h ≤ 2 ^ 5 = pow-le-pow_right (lit< tt) hi in
    let e : 2 * 2 ^ h % 2 ^ 64 ≡ 2 * 2 ^ h = mod-eq_of_lt (omega arith) in
    rw (good, e, add-one, pow-suc) (omega arith)

pub tree_lawful : (h f : ℕ) → Lawful (tree h f)
tree_lawful h f = usable_lawful (tree_sized h f) (tree_rule (2 ^ (h + 1) - 1) h f)
    (λ good. rule_sizes (2 ^ (h + 1) - 1) h f (heights h f good))
    (λ good. rule_sound (2 ^ (h + 1) - 1) h f (heights h f good))
