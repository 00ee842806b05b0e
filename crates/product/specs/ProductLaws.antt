-- The product of two lawful networks is lawful. Assumes nothing.
use Rattle.std.proofs.Common.{◌≡◌, ℕ, ◌+◌, ◌-◌, ◌*◌, ◌<◌, ◌≤◌, true, ◌&&◌, ltb, leb, ◌≢◌, ◌⊎◌, Some, None, Option, sym, ap, ◌∙◌, inl, inr, mul-le-mul_right, mod-lt, mod-eq_of_lt, mul_comm, div-lt_iff_lt-mul, mul-le-mul_left, zero-add, arith}
use native.Mathlib.Nat.{div-eq_of_lt, mod-add-div, add-mul-mod_self_left, add-mul-div_left}
use lib.Arith.{digits_lt}
use Rattle.std.specs.Option.{option_map}
use Rattle.std.proofs.lemmas.Bool.{cond_both, leb-true, ltb-true, and_parts, cases_lt, cases_eq, lt-ltb, le-ltb, eq-eqb, ne_eqb}
use Rattle.network.specs.declared.hop.Hop.{Hop}
use Rattle.network.specs.Network.{Network}
use Rattle.network.specs.Laws.{Distances, Steps, Leads, Escapes, Rises, Links, Sizes, Lawful}
use Rattle.network.proofs.Options.{mapped_some}
use Rattle.network.proofs.Consequences.{link_asked, hop_nearer, hop_node, hop_rises, rank_under}
use Rattle.network.proofs.Restricted.{Sound, usable_lawful}
use Rattle.product.specs.Products.{column, row, node_at, hop_first, hop_second, product_rule, product_sized, product}

sum_small : (a b : ℕ) → 2 ≤ a → 2 ≤ b → a + b ≤ a * b
sum_small a b x y = omega (arith, mul-le-mul_left a y, mul-le-mul_right b x)

-- what is known of two parts whose product is usable
record Parts (one two : Network) : Type 0 where
  first_some : 0 < one.nodes
  second_some : 0 < two.nodes
  small : one.nodes * two.nodes ≤ 64
  few : one.ports + two.ports ≤ 6

module _ (one two : Network) (f : Lawful one) (t : Lawful two) (parts : Parts one two) where
  column_in : (n : ℕ) → column one n < one.nodes
  column_in n = mod-lt n parts.first_some

  row_in : (n : ℕ) → n < one.nodes * two.nodes → row one n < two.nodes
  row_in n h = (div-lt_iff_lt-mul {x = n} {y = two.nodes} parts.first_some).1 (omega (arith, mul_comm one.nodes two.nodes))

  column_at : (a b : ℕ) → a < one.nodes → column one (node_at one a b) ≡ a
  column_at a b h = add-mul-mod_self_left a one.nodes b ∙ mod-eq_of_lt h

  row_at : (a b : ℕ) → a < one.nodes → row one (node_at one a b) ≡ b
  row_at a b h = add-mul-div_left a b parts.first_some ∙ ap (λ x. x + b) (div-eq_of_lt h) ∙ zero-add b

  node_in : (a b : ℕ) → a < one.nodes → b < two.nodes → node_at one a b < one.nodes * two.nodes
  node_in a b x y = omega (arith, digits_lt {q = b} {m = two.nodes} {r = a} {c = one.nodes} y x, mul_comm one.nodes two.nodes, mul_comm one.nodes b)

  same_node : (n d : ℕ) → column one n ≡ column one d → row one n ≡ row one d → n ≡ d
  same_node n d x y = sym (mod-add-div n one.nodes) ∙ ap (λ z. z + one.nodes * row one n) x ∙ ap (λ z. column one d + one.nodes * z) y ∙ mod-add-div d one.nodes

  abbrev rule : Network
  rule = product_rule one two

  -- a link of the product is one of the first part or of the second
  link_way : (n p m : ℕ) → rule.link n p ≡ Some m → ((a : ℕ) × (p < one.ports) × (one.link (column one n) p ≡ Some a) × (m ≡ node_at one a (row one n))) ⊎ ((b : ℕ) × (one.ports ≤ p) × (two.link (row one n) (p - one.ports) ≡ Some b) × (m ≡ node_at one (column one n) b))
  link_way n p m e = elim (cases_lt p one.ports) [
    | inl c ↦ let w = mapped_some (λ a. node_at one a (row one n)) (one.link (column one n) p) m (rw (lt-ltb p one.ports c) at e) in inl (w.0, c, w.1, w.2)
    | inr c ↦ let w = mapped_some (λ b. node_at one (column one n) b) (two.link (row one n) (p - one.ports)) m (rw (le-ltb p one.ports c) at e) in inr (w.0, c, w.1, w.2)
  ]

  -- and so is a hop
  escape_way : (n d : ℕ) (h : Hop) → rule.escape n d ≡ Some h → ((g : Hop) × (column one n ≢ column one d) × (one.escape (column one n) (column one d) ≡ Some g) × (h ≡ hop_first one n g)) ⊎ ((g : Hop) × (column one n ≡ column one d) × (two.escape (row one n) (row one d) ≡ Some g) × (h ≡ hop_second one n g))
  escape_way n d h e = elim (cases_eq (column one n) (column one d)) [
    | inl c ↦ let w = mapped_some (hop_second one n) (two.escape (row one n) (row one d)) h (rw (eq-eqb (column one n) (column one d) c) at e) in inr (w.0, c, w.1, w.2)
    | inr c ↦ let w = mapped_some (hop_first one n) (one.escape (column one n) (column one d)) h (rw (ne_eqb (column one n) (column one d) c) at e) in inl (w.0, c, w.1, w.2)
  ]

  rank_first : (n p e : ℕ) → p < one.ports → rule.rank n p e ≡ one.rank (column one n) p e
  rank_first n p e c = rw (lt-ltb p one.ports c)

  rank_second : (n q e : ℕ) → rule.rank n (one.ports + q) e ≡ one.ceiling + two.rank (row one n) q e
  rank_second n q e =
      let c : one.ports ≤ one.ports + q = omega arith in
      let s : one.ports + q - one.ports ≡ q = omega arith in
      rw (le-ltb (one.ports + q) one.ports c, s)

  link_first : (n p a : ℕ) → p < one.ports → one.link (column one n) p ≡ Some a → rule.link n p ≡ Some (node_at one a (row one n))
  link_first n p a c e = rw (lt-ltb p one.ports c, e)

  link_second : (n q b : ℕ) → two.link (row one n) q ≡ Some b → rule.link n (one.ports + q) ≡ Some (node_at one (column one n) b)
  link_second n q b e =
      let c : one.ports ≤ one.ports + q = omega arith in
      let s : one.ports + q - one.ports ≡ q = omega arith in
      rw (le-ltb (one.ports + q) one.ports c, s, e)

  lead_first : (n d : ℕ) (o : Option Hop) → Leads one (column one n) (column one d) o → Leads rule n d (option_map (hop_first one n) o)
  lead_first n d None l = l
  lead_first n d (Some h) l =
      let m = (link_asked one f (column one n) h.port h.next l.along).2 in
      let x = ap (λ z. one.distance z (column one d)) (column_at h.next (row one n) m) in
      let y = ap (λ z. two.distance z (row one d)) (row_at h.next (row one n) m) in
      record {
        port_in = omega (arith, l.port_in);
        class_in = omega (arith, l.class_in);
        along = link_first n h.port h.next l.port_in l.along;
        less = omega (arith, l.less, x, y);
      }

  lead_second : (n d : ℕ) (o : Option Hop) → Leads two (row one n) (row one d) o → Leads rule n d (option_map (hop_second one n) o)
  lead_second n d None l = l
  lead_second n d (Some h) l =
      let x = ap (λ z. one.distance z (column one d)) (column_at (column one n) h.next (column_in n)) in
      let y = ap (λ z. two.distance z (row one d)) (row_at (column one n) h.next (column_in n)) in
      record {
        port_in = omega (arith, l.port_in);
        class_in = omega (arith, l.class_in);
        along = link_second n h.port h.next l.along;
        less = omega (arith, l.less, x, y);
      }

  escapes : Escapes rule
  escapes n d a b c = elim (cases_eq (column one n) (column one d)) [
    | inl e ↦ rw (eq-eqb (column one n) (column one d) e) (lead_second n d (two.escape (row one n) (row one d)) (t.escapes (row one n) (row one d) (row_in n a) (row_in d b) (λ z. c (same_node n d e z))))
    | inr e ↦ rw (ne_eqb (column one n) (column one d) e) (lead_first n d (one.escape (column one n) (column one d)) (f.escapes (column one n) (column one d) (column_in n) (column_in d) e))
  ]

  -- within a part as there; from the first to the second since the second's ranks stand above
  rises : Rises rule
  rises n d h j a b c l s m = elim (escape_way n d h l) [
    | inl w ↦
        let v = hop_nearer one f (column one n) (column one d) w.0 w.2 in
        let x : column one h.next ≡ w.0.next = ap (λ z. column one z.next) w.3 ∙ column_at w.0.next (row one n) (hop_node one f (column one n) (column one d) w.0 w.2) in
        let r : rule.rank n h.port h.class ≡ one.rank (column one n) w.0.port w.0.class = rw w.3 (rank_first n w.0.port w.0.class v.port_in) in
        elim (escape_way h.next d j m) [
          | inl k ↦
              let e : one.escape w.0.next (column one d) ≡ Some k.0 = rw x at k.2 in
              let u = hop_nearer one f w.0.next (column one d) k.0 e in
              let y : rule.rank h.next j.port j.class ≡ one.rank (column one h.next) k.0.port k.0.class = rw k.3 (rank_first h.next k.0.port k.0.class u.port_in) in
              let z = ap (λ z. one.rank z k.0.port k.0.class) x in
              omega (arith, hop_rises one f (column one n) (column one d) w.0 k.0 w.2 e)
          | inr k ↦
              let y : rule.rank h.next j.port j.class ≡ one.ceiling + two.rank (row one h.next) k.0.port k.0.class = rw k.3 (rank_second h.next k.0.port k.0.class) in
              omega (arith, rank_under one f parts.first_some (column one n) w.0.port w.0.class)
        ]
    | inr w ↦
        let x : column one h.next ≡ column one n = ap (λ z. column one z.next) w.3 ∙ column_at (column one n) w.0.next (column_in n) in
        let x' : row one h.next ≡ w.0.next = ap (λ z. row one z.next) w.3 ∙ row_at (column one n) w.0.next (column_in n) in
        let r : rule.rank n h.port h.class ≡ one.ceiling + two.rank (row one n) w.0.port w.0.class = rw w.3 (rank_second n w.0.port w.0.class) in
        elim (escape_way h.next d j m) [
          | inl k ↦ absurd (k.1 (x ∙ w.1))
          | inr k ↦
              let e : two.escape w.0.next (row one d) ≡ Some k.0 = rw x' at k.2 in
              let y : rule.rank h.next j.port j.class ≡ one.ceiling + two.rank (row one h.next) k.0.port k.0.class = rw k.3 (rank_second h.next k.0.port k.0.class) in
              let z = ap (λ z. two.rank z k.0.port k.0.class) x' in
              omega (arith, hop_rises two t (row one n) (row one d) w.0 k.0 w.2 e)
        ]
  ]

  distances : Distances rule
  distances = record {
    near = λ n d a b.
        omega (arith, f.distances.near (column one n) (column one d) (column_in n) (column_in d), t.distances.near (row one n) (row one d) (row_in n a) (row_in d b), sum_small one.nodes two.nodes (f.sizes parts.first_some).nodes_low (t.sizes parts.second_some).nodes_low);
    here = λ n a. omega (arith, f.distances.here (column one n) (column_in n), t.distances.here (row one n) (row_in n a));
    apart = λ n d a b z.
        same_node n d (f.distances.apart (column one n) (column one d) (column_in n) (column_in d) (omega arith)) (t.distances.apart (row one n) (row one d) (row_in n a) (row_in d b) (omega arith));
  }

  steps : Steps rule
  steps n p m d a b c l = elim (link_way n p m l) [
    | inl w ↦
        let q = (link_asked one f (column one n) p w.0 w.2).2 in
        let x = ap (λ z. one.distance z (column one d)) (ap (column one) w.3 ∙ column_at w.0 (row one n) q) in
        let y = ap (λ z. two.distance z (row one d)) (ap (row one) w.3 ∙ row_at w.0 (row one n) q) in
        omega (arith, f.steps (column one n) p w.0 (column one d) (column_in n) w.1 (column_in d) w.2)
    | inr w ↦
        let q : p - one.ports < two.ports = omega (arith, w.1) in
        let x = ap (λ z. one.distance z (column one d)) (ap (column one) w.3 ∙ column_at (column one n) w.0 (column_in n)) in
        let y = ap (λ z. two.distance z (row one d)) (ap (row one) w.3 ∙ row_at (column one n) w.0 (column_in n)) in
        omega (arith, t.steps (row one n) (p - one.ports) w.0 (row one d) (row_in n a) q (row_in d c) w.2)
  ]

  links : Links rule
  links n p m a b l = elim (link_way n p m l) [
    | inl w ↦ rw w.3 (node_in w.0 (row one n) (link_asked one f (column one n) p w.0 w.2).2 (row_in n a))
    | inr w ↦ rw w.3 (node_in (column one n) w.0 (column_in n) (link_asked two t (row one n) (p - one.ports) w.0 w.2).2)
  ]

  product_sound : Sound rule
  product_sound = record {
    distances = distances;
    steps = steps;
    escapes = escapes;
    low = λ n p e m a b c l.
        let x = rank_under one f parts.first_some (column one n) p e in
        let y = rank_under two t parts.second_some (row one n) (p - one.ports) e in
        cond_both (ltb p one.ports) (one.rank (column one n) p e) (one.ceiling + two.rank (row one n) (p - one.ports) e) (λ r. r < one.ceiling + two.ceiling) (λ z. omega arith) (λ z. omega arith);
    rises = rises;
    links = links;
  }

  product_sizes : Sizes rule
  product_sizes =
      let x = f.sizes parts.first_some in
      let y = t.sizes parts.second_some in
      let z = sum_small one.nodes two.nodes x.nodes_low y.nodes_low in
      record {
        nodes_low = omega arith;
        nodes_high = parts.small;
        ports_low = omega arith;
        ports_high = parts.few;
        classes_low = omega arith;
        classes_high = omega arith;
        ceiling_low = omega arith;
        ceiling_high = omega arith;
      }

sized : (one two : Network) → product_sized one two ≡ true → Parts one two
sized one two good =
    let p = and_parts (ltb 0 one.nodes) (ltb 0 two.nodes && (leb (one.nodes * two.nodes) 64 && leb (one.ports + two.ports) 6)) good in
    let q = and_parts (ltb 0 two.nodes) (leb (one.nodes * two.nodes) 64 && leb (one.ports + two.ports) 6) p.1 in
    let r = and_parts (leb (one.nodes * two.nodes) 64) (leb (one.ports + two.ports) 6) q.1 in
    record {
      first_some = ltb-true 0 one.nodes p.0;
      second_some = ltb-true 0 two.nodes q.0;
      small = leb-true (one.nodes * two.nodes) 64 r.0;
      few = leb-true (one.ports + two.ports) 6 r.1;
    }

pub product_lawful : (one two : Network) → Lawful one → Lawful two → Lawful (product one two)
product_lawful one two f t = usable_lawful (product_sized one two) (product_rule one two)
    (λ good. product_sizes one two f t (sized one two good))
    (λ good. product_sound one two f t (sized one two good))
