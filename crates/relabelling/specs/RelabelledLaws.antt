-- A lawful network whose nodes are named by labels is lawful. Assumes nothing.
use Rattle.std.proofs.Common.{◌≡◌, ℕ, zero, suc, ◌<◌, ◌≤◌, cond, eqb, ltb, ◌≢◌, List, get_or, Some, None, Option, sym, ap, ◌∙◌, inl, inr, refl, arith}
use Rattle.std.specs.Option.{option_map, unwrap_or, MatchOption}
use Rattle.std.proofs.lemmas.Bool.{cases_lt, cases_eq, cases_order, and_parts, ltb-true, eqb-true, eq-eqb, ne_eqb}
use Rattle.network.specs.declared.hop.Hop.{Hop}
use Rattle.network.specs.Network.{Network}
use Rattle.network.specs.Laws.{Leads, Rises, Lawful}
use Rattle.network.proofs.Options.{mapped_some}
use Rattle.network.proofs.Consequences.{link_asked, hop_node, hop_rises}
use Rattle.network.proofs.Restricted.{Sound, usable_lawful}
use Rattle.relabelling.specs.declared.labelling.Labelling.{Labelling}
use Rattle.relabelling.specs.Relabels.{label_of, hop_labelled, relabelled_rule, relabelled_sized, relabelled}

-- f below m, with f m in the place of what equals m
unfoldable packed : (ℕ → ℕ) → ℕ → ℕ → ℕ
packed f m i = cond (eqb (f i) m) (f m) (f i)

packed_at : (f : ℕ → ℕ) (m i : ℕ) → f i ≡ m → packed f m i ≡ f m
unfolding packed
packed_at f m i e = rw (eq-eqb (f i) m e)

packed_else : (f : ℕ → ℕ) (m i : ℕ) → f i ≢ m → packed f m i ≡ f i
unfolding packed
packed_else f m i e = rw (ne_eqb (f i) m e)

-- the numbers that f gives below n are under n, each once
record Shuffles (n : ℕ) (f : ℕ → ℕ) : Type 0 where
  under : (i : ℕ) → i < n → f i < n
  distinct : (i j : ℕ) → i < n → j < n → f i ≡ f j → i ≡ j

packed_shuffles : (m : ℕ) (f : ℕ → ℕ) → Shuffles (suc m) f → Shuffles m (packed f m)
packed_shuffles m f s = record {
  under = λ i a. elim (cases_eq (f i) m) [
    | inl e ↦
        let ne : f m ≢ m = λ z. let q = s.distinct i m (omega arith) (omega arith) (e ∙ sym z) in omega arith in
        omega (arith, packed_at f m i e, s.under m (omega arith), ne)
    | inr e ↦ omega (arith, packed_else f m i e, s.under i (omega arith))
  ];
  distinct = λ i j a c q. elim (cases_eq (f i) m) [
    | inl e ↦ elim (cases_eq (f j) m) [
      | inl d ↦ s.distinct i j (omega arith) (omega arith) (e ∙ sym d)
      | inr d ↦ let z = s.distinct m j (omega arith) (omega arith) (sym (packed_at f m i e) ∙ q ∙ packed_else f m j d) in omega arith
    ]
    | inr e ↦ elim (cases_eq (f j) m) [
      | inl d ↦ let z = s.distinct i m (omega arith) (omega arith) (sym (packed_else f m i e) ∙ q ∙ packed_at f m j d) in omega arith
      | inr d ↦ s.distinct i j (omega arith) (omega arith) (sym (packed_else f m i e) ∙ q ∙ packed_else f m j d)
    ]
  ];
}

-- n numbers under n, each once, are all of the numbers under n
onto : (n : ℕ) (f : ℕ → ℕ) → Shuffles n f → (x : ℕ) → x < n → (i : ℕ) × (i < n) × (f i ≡ x)
onto zero f s x h = let r : ⊥ = omega arith in absurd r
onto (suc m) f s x h = elim (cases_eq x (f m)) [
  | inl e ↦ (m, omega arith, sym e)
  | inr e ↦ elim (cases_lt x m) [
    | inl l ↦
        let w = onto m (packed f m) (packed_shuffles m f s) x l in
        elim (cases_eq (f w.0) m) [
          | inl d ↦ absurd (e (sym w.2 ∙ packed_at f m w.0 d))
          | inr d ↦ (w.0, omega (arith, w.1), sym (packed_else f m w.0 d) ∙ w.2)
        ]
    | inr l ↦
        let v : f m < m = omega (arith, s.under m (omega arith)) in
        let w = onto m (packed f m) (packed_shuffles m f s) (f m) v in
        elim (cases_eq (f w.0) m) [
          | inl d ↦ (w.0, omega (arith, w.1), omega arith)
          | inr d ↦
              let z = s.distinct w.0 m (omega (arith, w.1)) (omega arith) (sym (packed_else f m w.0 d) ∙ w.2) in
              let r : ⊥ = omega (arith, w.1) in
              absurd r
        ]
  ]
]

-- a label that is there is found
found : (xs : List ℕ) (k i x : ℕ) → i < k → get_or xs i 0 ≡ x → (label_of xs k x < k) × (get_or xs (label_of xs k x) 0 ≡ x)
found xs zero i x a e = let r : ⊥ = omega arith in absurd r
found xs (suc k) i x a e = elim (cases_eq (get_or xs k 0) x) [
  | inl d ↦ rw (eq-eqb (get_or xs k 0) x d) (omega arith, d)
  | inr d ↦
      let ne : i ≢ k = λ z. d (ap (λ y. get_or xs y 0) (sym z) ∙ e) in
      let w = found xs k i x (omega arith) e in
      rw (ne_eqb (get_or xs k 0) x d) (omega (arith, w.0), w.1)
]

-- where no label has the position, 0 is found
none_found : (xs : List ℕ) (k x : ℕ) → ((i : ℕ) → i < k → get_or xs i 0 ≢ x) → label_of xs k x ≡ 0
none_found xs zero x h = refl
none_found xs (suc k) x h = rw (ne_eqb (get_or xs k 0) x (h k (omega arith))) (none_found xs k x (λ i a. h i (omega arith)))

-- The label is what a search of all labels for the position finds, and 0 where it finds none.
pub label_is : (l : Labelling) (x : ℕ) (o : Option ℕ)
    → MatchOption o ((i : ℕ) → 0 ≤ i → i < l.count → get_or l.positions i 0 ≢ x)
    (λ i. (0 ≤ i) × (i < l.count) × (get_or l.positions i 0 ≡ x) × ((k : ℕ) → 0 ≤ k → k < i → get_or l.positions k 0 ≢ x))
    → unwrap_or o 0 ≡ label_of l.positions l.count x
label_is l x None none = sym (none_found l.positions l.count x (λ i a. none i (omega arith) a))
label_is l x (Some i) some =
    let w = found l.positions l.count i x some.1 some.2 in
    elim (cases_order i (label_of l.positions l.count x)) [
      | inl z ↦ z
      | inr v ↦ elim v [ inl z ↦ absurd (l.once i _ z w.0 (some.2 ∙ sym w.1)) | inr z ↦ absurd (l.once _ i z some.1 (w.1 ∙ sym some.2)) ]
    ]

module _ (count : ℕ) (xs : List ℕ) (within : (i : ℕ) → i < count → get_or xs i 0 < count) (once : (i j : ℕ) → i < j → j < count → get_or xs i 0 ≡ get_or xs j 0 → ⊥) where
  abbrev position : ℕ → ℕ
  position i = get_or xs i 0

  abbrev label : ℕ → ℕ
  label x = label_of xs count x

  distinct : (i j : ℕ) → i < count → j < count → position i ≡ position j → i ≡ j
  distinct i j a b e = elim (cases_order i j) [
    | inl z ↦ z
    | inr w ↦ elim w [ inl z ↦ absurd (once i j z b e) | inr z ↦ absurd (once j i z a (sym e)) ]
  ]

  module _ (net : Network) (law : Lawful net) (e : net.nodes ≡ count) where
    abbrev rule : Network
    rule = relabelled_rule count xs net

    at : (n : ℕ) → n < net.nodes → position n < net.nodes
    at n a = omega (arith, within n (omega arith))

    apart : (n d : ℕ) → n < net.nodes → d < net.nodes → position n ≡ position d → n ≡ d
    apart n d a b z = distinct n d (omega arith) (omega arith) z

    back : (x : ℕ) → x < net.nodes → (label x < net.nodes) × (position (label x) ≡ x)
    back x a =
        let i = onto count position (record { under = within; distinct = distinct }) x (omega arith) in
        let w = found xs count i.0 x i.1 i.2 in
        (omega (arith, w.0), w.1)

    lead : (n d : ℕ) (o : Option Hop) → Leads net (position n) (position d) o → Leads rule n d (option_map (hop_labelled xs count) o)
    lead n d None l = l
    lead n d (Some h) l =
        let w = back h.next (link_asked net law (position n) h.port h.next l.along).2 in
        record {
          port_in = l.port_in;
          class_in = l.class_in;
          along = rw l.along;
          less = omega (arith, l.less, ap (λ z. net.distance z (position d)) w.1);
        }

    rises : Rises rule
    rises n d h j a b c l s m =
        let v = mapped_some (hop_labelled xs count) (net.escape (position n) (position d)) h l in
        let w = mapped_some (hop_labelled xs count) (net.escape (position h.next) (position d)) j m in
        let k = back v.0.next (hop_node net law (position n) (position d) v.0 v.1) in
        let x : position h.next ≡ v.0.next = ap (λ z. position z.next) v.2 ∙ k.1 in
        let up = hop_rises net law (position n) (position d) v.0 w.0 v.1 (ap (λ z. net.escape z (position d)) (sym x) ∙ w.1) in
        let r : rule.rank n h.port h.class ≡ net.rank (position n) v.0.port v.0.class = ap (λ (z : Hop). net.rank (position n) z.port z.class) v.2 in
        let t : rule.rank h.next j.port j.class ≡ net.rank v.0.next w.0.port w.0.class = ap (λ z. net.rank z j.port j.class) x ∙ ap (λ (z : Hop). net.rank v.0.next z.port z.class) w.2 in
        omega arith

    relabelled_sound : Sound rule
    relabelled_sound = record {
      distances = record {
        near = λ n d a b. law.distances.near (position n) (position d) (at n a) (at d b);
        here = λ n a. law.distances.here (position n) (at n a);
        apart = λ n d a b z. apart n d a b (law.distances.apart (position n) (position d) (at n a) (at d b) z);
      };
      steps = λ n p m d a b c l.
          let w = mapped_some label (net.link (position n) p) m l in
          let k = back w.0 (link_asked net law (position n) p w.0 w.1).2 in
          let x : position m ≡ w.0 = ap position w.2 ∙ k.1 in
          omega (arith, law.steps (position n) p w.0 (position d) (at n a) b (at d c) w.1, ap (λ z. net.distance z (position d)) x);
      escapes = λ n d a b c. lead n d (net.escape (position n) (position d)) (law.escapes (position n) (position d) (at n a) (at d b) (λ z. c (apart n d a b z)));
      low = λ n p e m a b c l. law.ceilings (position n) p e (at n a) b c;
      rises = rises;
      links = λ n p m a b l.
          let w = mapped_some label (net.link (position n) p) m l in
          rw w.2 (back w.0 (link_asked net law (position n) p w.0 w.1).2).0;
    }

pub relabelled_lawful : (l : Labelling) (net : Network) → Lawful net → Lawful (relabelled l net)
relabelled_lawful l net law =
    let both = and_parts (ltb 0 net.nodes) (eqb net.nodes l.count) in
    usable_lawful (relabelled_sized l.count net) (relabelled_rule l.count l.positions net)
    (λ good. law.sizes (ltb-true 0 net.nodes (both good).0))
    (λ good. relabelled_sound l.count l.positions l.within l.once net law (eqb-true net.nodes l.count (both good).1))
