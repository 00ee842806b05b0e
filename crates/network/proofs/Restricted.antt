-- What is left to show of a kind of routing: the laws of its rule where the arguments are in range. Assumes nothing.
use Rattle.std.proofs.Common.{◌≡◌, ℕ, ◌+◌, ◌<◌, Bool, true, ◌≢◌, Some, None, Option, sym, refl, ap, ◌∙◌, subst, arith}
use Rattle.std.proofs.lemmas.Bool.Decides.{nat_tests}
use Rattle.std.proofs.lemmas.Bool.{cond_both, lt-ltb, ne_eqb}
use Rattle.network.specs.declared.hop.Hop.{Hop}
use Rattle.network.specs.Network.{Network, unusable, restrict, usable_when}
use Rattle.network.specs.Laws.{Sizes, Distances, Steps, Nearer, Leads, Escapes, Rises, Links, Outside, Lawful}

-- the laws of a rule; a rank matters only where there is a link
pub record Sound (rule : Network) : Type 0 where
  pub distances : Distances rule
  pub steps : Steps rule
  pub escapes : Escapes rule
  pub low : (n p e m : ℕ) → n < rule.nodes → p < rule.ports → e < rule.classes → rule.link n p ≡ Some m → rule.rank n p e < rule.ceiling
  pub rises : Rises rule
  pub links : Links rule

-- what the fourth law says of the hop that escape names
pub escape_nearer : (net : Network) → Escapes net → (n d : ℕ) (h : Hop) → n < net.nodes → d < net.nodes → n ≢ d → net.escape n d ≡ Some h → Nearer net n d h
escape_nearer net law n d h a b c e = subst (Leads net n d) e (law n d a b c)

-- two answers as one does, in range
pub record Agree (one two : Network) : Type 0 where
  pub nodes_eq : two.nodes ≡ one.nodes
  pub ports_eq : two.ports ≡ one.ports
  pub classes_eq : two.classes ≡ one.classes
  pub ceiling_eq : two.ceiling ≡ one.ceiling
  pub link_eq : (n p : ℕ) → n < one.nodes → p < one.ports → two.link n p ≡ one.link n p
  pub distance_eq : (n d : ℕ) → n < one.nodes → d < one.nodes → two.distance n d ≡ one.distance n d
  pub escape_eq : (n d : ℕ) → n < one.nodes → d < one.nodes → n ≢ d → two.escape n d ≡ one.escape n d
  pub rank_eq : (n p e m : ℕ) → n < one.nodes → p < one.ports → e < one.classes → one.link n p ≡ Some m → two.rank n p e ≡ one.rank n p e

module _ (one two : Network) (same : Agree one two) (law : Sound one) where
  at_node : (n : ℕ) → n < two.nodes → n < one.nodes
  at_node n a = omega (arith, same.nodes_eq)

  at_port : (n : ℕ) → n < two.ports → n < one.ports
  at_port n a = omega (arith, same.ports_eq)

  at_class : (n : ℕ) → n < two.classes → n < one.classes
  at_class n a = omega (arith, same.classes_eq)

  nearer : (n d : ℕ) → n < one.nodes → d < one.nodes → (o : Option Hop) → Leads one n d o → Leads two n d o
  nearer n d a b None l = l
  nearer n d a b (Some h) l = record {
    port_in = omega (arith, l.port_in, same.ports_eq);
    class_in = omega (arith, l.class_in, same.classes_eq);
    along = same.link_eq n h.port a l.port_in ∙ l.along;
    less =
        let m = law.links n h.port h.next a l.port_in l.along in
        ap (λ x. x + 1) (same.distance_eq h.next d m b) ∙ l.less ∙ sym (same.distance_eq n d a b);
  }

  -- a network that agrees with a sound one, wherever it is asked in range, is sound
  pub agree_sound : Sound two
  agree_sound = record {
    distances = record {
      near = λ n d a' b'. let a = at_node n a' in let b = at_node d b' in omega (arith, same.distance_eq n d a b, law.distances.near n d a b, same.nodes_eq);
      here = λ n a'. let a = at_node n a' in same.distance_eq n n a a ∙ law.distances.here n a;
      apart = λ n d a' b' z. let a = at_node n a' in let b = at_node d b' in law.distances.apart n d a b (sym (same.distance_eq n d a b) ∙ z);
    };
    steps = λ n p m d a' b' c' l.
        let a = at_node n a' in
        let b = at_port p b' in
        let c = at_node d c' in
        let l' : one.link n p ≡ Some m = sym (same.link_eq n p a b) ∙ l in
        let f = law.links n p m a b l' in
        omega (arith, same.distance_eq n d a c, same.distance_eq m d f c, law.steps n p m d a b c l');
    escapes = λ n d a' b' c.
        let a = at_node n a' in
        let b = at_node d b' in
        subst (Leads two n d) (sym (same.escape_eq n d a b c)) (nearer n d a b (one.escape n d) (law.escapes n d a b c));
    low = λ n p e m a' b' c' l.
        let a = at_node n a' in
        let b = at_port p b' in
        let c = at_class e c' in
        let l' : one.link n p ≡ Some m = sym (same.link_eq n p a b) ∙ l in
        omega (arith, same.ceiling_eq, law.low n p e m a b c l', same.rank_eq n p e m a b c l');
    rises = λ n d h j a' b' c l s m.
        let a = at_node n a' in
        let b = at_node d b' in
        let e : one.escape n d ≡ Some h = sym (same.escape_eq n d a b c) ∙ l in
        let v = escape_nearer one law.escapes n d h a b c e in
        let f = law.links n h.port h.next a v.port_in v.along in
        let e' : one.escape h.next d ≡ Some j = sym (same.escape_eq h.next d f b s) ∙ m in
        let w = escape_nearer one law.escapes h.next d j f b s e' in
        omega (
          arith,
          same.rank_eq n h.port h.class h.next a v.port_in v.class_in v.along,
          same.rank_eq h.next j.port j.class j.next f w.port_in w.class_in w.along,
          law.rises n d h j a b c e s e',
        );
    links = λ n p m a' b' l. let a = at_node n a' in let b = at_port p b' in omega (arith, same.nodes_eq, law.links n p m a b (sym (same.link_eq n p a b) ∙ l));
  }

module _ (rule : Network) where
  restrict_agrees : Agree rule (restrict rule)
  restrict_agrees = record {
    nodes_eq = refl;
    ports_eq = refl;
    classes_eq = refl;
    ceiling_eq = refl;
    link_eq = λ n p a b. rw (lt-ltb n rule.nodes a, lt-ltb p rule.ports b);
    distance_eq = λ n d a b. rw (lt-ltb n rule.nodes a, lt-ltb d rule.nodes b);
    escape_eq = λ n d a b c. rw (lt-ltb n rule.nodes a, lt-ltb d rule.nodes b, ne_eqb n d c);
    rank_eq = λ n p e m a b c l. rw (lt-ltb n rule.nodes a, lt-ltb p rule.ports b, lt-ltb e rule.classes c, l);
  }

  restrict_outside : Outside (restrict rule)
  restrict_outside = record {
    no_link = λ n p f. grind (arith, nat_tests);
    no_distance = λ n d f. grind (arith, nat_tests);
    no_escape = λ n d f. grind (arith, nat_tests);
    no_rank = λ n p e f. grind (arith, nat_tests);
    unlinked = λ n p e f. grind (arith, nat_tests);
  }

  restrict_lawful : Sizes rule → Sound rule → Lawful (restrict rule)
  restrict_lawful sizes law =
      let s = agree_sound rule (restrict rule) restrict_agrees law in
      record {
        sizes = λ z. sizes;
        distances = s.distances;
        steps = s.steps;
        escapes = s.escapes;
        ceilings = λ n p e a b c. grind (arith, nat_tests, law.low n p e, sizes.ceiling_low);
        rises = s.rises;
        links = s.links;
        outside = restrict_outside;
        empty = λ z. let q = sizes.nodes_low in let r : ⊥ = omega arith in absurd r;
      }

unusable_lawful : Lawful unusable
unusable_lawful = record {
  sizes = λ z. let r : ⊥ = omega arith in absurd r;
  distances = record { near = λ n d a b. omega arith; here = λ n a. refl; apart = λ n d a b z. omega arith };
  steps = λ n p m d a b c l. omega arith;
  escapes = λ n d a b c. let r : ⊥ = omega arith in r;
  ceilings = λ n p e a b c. omega arith;
  rises = λ n d h j a b c l s m. omega arith;
  links = λ n p m a b l. omega arith;
  outside = record { no_link = λ n p f. refl; no_distance = λ n d f. refl; no_escape = λ n d f. refl; no_rank = λ n p e f. refl; unlinked = λ n p e f. refl };
  empty = λ z. record { no_ports = refl; no_classes = refl; no_ceiling = refl };
}

-- a kind is lawful if its rule is sound where its sizes are good
pub usable_lawful : (good : Bool) (rule : Network) → (good ≡ true → Sizes rule) → (good ≡ true → Sound rule) → Lawful (usable_when good rule)
usable_lawful good rule sizes law = cond_both good (restrict rule) unusable Lawful (λ e. restrict_lawful rule (sizes e) (law e)) (λ e. unusable_lawful)
