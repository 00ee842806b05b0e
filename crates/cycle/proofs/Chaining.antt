-- The chains of the buffers at each node, as they grow from the last buffer to the first. Assumes nothing.
use Rattle.std.proofs.Common.{◌≡◌, ℕ, suc, ◌<◌, ◌≤◌, ◌≢◌, ◌⊎◌, length, get_or, set, Some, None, Option, sym, ap, ◌∙◌, subst, inl, inr, arith}
use Rattle.std.proofs.lemmas.List.{get_or-set_same, get_or-set_other, get_or-replicate}
use Rattle.std.proofs.lemmas.Bool.{cases_eq}
use Rattle.network.specs.Network.{Network}
use Rattle.network.proofs.Options.{some_none}
use Rattle.switch.specs.Places.{buffer_count, location}
use Rattle.cycle.specs.declared.standing.Standing.{Standing}
use Rattle.cycle.specs.Chains.{NoneStands, IsFirst, FirstFrom, first_at, no_chains, ChainedFrom}

module _ (net : Network) (n from : ℕ) (o : Option ℕ) where
  first_none : o ≡ None → NoneStands net n from (buffer_count net) → FirstFrom net n from o
  first_none e h = record { some = λ x s. absurd (some_none o x s e); none = λ _. h }

  first_some : (b : ℕ) → o ≡ Some b → IsFirst net n from b → FirstFrom net n from o
  first_some b e h = record {
    some = λ x s. (let k : b ≡ x = cc in subst (IsFirst net n from) k h);
    none = λ s. absurd (some_none o b e s);
  }

-- no buffer is from the number of buffers on
pub chained_none : (net : Network) (t : ℕ) → t ≡ buffer_count net → net.nodes ≤ 64 → ChainedFrom net no_chains t
chained_none net t e few = record {
  heads = λ n h. first_none net n t (first_at no_chains n) (get_or-replicate 64 n None None (omega arith)) (λ i a l. absurd (omega arith));
  links = λ i n a h s. absurd (omega arith);
}

module _ (net : Network) (standing : Standing) (b : ℕ) (old : ChainedFrom net standing (suc b)) where
  -- one buffer more, which does not stand at n
  none_more : (n to : ℕ) → location net b ≢ Some n → NoneStands net n (suc b) to → NoneStands net n b to
  none_more n to ne h = λ i l u. elim (cases_eq i b) [
    | inl e ↦ λ s. ne (ap (location net) (sym e) ∙ s)
    | inr d ↦ h i (omega arith) u
  ]

  first_more : (n : ℕ) (o : Option ℕ) → location net b ≢ Some n → FirstFrom net n (suc b) o → FirstFrom net n b o
  first_more n o ne f = record {
    some = λ x e. (let k = f.some x e in record { after = omega (arith, k.after); within = k.within; between = none_more n x ne k.between; here = k.here });
    none = λ e. none_more n (buffer_count net) ne (f.none e);
  }

  -- a buffer that stands nowhere changes nothing
  pub chained_nowhere : None ≡ location net b → ChainedFrom net standing b
  chained_nowhere e =
      let ne : (n : ℕ) → location net b ≢ Some n = λ n s. some_none (location net b) n s (sym e) in
      record {
        heads = λ n h. first_more n (first_at standing n) (ne n) (old.heads n h);
        links = λ i n l h s. elim (cases_eq i b) [
          | inl z ↦ absurd (ne n (ap (location net) (sym z) ∙ s))
          | inr d ↦ old.links i n (omega arith) h s
        ];
      }

  -- a buffer at the node m comes before those that are at m already
  pub chained_at : (m : ℕ) → Some m ≡ location net b → m < net.nodes → m < length standing.first → b < length standing.next → b < buffer_count net
      → ChainedFrom net (record { first = set standing.first m (Some b); next = set standing.next b (first_at standing m) }) b
  chained_at m e hm lm lb hb = record {
    heads = λ n h. head n h (cases_eq n m);
    links = λ i n l h s. link i n l h s (cases_eq i b);
  }
    where
      head : (n : ℕ) → n < net.nodes → (n ≡ m) ⊎ (n ≡ m → ⊥) → FirstFrom net n b (get_or (set standing.first m (Some b)) n None)
      head n h (inl s) =
          first_some net n b (get_or (set standing.first m (Some b)) n None) b
          (ap (λ x. get_or (set standing.first m (Some b)) x None) s ∙ get_or-set_same standing.first m (Some b) None lm)
          (record { after = omega arith; within = hb; between = λ i a c. absurd (omega arith); here = sym e ∙ ap (λ (x : ℕ). Some x) (sym s) })
      head n h (inr d) =
          subst (FirstFrom net n b) (sym (get_or-set_other standing.first m n (Some b) None d))
          (first_more n (first_at standing n) (λ s. let k : m ≡ n = cc in d (sym k)) (old.heads n h))

      link : (i n : ℕ) → b ≤ i → i < buffer_count net → location net i ≡ Some n → (i ≡ b) ⊎ (i ≡ b → ⊥)
          → FirstFrom net n (suc i) (get_or (set standing.next b (first_at standing m)) i None)
      link i n l h s (inl z) =
          let k : get_or (set standing.next b (first_at standing m)) i None ≡ first_at standing m =
          ap (λ x. get_or (set standing.next b (first_at standing m)) x None) z ∙ get_or-set_same standing.next b (first_at standing m) None lb in
          let q : location net b ≡ Some n = ap (location net) (sym z) ∙ s in
          let r : m ≡ n = cc in
          subst (FirstFrom net n (suc i)) (sym k)
          (subst (λ x. FirstFrom net x (suc i) (first_at standing m)) r (subst (λ x. FirstFrom net m (suc x) (first_at standing m)) (sym z) (old.heads m hm)))
      link i n l h s (inr d) = subst (FirstFrom net n (suc i)) (sym (get_or-set_other standing.next b i (first_at standing m) None d)) (old.links i n (omega arith) h s)
