-- The stored answers of a lawful network mean that network. Assumes nothing.
use Rattle.std.proofs.Common.{◌≡◌, ℕ, ◌<◌, Some, None, Option, sym, refl, ap, ◌∙◌, subst, inl, inr, arith}
use mathlib.Core.Path.{fun_ext}
use Rattle.std.specs.Option.{option_map, option_flatten, option_and_then, unwrap_or}
use Rattle.std.proofs.lemmas.Option.{slice_get_cases}
use Rattle.network.specs.declared.hop.Hop.{Hop}
use Rattle.network.specs.Network.{Network, hop}
use Rattle.network.specs.Laws.{Lawful, Bounds}
use Rattle.network.proofs.Consequences.{hop_nearer, bounds_of}
use Rattle.table.specs.declared.answers.Answers.{Answers}
use Rattle.table.specs.declared.row.Row.{Row}
use Rattle.table.specs.Rows.{Filled, at, cell}
use Rattle.table.specs.Stored.{StoresSizes, StoresArrays, channel_of, link_at, channel_at, hop_by, stored_network}

-- What is made of a row's place is right if it is right of what stands there, and of none past the end,
at_same : {X Y : Type 0} {size : ℕ} (row : Row X size) (P : ℕ → X → Type 0) → Filled row P → (k : ℕ) (made : Option X → Y) (y : Y) → ((x : X) → P k x → made (Some x) ≡ y) → ((k < size → ⊥) → made None ≡ y) → made (at k row) ≡ y
at_same row P full k made y inside outside =
    elim (slice_get_cases row.cells k).1 [
      | inl (x, low, here, e) ↦ ap made here ∙ inside x (full.each k x here)
      | inr (high, none) ↦ ap made none ∙ outside (λ low. omega (arith, full.long))
    ]

-- and the same of a row and a column.
cell_same : {X Y : Type 0} {width height : ℕ} (rows : Row (Row X width) height) (P : ℕ → ℕ → X → Type 0) → Filled rows (λ n row. Filled row (P n)) → (n d : ℕ) (made : Option X → Y) (y : Y) → ((x : X) → P n d x → made (Some x) ≡ y) → ((n < height → d < width → ⊥) → made None ≡ y) → made (cell rows n d) ≡ y
cell_same rows P full n d made y inside outside =
    at_same rows _ full n (λ o. made (option_and_then (at d) o)) y
    (λ row cells. at_same row (P n) cells d made y inside (λ out. outside (λ b c. out c)))
    (λ out. outside (λ b c. out b))

module _ (net : Network) (law : Lawful net) (a : Answers) (sizes : StoresSizes net a) (full : StoresArrays net a) where
  small : Bounds net
  small = bounds_of net law

  node_small : (n : ℕ) → n < net.nodes → n < 64
  node_small n b = omega (arith, small.nodes_bound)

  port_small : (p : ℕ) → p < net.ports → p < 6
  port_small p b = omega (arith, small.ports_bound)

  class_small : (e : ℕ) → e < net.classes → e < 2
  class_small e b = omega (arith, small.classes_bound)

  link_same : (n p : ℕ) → link_at a n p ≡ net.link n p
  link_same n p = cell_same a.links _ full.links_are n p option_flatten _ (λ x same. same) (λ out. sym (law.outside.no_link n p (λ b c. out (node_small n b) (port_small p c))))

  distance_same : (n d : ℕ) → (stored_network a).distance n d ≡ net.distance n d
  distance_same n d = cell_same a.distances _ full.distances_are n d (λ o. unwrap_or o 0) _ (λ x same. same) (λ out. sym (law.outside.no_distance n d (λ b c. out (node_small n b) (node_small d c))))

  channel_same : (n d : ℕ) → channel_at a n d ≡ option_map channel_of (net.escape n d)
  channel_same n d = cell_same a.escapes _ full.escapes_are n d option_flatten _ (λ x same. same) (λ out. ap (option_map channel_of) (sym (law.outside.no_escape n d (λ b c. absurd (out (node_small n b) (node_small d c))))))

  -- a hop goes along its port's link, so it is known from its channel
  hop_same : (n d : ℕ) (o : Option Hop) → net.escape n d ≡ o → hop_by (link_at a n) (option_map channel_of o) ≡ o
  hop_same n d None e = refl
  hop_same n d (Some h) e = ap (option_map (hop h.port h.class)) (link_same n h.port ∙ (hop_nearer net law n d h e).along)

  escape_same : (n d : ℕ) → (stored_network a).escape n d ≡ net.escape n d
  escape_same n d = ap (hop_by (link_at a n)) (channel_same n d) ∙ hop_same n d (net.escape n d) refl

  rank_same : (n p e : ℕ) → (stored_network a).rank n p e ≡ net.rank n p e
  rank_same n p e =
      let none : (n < 64 → p < 6 → e < 2 → ⊥) → 0 ≡ net.rank n p e = λ out. sym (law.outside.no_rank n p e (λ b c d. out (node_small n b) (port_small p c) (class_small e d))) in
      cell_same a.ranks _ full.ranks_are n p (λ o. unwrap_or (option_and_then (at e) o) 0) _
      (λ classes ranks. at_same classes _ ranks e (λ o. unwrap_or o 0) _ (λ x same. same) (λ out. none (λ b c d. out d)))
      (λ out. none (λ b c d. out b c))

  pub stored_same : stored_network a ≡ net
  stored_same = λ i. record {
    nodes = sizes.nodes_is i;
    ports = sizes.ports_is i;
    classes = sizes.classes_is i;
    ceiling = sizes.ceiling_is i;
    link = fun_ext (λ n. fun_ext (link_same n)) i;
    distance = fun_ext (λ n. fun_ext (distance_same n)) i;
    escape = fun_ext (λ n. fun_ext (escape_same n)) i;
    rank = fun_ext (λ n. fun_ext (λ p. fun_ext (rank_same n p))) i;
  }

  pub stored_lawful : Lawful (stored_network a)
  stored_lawful = subst Lawful (sym stored_same) law
