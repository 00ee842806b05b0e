-- What the laws give at any arguments. Assumes nothing.
use Rattle.std.proofs.Common.{◌≡◌, ℕ, ◌<◌, ◌≤◌, ◌≢◌, Some, None, Option, refl, subst, inl, inr, arith}
use Rattle.std.proofs.lemmas.Bool.{cases_lt, cases_eq}
use Rattle.network.specs.declared.hop.Hop.{Hop}
use Rattle.network.specs.Network.{Network}
use Rattle.network.specs.Laws.{Nearer, Leads, Lawful, Bounds, Follows, NodeBound, HopBound}
use Rattle.network.proofs.Options.{some_none}
use Rattle.network.proofs.Restricted.{escape_nearer}

module _ (net : Network) (law : Lawful net) where
  -- a link is there only from a node, by a port, and leads to a node
  pub link_asked : (n p m : ℕ) → net.link n p ≡ Some m → (n < net.nodes) × (p < net.ports) × (m < net.nodes)
  link_asked n p m e =
      elim (cases_lt n net.nodes) [
        | inr a ↦ absurd (some_none (net.link n p) m e (law.outside.no_link n p (λ x y. omega arith)))
        | inl a ↦ elim (cases_lt p net.ports) [
          | inr b ↦ absurd (some_none (net.link n p) m e (law.outside.no_link n p (λ x y. omega arith)))
          | inl b ↦ (a, b, law.links n p m a b e)
        ]
      ]

  -- a hop is named only between two nodes that differ
  pub escape_asked : (n d : ℕ) (h : Hop) → net.escape n d ≡ Some h → (n < net.nodes) × (d < net.nodes) × (n ≢ d)
  escape_asked n d h e =
      elim (cases_lt n net.nodes) [
        | inr a ↦ absurd (some_none (net.escape n d) h e (law.outside.no_escape n d (λ x y. omega arith)))
        | inl a ↦ elim (cases_lt d net.nodes) [
          | inr b ↦ absurd (some_none (net.escape n d) h e (law.outside.no_escape n d (λ x y. omega arith)))
          | inl b ↦ (a, b, λ c. some_none (net.escape n d) h e (law.outside.no_escape n d (λ x y. c)))
        ]
      ]

  pub hop_nearer : (n d : ℕ) (h : Hop) → net.escape n d ≡ Some h → Nearer net n d h
  hop_nearer n d h e = let s = escape_asked n d h e in escape_nearer net law.escapes n d h s.0 s.1 s.2 e

  pub hop_node : (n d : ℕ) (h : Hop) → net.escape n d ≡ Some h → h.next < net.nodes
  hop_node n d h e = (link_asked n h.port h.next (hop_nearer n d h e).along).2

  -- the ranks along the way rise
  pub hop_rises : (n d : ℕ) (h k : Hop) → net.escape n d ≡ Some h → net.escape h.next d ≡ Some k → net.rank n h.port h.class < net.rank h.next k.port k.class
  hop_rises n d h k e f =
      let s = escape_asked n d h e in
      law.rises n d h k s.0 s.1 s.2 e (escape_asked h.next d k f).2 f

  -- where no hop is named the distance is 0
  pub stop_zero : (n d : ℕ) → net.escape n d ≡ None → net.distance n d ≡ 0
  stop_zero n d e =
      elim (cases_lt n net.nodes) [
        | inr a ↦ law.outside.no_distance n d (λ x y. omega arith)
        | inl a ↦ elim (cases_lt d net.nodes) [
          | inr b ↦ law.outside.no_distance n d (λ x y. omega arith)
          | inl b ↦ elim (cases_eq n d) [
            | inl c ↦ subst (λ x. net.distance n x ≡ 0) c (law.distances.here n a)
            | inr c ↦ absurd (subst (Leads net n d) e (law.escapes n d a b c))
          ]
        ]
      ]

  nodes_few : net.nodes ≤ 64
  nodes_few = elim (cases_lt 0 net.nodes) [ inl a ↦ (law.sizes a).nodes_high | inr a ↦ omega arith ]

  ceiling_few : net.ceiling ≤ 128
  ceiling_few = elim (cases_lt 0 net.nodes) [ inl a ↦ omega (arith, (law.sizes a).ceiling_high, nodes_few) | inr a ↦ omega (arith, (law.empty (omega arith)).no_ceiling) ]

  distance_few : (n d : ℕ) → net.distance n d ≤ 64
  distance_few n d =
      elim (cases_lt n net.nodes) [
        | inr a ↦ omega (arith, law.outside.no_distance n d (λ x y. omega arith))
        | inl a ↦ elim (cases_lt d net.nodes) [
          | inr b ↦ omega (arith, law.outside.no_distance n d (λ x y. omega arith))
          | inl b ↦ omega (arith, law.distances.near n d a b, nodes_few)
        ]
      ]

  -- every rank is under the ceiling, also where it is 0
  pub rank_under : 0 < net.nodes → (n p e : ℕ) → net.rank n p e < net.ceiling
  rank_under some n p e =
      let low = (law.sizes some).ceiling_low in
      elim (cases_lt n net.nodes) [
        | inr a ↦ omega (arith, law.outside.no_rank n p e (λ x y z. omega arith))
        | inl a ↦ elim (cases_lt p net.ports) [
          | inr b ↦ omega (arith, law.outside.no_rank n p e (λ x y z. omega arith))
          | inl b ↦ elim (cases_lt e net.classes) [
            | inr c ↦ omega (arith, law.outside.no_rank n p e (λ x y z. omega arith))
            | inl c ↦ law.ceilings n p e a b c
          ]
        ]
      ]

  rank_few : (n p e : ℕ) → net.rank n p e ≤ 128
  rank_few n p e = elim (cases_lt 0 net.nodes) [
    | inl a ↦ omega (arith, rank_under a n p e, ceiling_few)
    | inr a ↦ omega (arith, law.outside.no_rank n p e (λ x y z. omega arith))
  ]

  link_few : (n p : ℕ) → (o : Option ℕ) → net.link n p ≡ o → NodeBound o
  link_few n p None e = tt
  link_few n p (Some m) e = omega (arith, (link_asked n p m e).2, nodes_few)

  hop_few : (n d : ℕ) → (o : Option Hop) → net.escape n d ≡ o → HopBound o
  hop_few n d None e = tt
  hop_few n d (Some h) e =
      let z = law.sizes (omega (arith, (escape_asked n d h e).0)) in
      let w = hop_nearer n d h e in
      (omega (arith, w.port_in, z.ports_high), omega (arith, w.class_in, z.classes_high), omega (arith, hop_node n d h e, z.nodes_high))

  pub bounds_of : Bounds net
  bounds_of = record {
    nodes_bound = nodes_few;
    ports_bound = elim (cases_lt 0 net.nodes) [ inl a ↦ (law.sizes a).ports_high | inr a ↦ omega (arith, (law.empty (omega arith)).no_ports) ];
    classes_bound = elim (cases_lt 0 net.nodes) [ inl a ↦ (law.sizes a).classes_high | inr a ↦ omega (arith, (law.empty (omega arith)).no_classes) ];
    ceiling_bound = ceiling_few;
    link_bound = λ n p. link_few n p (net.link n p) refl;
    distance_bound = distance_few;
    escape_bound = λ n d. hop_few n d (net.escape n d) refl;
    rank_bound = rank_few;
  }

  pub follows_of : Follows net
  follows_of = record { nearer = λ n d h e. (hop_nearer n d h e).less; arrives = hop_node; stops = stop_zero }
