-- The laws that a routing keeps, said of the network that it means. Assumes nothing.
use Rattle.std.specs.Prelude.{◌≡◌, ℕ, ◌+◌, ◌*◌, ◌<◌, ◌≤◌, ◌≢◌, Some, None, Option}
use Rattle.network.specs.declared.hop.Hop.{Hop}
use Rattle.network.specs.Network.{Network}

-- Law 1. The four numbers of a network that is of use.
pub record Sized (nodes ports classes ceiling : ℕ) : Type 0 where
  pub nodes_low : 2 ≤ nodes
  pub nodes_high : nodes ≤ 64
  pub ports_low : 1 ≤ ports
  pub ports_high : ports ≤ 6
  pub classes_low : 1 ≤ classes
  pub classes_high : classes ≤ 2
  pub ceiling_low : 1 ≤ ceiling
  pub ceiling_high : ceiling ≤ 2 * nodes

abbrev pub Sizes : Network → Type 0
Sizes net = Sized net.nodes net.ports net.classes net.ceiling

-- Law 2. A distance is under the number of nodes, and 0 exactly from a node to itself.
pub record Distances (net : Network) : Type 0 where
  pub near : (n d : ℕ) → n < net.nodes → d < net.nodes → net.distance n d < net.nodes
  pub here : (n : ℕ) → n < net.nodes → net.distance n n ≡ 0
  pub apart : (n d : ℕ) → n < net.nodes → d < net.nodes → net.distance n d ≡ 0 → n ≡ d

-- Law 3. The distance to any node falls by at most one over a link.
abbrev pub Steps : Network → Type 0
Steps net = (n p m d : ℕ) → n < net.nodes → p < net.ports → d < net.nodes → net.link n p ≡ Some m → net.distance n d ≤ net.distance m d + 1

-- The hop h takes a port and a class of the network, along a link from n, and leads one nearer to d.
pub record Nearer (net : Network) (n d : ℕ) (h : Hop) : Type 0 where
  pub port_in : h.port < net.ports
  pub class_in : h.class < net.classes
  pub along : net.link n h.port ≡ Some h.next
  pub less : net.distance h.next d + 1 ≡ net.distance n d

abbrev pub Leads : Network → ℕ → ℕ → Option Hop → Type 0
Leads net n d None = ⊥
Leads net n d (Some h) = Nearer net n d h

-- Law 4. Between two nodes that differ, escape names a hop that leads one nearer.
abbrev pub Escapes : Network → Type 0
Escapes net = (n d : ℕ) → n < net.nodes → d < net.nodes → n ≢ d → Leads net n d (net.escape n d)

-- Law 5, first part. Every rank is under the ceiling.
abbrev pub Ceilings : Network → Type 0
Ceilings net = (n p e : ℕ) → n < net.nodes → p < net.ports → e < net.classes → net.rank n p e < net.ceiling

-- Law 5, second part. The next escape channel on the way to the same destination has a higher rank.
abbrev pub Rises : Network → Type 0
Rises net = (n d : ℕ) (h k : Hop) → n < net.nodes → d < net.nodes → n ≢ d → net.escape n d ≡ Some h → h.next ≢ d → net.escape h.next d ≡ Some k → net.rank n h.port h.class < net.rank h.next k.port k.class

-- A link leads to a node.
abbrev pub Links : Network → Type 0
Links net = (n p m : ℕ) → n < net.nodes → p < net.ports → net.link n p ≡ Some m → m < net.nodes

-- The answers where an argument is out of range, from a node to itself, and where there is no link.
pub record Outside (net : Network) : Type 0 where
  pub no_link : (n p : ℕ) → (n < net.nodes → p < net.ports → ⊥) → net.link n p ≡ None
  pub no_distance : (n d : ℕ) → (n < net.nodes → d < net.nodes → ⊥) → net.distance n d ≡ 0
  pub no_escape : (n d : ℕ) → (n < net.nodes → d < net.nodes → n ≡ d) → net.escape n d ≡ None
  pub no_rank : (n p e : ℕ) → (n < net.nodes → p < net.ports → e < net.classes → ⊥) → net.rank n p e ≡ 0
  pub unlinked : (n p e : ℕ) → net.link n p ≡ None → net.rank n p e ≡ 0

-- With no nodes, the other three numbers are 0 too; that every answer is none or 0 then is said by Outside.
pub record Empty (net : Network) : Type 0 where
  pub no_ports : net.ports ≡ 0
  pub no_classes : net.classes ≡ 0
  pub no_ceiling : net.ceiling ≡ 0

-- All the laws. Each speaks of nodes, ports and classes of the network, so with no nodes only the last two say anything.
pub record Lawful (net : Network) : Type 0 where
  pub sizes : 0 < net.nodes → Sizes net
  pub distances : Distances net
  pub steps : Steps net
  pub escapes : Escapes net
  pub ceilings : Ceilings net
  pub rises : Rises net
  pub links : Links net
  pub outside : Outside net
  pub empty : net.nodes ≡ 0 → Empty net

-- A node, if any, is a small number,
abbrev pub NodeBound : Option ℕ → Type 0
NodeBound None = Unit {0}
NodeBound (Some m) = m < 64

-- and so are the parts of a hop.
abbrev pub HopBound : Option Hop → Type 0
HopBound None = Unit {0}
HopBound (Some h) = (h.port < 6) × (h.class < 2) × (h.next < 64)

-- What the laws give at any arguments: no answer is a large number.
pub record Bounds (net : Network) : Type 0 where
  pub nodes_bound : net.nodes ≤ 64
  pub ports_bound : net.ports ≤ 6
  pub classes_bound : net.classes ≤ 2
  pub ceiling_bound : net.ceiling ≤ 128
  pub link_bound : (n p : ℕ) → NodeBound (net.link n p)
  pub distance_bound : (n d : ℕ) → net.distance n d ≤ 64
  pub escape_bound : (n d : ℕ) → HopBound (net.escape n d)
  pub rank_bound : (n p e : ℕ) → net.rank n p e ≤ 128

-- What the laws give at any arguments of the hop that escape names.
pub record Follows (net : Network) : Type 0 where
  pub nearer : (n d : ℕ) (h : Hop) → net.escape n d ≡ Some h → net.distance h.next d + 1 ≡ net.distance n d
  pub arrives : (n d : ℕ) (h : Hop) → net.escape n d ≡ Some h → h.next < net.nodes
  pub stops : (n d : ℕ) → net.escape n d ≡ None → net.distance n d ≡ 0
