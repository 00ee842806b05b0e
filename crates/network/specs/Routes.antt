-- Following escape from one node to another. Assumes nothing.
use Rattle.std.specs.Prelude.{◌≡◌, ℕ, ◌<◌, ◌≤◌, List, [], ◌∷◌, length, Some, None, Ok, Err, vec_items, Result, Vec}
use Rattle.std.specs.declared.alloc.Global.{Global}
use Rattle.network.specs.declared.hop.Hop.{Hop}
use Rattle.network.specs.declared.route_step.RouteStep.{RouteStep}
use Rattle.network.specs.declared.route_step.RouteError.{RouteError}
use Rattle.network.specs.declared.route_step.RouteError.TheVariants.{NoStart, NoEnd, OutOfMemory}
use Rattle.network.specs.Network.{Network}
use Rattle.network.specs.Walks.{Walk}

-- the step that the hop h makes from n
abbrev pub step_by : Network → ℕ → Hop → RouteStep
step_by net n h = record { node = n; port = h.port; class = h.class; rank = net.rank n h.port h.class; next = h.next }

-- The steps that follow escape for d, from a node until escape names no hop, and the node where they end.
pub data Following (net : Network) (d : ℕ) : ℕ → List RouteStep → ℕ → Type 0 where
  stops : {n : ℕ} → net.escape n d ≡ None → Following net d n [] n
  hops : {n m : ℕ} {ss : List RouteStep} (h : Hop) → net.escape n d ≡ Some h → Following net d h.next ss m → Following net d n (step_by net n h ∷ ss) m

-- the ranks of the steps rise strictly, from above r
abbrev pub Above : ℕ → List RouteStep → Type 0
Above r [] = Unit {0}
Above r (s ∷ ss) = (r < s.rank) × Above s.rank ss

abbrev pub Rising : List RouteStep → Type 0
Rising [] = Unit {0}
Rising (s ∷ ss) = Above s.rank ss

-- Following escape from n reaches d in exactly as many steps as the distance, with rising ranks, and no walk is shorter.
pub record Arrives (net : Network) (n d : ℕ) (ss : List RouteStep) : Type 0 where
  pub following : Following net d n ss d
  pub count : length ss ≡ net.distance n d
  pub rising : Rising ss
  pub walked : Walk net n d (length ss)
  pub shortest : (k : ℕ) → Walk net n d k → net.distance n d ≤ k

-- what tracing a route answers
abbrev pub Routed : Network → ℕ → ℕ → Result (Vec RouteStep Global) RouteError → Type 0
Routed net n d (Ok steps) = (n < net.nodes) × (d < net.nodes) × Arrives net n d (vec_items steps)
Routed net n d (Err NoStart) = net.nodes ≤ n
Routed net n d (Err NoEnd) = (n < net.nodes) × (net.nodes ≤ d)
Routed net n d (Err OutOfMemory) = (n < net.nodes) × (d < net.nodes)
