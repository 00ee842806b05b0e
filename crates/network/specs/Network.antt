-- What a routing means: a network. Assumes nothing.
use Rattle.std.specs.Prelude.{ℕ, Bool, cond, not, ◌&&◌, is_some, None, Option, ◌==◌, nat_lt}
use Rattle.network.specs.declared.hop.Hop.{Hop}

pub record Network : Type 0 where
  pub nodes : ℕ
  pub ports : ℕ
  pub classes : ℕ
  pub ceiling : ℕ
  -- from a node, by a port: the node at the far end
  pub link : ℕ → ℕ → Option ℕ
  -- from a node to a node: a number of hops
  pub distance : ℕ → ℕ → ℕ
  -- from a node to another: the escape channel that is taken
  pub escape : ℕ → ℕ → Option Hop
  -- of a node, a port and an escape class
  pub rank : ℕ → ℕ → ℕ → ℕ

abbrev pub hop : ℕ → ℕ → ℕ → Hop
hop p e m = record { port = p; class = e; next = m }

-- of no use: no nodes, and none or 0 for an answer
abbrev pub unusable : Network
unusable = record {
  nodes = 0;
  ports = 0;
  classes = 0;
  ceiling = 0;
  link = λ n p. None;
  distance = λ n d. 0;
  escape = λ n d. None;
  rank = λ n p e. 0;
}

-- The network that answers by a rule where the arguments are in range, and none or 0 where they are not.
-- There is no escape from a node to itself, and the rank is 0 where there is no link.
abbrev pub restrict : Network → Network
restrict rule = record {
  nodes = rule.nodes;
  ports = rule.ports;
  classes = rule.classes;
  ceiling = rule.ceiling;
  link = λ n p. cond (nat_lt n rule.nodes && nat_lt p rule.ports) (rule.link n p) None;
  distance = λ n d. cond (nat_lt n rule.nodes && nat_lt d rule.nodes) (rule.distance n d) 0;
  escape = λ n d. cond (nat_lt n rule.nodes && (nat_lt d rule.nodes && not (n == d))) (rule.escape n d) None;
  rank = λ n p e. cond (nat_lt n rule.nodes && (nat_lt p rule.ports && (nat_lt e rule.classes && is_some (rule.link n p)))) (rule.rank n p e) 0;
}

-- A kind of routing: its rule where its sizes are good, and of no use otherwise.
abbrev pub usable_when : Bool → Network → Network
usable_when good rule = cond good (restrict rule) unusable
