-- How the answers of a network are stored, and the network that stored answers mean. Assumes nothing.
use Rattle.std.specs.Prelude.{◌≡◌, ℕ, Some, None, Option}
use Rattle.std.specs.Option.{option_map, option_and_then, option_flatten, unwrap_or}
use Rattle.network.specs.declared.hop.Hop.{Hop}
use Rattle.network.specs.Network.{Network, hop}
use Rattle.table.specs.declared.answers.Answers.{Answers}
use Rattle.table.specs.declared.answers.Channel.{Channel}
use Rattle.table.specs.Rows.{Filled, at, cell}

-- the channel that a hop takes
abbrev pub channel_of : Hop → Channel
channel_of h = record { port = h.port; class = h.class }

-- The stored sizes are those of the network,
pub record StoresSizes (net : Network) (a : Answers) : Type 0 where
  pub nodes_is : a.nodes ≡ net.nodes
  pub ports_is : a.ports ≡ net.ports
  pub classes_is : a.classes ≡ net.classes
  pub ceiling_is : a.ceiling ≡ net.ceiling

-- and so are the answers in the arrays.
pub record StoresArrays (net : Network) (a : Answers) : Type 0 where
  pub links_are : Filled a.links (λ n row. Filled row (λ p x. x ≡ net.link n p))
  pub distances_are : Filled a.distances (λ n row. Filled row (λ d x. x ≡ net.distance n d))
  pub escapes_are : Filled a.escapes (λ n row. Filled row (λ d x. x ≡ option_map channel_of (net.escape n d)))
  pub ranks_are : Filled a.ranks (λ n row. Filled row (λ p classes. Filled classes (λ e x. x ≡ net.rank n p e)))

abbrev pub link_at : Answers → ℕ → ℕ → Option ℕ
link_at a n p = option_flatten (cell a.links n p)

abbrev pub channel_at : Answers → ℕ → ℕ → Option Channel
channel_at a n d = option_flatten (cell a.escapes n d)

-- The hop by a channel goes along the link of its port, among the links of a node.
abbrev pub hop_by : (ℕ → Option ℕ) → Option Channel → Option Hop
hop_by links None = None
hop_by links (Some c) = option_map (hop c.port c.class) (links c.port)

-- The network that answers from the arrays, and none or 0 out of their range.
abbrev pub stored_network : Answers → Network
stored_network a = record {
  nodes = a.nodes;
  ports = a.ports;
  classes = a.classes;
  ceiling = a.ceiling;
  link = link_at a;
  distance = λ n d. unwrap_or (cell a.distances n d) 0;
  escape = λ n d. hop_by (link_at a n) (channel_at a n d);
  rank = λ n p e. unwrap_or (option_and_then (at e) (cell a.ranks n p)) 0;
}
