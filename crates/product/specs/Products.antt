-- The product of two networks. Assumes nothing.
use Rattle.std.specs.Prelude.{ℕ, ◌+◌, ◌-◌, ◌*◌, ◌/◌, ◌%◌, max, Bool, cond, ◌&&◌, ◌==◌, nat_le, nat_lt}
use Rattle.std.specs.Option.{option_map}
use Rattle.network.specs.declared.hop.Hop.{Hop}
use Rattle.network.specs.Network.{Network, hop, usable_when}

-- where node n stands in each part, and the node that stands at a and b
abbrev pub column : Network → ℕ → ℕ
column one n = n % one.nodes

abbrev pub row : Network → ℕ → ℕ
row one n = n / one.nodes

abbrev pub node_at : Network → ℕ → ℕ → ℕ
node_at one a b = a + one.nodes * b

-- a hop of the first part, along the row of n, and one of the second, along its column
abbrev pub hop_first : Network → ℕ → Hop → Hop
hop_first one n h = hop h.port h.class (node_at one h.next (row one n))

abbrev pub hop_second : Network → ℕ → Hop → Hop
hop_second one n h = hop (one.ports + h.port) h.class (node_at one (column one n) h.next)

-- The first part's ports come first and change the column; the second's change the row. Distances add up. Escape is the
-- first part's until the column is the destination's, then the second's, whose ranks stand above.
abbrev pub product_rule : Network → Network → Network
product_rule one two = record {
  nodes = one.nodes * two.nodes;
  ports = one.ports + two.ports;
  classes = max one.classes two.classes;
  ceiling = one.ceiling + two.ceiling;
  link = λ n p. cond (nat_lt p one.ports)
      (option_map (λ a. node_at one a (row one n)) (one.link (column one n) p))
      (option_map (λ b. node_at one (column one n) b) (two.link (row one n) (p - one.ports)));
  distance = λ n d. one.distance (column one n) (column one d) + two.distance (row one n) (row one d);
  escape = λ n d. cond (column one n == column one d)
      (option_map (hop_second one n) (two.escape (row one n) (row one d)))
      (option_map (hop_first one n) (one.escape (column one n) (column one d)));
  rank = λ n p e. cond (nat_lt p one.ports)
      (one.rank (column one n) p e)
      (one.ceiling + two.rank (row one n) (p - one.ports) e);
}

-- both parts are usable, and the whole has at most 64 nodes and 6 ports
abbrev pub product_sized : Network → Network → Bool
product_sized one two = nat_lt 0 one.nodes && (nat_lt 0 two.nodes && (nat_le (one.nodes * two.nodes) 64 && nat_le (one.ports + two.ports) 6))

abbrev pub product : Network → Network → Network
product one two = usable_when (product_sized one two) (product_rule one two)
