-- The tree of a height and a fat depth. Assumes nothing.
use Rattle.std.specs.Prelude.{ℕ, zero, suc, ◌+◌, ◌-◌, ◌*◌, ◌/◌, ◌%◌, ◌^◌, min, max, Bool, cond, not, ◌&&◌, ◌||◌, Some, None, ◌==◌, nat_le, nat_lt}
use Rattle.network.specs.Network.{Network, hop, usable_when}

-- of a node above 0
abbrev pub parent : ℕ → ℕ
parent n = (n - 1) / 2

-- the largest number up to t whose power of 2, less 1, is at most n
abbrev pub deepest : ℕ → ℕ → ℕ
deepest n zero = 0
deepest n (suc t) = cond (nat_le (2 ^ suc t - 1) n) (suc t) (deepest n t)

-- the largest such number; 5 is enough, since a node is under 63, which is 2 ^ 6 - 1
abbrev pub depth : ℕ → ℕ
depth n = deepest n 5

-- 0 from a node to itself; else the larger climbs one hop to its parent, and so on from there.
-- The sum of the two falls at each step, so no more steps than that are taken.
unfoldable pub climb : ℕ → ℕ → ℕ → ℕ
climb zero n d = 0
climb (suc steps) n d = cond (n == d) 0 (suc (climb steps (parent (max n d)) (min n d)))

unfoldable pub tree_distance : ℕ → ℕ → ℕ
tree_distance n d = climb (n + d) n d

-- whether d is top, or its parent is in the subtree of top. Nodes below top are larger, and d falls at each step.
unfoldable pub descends : ℕ → ℕ → ℕ → Bool
descends zero top d = top == d
descends (suc steps) top d = top == d || (nat_lt top d && descends steps top (parent d))

unfoldable pub in_subtree : ℕ → ℕ → Bool
in_subtree top d = descends d top d

-- whether d stands below n
abbrev pub ancestor : ℕ → ℕ → Bool
ancestor n d = not (n == d) && in_subtree n d

-- where port p of n leads: 0 and 1 to the parent, 2 and 3 to the one child, 4 and 5 to the other
abbrev pub far_end : ℕ → ℕ → ℕ
far_end n p = cond (nat_lt p 2) (parent n) (cond (nat_lt p 4) (2 * n + 1) (2 * n + 2))

-- whether a node is there, among so many
abbrev pub far_end_stands : ℕ → ℕ → ℕ → Bool
far_end_stands nodes n p = cond (nat_lt p 2) (nat_lt 0 n) (nat_lt (far_end n p) nodes)

-- the one of n and the far end that is the parent of the other
abbrev pub upper_end : ℕ → ℕ → ℕ
upper_end n p = cond (nat_lt p 2) (parent n) n

-- The odd ports are second links, there only where the upper end is less deep than `fat`. From an ancestor of d escape
-- goes down into the subtree that holds d, and from any other node up. Ranks fall with the depth on the way up, and rise with it on the way down.
abbrev pub tree_rule : ℕ → ℕ → ℕ → Network
tree_rule nodes height fat = record {
  nodes = nodes;
  ports = 6;
  classes = 1;
  ceiling = 2 * height;
  link = λ n p. cond (far_end_stands nodes n p && (p % 2 == 0 || nat_lt (depth (upper_end n p)) fat)) (Some (far_end n p)) None;
  distance = tree_distance;
  escape = λ n d. cond (ancestor n d) (cond (in_subtree (2 * n + 1) d) (Some (hop 2 0 (2 * n + 1))) (Some (hop 4 0 (2 * n + 2)))) (Some (hop 0 0 (parent n)));
  rank = λ n p e. cond (nat_lt p 2) (height - depth n) (height + depth n);
}

abbrev pub tree_sized : ℕ → ℕ → Bool
tree_sized height fat = nat_le 1 height && (nat_le height 5 && nat_le fat height)

abbrev pub tree : ℕ → ℕ → Network
tree height fat = usable_when (tree_sized height fat) (tree_rule (2 ^ (height + 1) - 1) height fat)
