-- The ring of k nodes. Assumes nothing.
use Rattle.std.specs.Prelude.{ℕ, ◌+◌, ◌-◌, ◌*◌, ◌%◌, min, Bool, cond, ◌&&◌, Some, ◌==◌, nat_le, nat_lt}
use Rattle.network.specs.Network.{Network, hop, usable_when}

-- the hops upward from n to d, and the hops downward
abbrev pub ring_up : ℕ → ℕ → ℕ → ℕ
ring_up k n d = (d + k - n) % k

abbrev pub ring_down : ℕ → ℕ → ℕ → ℕ
ring_down k n d = (n + k - d) % k

-- Port 0 leads up and port 1 down; escape goes the shorter way, up where both are equal. Its class is 0 while the way
-- still crosses between the last node and node 0, else 1.
abbrev pub ring_rule : ℕ → Network
ring_rule k = record {
  nodes = k;
  ports = 2;
  classes = 2;
  ceiling = 2 * k;
  link = λ n p. cond (p == 0) (Some ((n + 1) % k)) (Some ((n + k - 1) % k));
  distance = λ n d. min (ring_up k n d) (ring_down k n d);
  escape = λ n d. cond (nat_le (ring_up k n d) (ring_down k n d))
      (Some (hop 0 (cond (nat_lt d n) 0 1) ((n + 1) % k)))
      (Some (hop 1 (cond (nat_lt n d) 0 1) ((n + k - 1) % k)));
  rank = λ n p e. cond (p == 0) (e * k + n) (e * k + k - 1 - n);
}

abbrev pub ring_sized : ℕ → Bool
ring_sized k = nat_le 3 k && nat_le k 64

abbrev pub ring : ℕ → Network
ring k = usable_when (ring_sized k) (ring_rule k)
