-- The line of k nodes. Assumes nothing.
use Rattle.std.specs.Prelude.{ℕ, ◌+◌, ◌-◌, Bool, cond, ◌&&◌, Some, None, ◌==◌, nat_le, nat_lt}
use Rattle.network.specs.Network.{Network, hop, usable_when}

-- Port 0 leads up and port 1 down; the distance is the difference; escape goes straight to d, in the one class there is.
abbrev pub line_rule : ℕ → Network
line_rule k = record {
  nodes = k;
  ports = 2;
  classes = 1;
  ceiling = k;
  link = λ n p. cond (p == 0) (cond (nat_lt (n + 1) k) (Some (n + 1)) None) (cond (n == 0) None (Some (n - 1)));
  distance = λ n d. (n - d) + (d - n);
  escape = λ n d. cond (nat_lt n d) (Some (hop 0 0 (n + 1))) (Some (hop 1 0 (n - 1)));
  rank = λ n p e. cond (p == 0) n (k - 1 - n);
}

abbrev pub line_sized : ℕ → Bool
line_sized k = nat_le 2 k && nat_le k 64

abbrev pub line : ℕ → Network
line k = usable_when (line_sized k) (line_rule k)
