-- Walks over the links of a network. Assumes nothing.
use Rattle.std.specs.Prelude.{◌≡◌, ℕ, suc, Some}
use Rattle.network.specs.Network.{Network}

-- A walk from one node to another: over so many links, each starting at the node that the last one reached.
pub data Walk (net : Network) : ℕ → ℕ → ℕ → Type 0 where
  stay : {n : ℕ} → Walk net n n 0
  along : {n m d k : ℕ} (p : ℕ) → net.link n p ≡ Some m → Walk net m d k → Walk net n d (suc k)
