-- The buffers that stand at each node, chained in rising order. Assumes nothing.
use Rattle.std.specs.Prelude.{◌≡◌, ℕ, suc, ◌<◌, ◌≤◌, ◌≢◌, replicate, Some, None, Option, slice_index_or}
use Rattle.std.specs.Option.{ForSome, ForNone}
use Rattle.network.specs.Network.{Network}
use Rattle.switch.specs.Places.{buffer_count, location}
use Rattle.cycle.specs.declared.standing.Standing.{Standing}

-- None of the buffers from one on, and before another, stands at n.
abbrev pub NoneStands : Network → ℕ → ℕ → ℕ → Type 0
NoneStands net n from to = (i : ℕ) → from ≤ i → i < to → location net i ≢ Some n

-- Among the buffers from one on, b is the first that stands at n.
pub record IsFirst (net : Network) (n from b : ℕ) : Type 0 where
  pub after : from ≤ b
  pub within : b < buffer_count net
  pub between : NoneStands net n from b
  pub here : location net b ≡ Some n

-- Among the buffers from one on, the first that stands at n, if one does.
pub record FirstFrom (net : Network) (n from : ℕ) (first : Option ℕ) : Type 0 where
  pub some : ForSome first (λ b. IsFirst net n from b)
  pub none : ForNone first (NoneStands net n from (buffer_count net))

-- The first buffer at a node, and the next one after a buffer.
abbrev pub first_at : Standing → ℕ → Option ℕ
first_at standing n = slice_index_or standing.first n None

abbrev pub next_after : Standing → ℕ → Option ℕ
next_after standing b = slice_index_or standing.next b None

-- The chains of no buffer.
abbrev pub no_chains : Standing
no_chains = record { first = replicate 64 None; next = replicate 2048 None }

-- The chains of the buffers from b on.
pub record ChainedFrom (net : Network) (standing : Standing) (b : ℕ) : Type 0 where
  pub heads : (n : ℕ) → n < net.nodes → FirstFrom net n b (first_at standing n)
  pub links : (i n : ℕ) → b ≤ i → i < buffer_count net → location net i ≡ Some n → FirstFrom net n (suc i) (next_after standing i)

-- The chains of all buffers.
abbrev pub Stands : Network → Standing → Type 0
Stands net standing = ChainedFrom net standing 0
