-- The sizes of a network in memory. Assumes nothing.
use Rattle.std.specs.Prelude.{◌≡◌, ℕ, ◌+◌, ◌*◌, ◌≤◌}
use Rattle.network.specs.Network.{Network}
use Rattle.queue.specs.declared.queues.Queues.{Queues}
use Rattle.queue.specs.Contents.{all_contents}
use Rattle.switch.specs.Places.{buffer_count}
use Rattle.switch.specs.Buffers.{Buffers}
use Rattle.switch.specs.Cycle.{Snapshot, Visit}
use Rattle.cycle.specs.declared.sizes.Sizes.{Sizes}

-- The sizes are those of the network, for buffers of a depth.
pub record Measured (net : Network) (depth : ℕ) (sizes : Sizes) : Type 0 where
  pub nodes_is : sizes.nodes ≡ net.nodes
  pub ports_is : sizes.ports ≡ net.ports
  pub channels_is : sizes.channels ≡ net.classes + 1
  pub buffers_is : sizes.buffers ≡ buffer_count net
  pub depth_is : sizes.depth ≡ depth

-- The sizes are small and belong together.
pub record Bounded (sizes : Sizes) : Type 0 where
  pub nodes_few : sizes.nodes ≤ 64
  pub ports_few : sizes.ports ≤ 6
  pub channels_few : sizes.channels ≤ 3
  pub buffers_are : sizes.buffers ≡ sizes.nodes * sizes.ports * sizes.channels + sizes.nodes

-- The sizes are those of the network, and every buffer has its slots.
pub record Fits (net : Network) (sizes : Sizes) : Type 0 where
  pub measured : Measured net sizes.depth sizes
  pub deep : 1 ≤ sizes.depth
  pub shallow : sizes.depth ≤ 4
  pub slots : sizes.buffers * sizes.depth ≤ 2048

-- What the buffers hold.
abbrev pub buffers_in : Sizes → Queues → Buffers
buffers_in sizes queues = all_contents queues sizes.depth sizes.buffers

-- What the cycle of a number decides from.
abbrev pub start_of : Network → Sizes → ℕ → Queues → Snapshot
start_of net sizes now queues = record { network = net; depth = sizes.depth; cycle = now; buffers = buffers_in sizes queues }

abbrev pub visit_of : ℕ → ℕ → Visit
visit_of n p = record { node = n; port = p }
