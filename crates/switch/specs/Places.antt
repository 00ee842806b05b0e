-- The numbering of the buffers of a network, and the node where each stands. Assumes nothing.
use Rattle.std.specs.Prelude.{ℕ, ◌+◌, ◌-◌, ◌*◌, ◌/◌, ◌%◌, cond, Some, None, Option, nat_lt}
use Rattle.network.specs.Network.{Network}

-- The buffers of the channels: for each port of each node one for channel 0, which is adaptive, and one for channel
-- e + 1 of each escape class e.
unfoldable pub channel_count : Network → ℕ
channel_count net = net.nodes * net.ports * (net.classes + 1)

-- All buffers: those of the channels, and then an injection buffer for each node.
unfoldable pub buffer_count : Network → ℕ
buffer_count net = channel_count net + net.nodes

-- The buffer that receives from channel c of the link that leaves node n by port p.
unfoldable pub channel_buffer : Network → ℕ → ℕ → ℕ → ℕ
channel_buffer net n p c = (n * net.ports + p) * (net.classes + 1) + c

abbrev pub injection_buffer : Network → ℕ → ℕ
injection_buffer net n = channel_count net + n

-- The node, the port and the channel that the buffer of a channel receives from.
unfoldable pub upstream : Network → ℕ → ℕ
upstream net b = b / (net.classes + 1) / net.ports

unfoldable pub port_of : Network → ℕ → ℕ
port_of net b = b / (net.classes + 1) % net.ports

unfoldable pub channel_of : Network → ℕ → ℕ
channel_of net b = b % (net.classes + 1)

-- The node where a buffer stands: that of a channel at the far end of its link, if there is one, and an injection buffer
-- at its own node.
unfoldable pub location : Network → ℕ → Option ℕ
location net b =
    cond (nat_lt b (channel_count net))
    (net.link (upstream net b) (port_of net b))
    (cond (nat_lt b (buffer_count net)) (Some (b - channel_count net)) None)
