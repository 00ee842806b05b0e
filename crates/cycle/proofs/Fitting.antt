-- The sizes of a network: bounds, and the numbers of the channels' buffers. Assumes nothing.
use Rattle.std.proofs.Common.{◌≡◌, ℕ, ◌+◌, ◌*◌, ◌<◌, ◌≤◌, Some, sym, refl, mul-le-mul_left, arith}
use lib.Arith.{digits_lt}
use Rattle.network.specs.declared.hop.Hop.{Hop}
use Rattle.network.specs.Network.{Network}
use Rattle.network.specs.Laws.{Lawful, Bounds}
use Rattle.network.proofs.Consequences.{hop_nearer}
use Rattle.switch.specs.Places.{channel_count, buffer_count, channel_buffer}
use Rattle.cycle.specs.declared.sizes.Sizes.{Sizes}
use Rattle.cycle.specs.Measures.{Bounded, Fits}

-- the number of all buffers, as the code computes it
pub buffer_count_is : (net : Network) → net.nodes * net.ports * (net.classes + 1) + net.nodes ≡ buffer_count net
unfolding buffer_count channel_count
buffer_count_is net = refl

-- the number of a channel's buffer is that of a buffer
pub channel_buffer_within : (sizes : Sizes) → Bounded sizes → (n p c : ℕ) → n < sizes.nodes → p < sizes.ports → c < sizes.channels
    → (n * sizes.ports + p) * sizes.channels + c < sizes.buffers
channel_buffer_within sizes small n p c hn hp hc =
    let u = digits_lt (digits_lt hn hp) hc in
    let e = small.buffers_are in
    omega (arith, u, e)

module _ (net : Network) (sizes : Sizes) (fits : Fits net sizes) where
  -- each buffer has a slot, so there are few
  pub buffers_few : sizes.buffers ≤ 2048
  buffers_few =
      let m : sizes.buffers * 1 ≤ sizes.buffers * sizes.depth = mul-le-mul_left sizes.buffers fits.deep in
      omega (arith, m, fits.slots)

  pub bounded : Bounds net → Bounded sizes
  bounded bounds =
      let n = fits.measured.nodes_is in
      let p = fits.measured.ports_is in
      let c = fits.measured.channels_is in
      let b = fits.measured.buffers_is in
      let k = buffer_count_is net in
      record {
        nodes_few = omega (arith, n, bounds.nodes_bound);
        ports_few = omega (arith, p, bounds.ports_bound);
        channels_few = omega (arith, c, bounds.classes_bound);
        buffers_are = cc;
      }

  -- the number that the code computes is that of the channel's buffer
  pub channel_buffer_is : (n p c : ℕ) → (n * sizes.ports + p) * sizes.channels + c ≡ channel_buffer net n p c
  unfolding channel_buffer
  channel_buffer_is n p c =
      let e = fits.measured.ports_is in
      let f = fits.measured.channels_is in
      cc

  -- the channel of an escape class is one of a link's
  pub escape_channel : Lawful net → (n d : ℕ) (h : Hop) → Some h ≡ net.escape n d → h.class + 1 < sizes.channels
  escape_channel law n d h e = omega (arith, (hop_nearer net law n d h (sym e)).class_in, fits.measured.channels_is)
