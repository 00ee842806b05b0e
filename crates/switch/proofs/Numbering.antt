-- The numbering of buffers, forth and back, and where each stands. Assumes nothing.
use Rattle.std.proofs.Common.{◌≡◌, ℕ, ◌+◌, ◌-◌, ◌*◌, ◌/◌, ◌%◌, ◌<◌, ◌≤◌, ltb, Some, ap, ◌∙◌, arith}
use lib.Arith.{digits_div, digits_mod, digits_lt}
use Rattle.std.proofs.lemmas.Bool.{lt-ltb, le-ltb, cond-true, cond-false}
use Rattle.network.specs.Network.{Network}
use Rattle.switch.specs.Places.{channel_count, buffer_count, channel_buffer, upstream, port_of, channel_of, location}

module _ (net : Network) where
  pub buffer_upstream : (n p c : ℕ) → p < net.ports → c < net.classes + 1 → upstream net (channel_buffer net n p c) ≡ n
  unfolding upstream channel_buffer
  buffer_upstream n p c hp hc = ap (λ (x : ℕ). x / net.ports) (digits_div (n * net.ports + p) hc) ∙ digits_div n hp

  pub buffer_port : (n p c : ℕ) → p < net.ports → c < net.classes + 1 → port_of net (channel_buffer net n p c) ≡ p
  unfolding port_of channel_buffer
  buffer_port n p c hp hc = ap (λ (x : ℕ). x % net.ports) (digits_div (n * net.ports + p) hc) ∙ digits_mod n hp

  pub buffer_channel : (n p c : ℕ) → c < net.classes + 1 → channel_of net (channel_buffer net n p c) ≡ c
  unfolding channel_of channel_buffer
  buffer_channel n p c hc = digits_mod (n * net.ports + p) hc

  pub buffer_under : (n p c : ℕ) → n < net.nodes → p < net.ports → c < net.classes + 1 → channel_buffer net n p c < channel_count net
  unfolding channel_count channel_buffer
  buffer_under n p c hn hp hc = digits_lt (digits_lt hn hp) hc

  pub channels_le : channel_count net ≤ buffer_count net
  unfolding buffer_count
  channels_le = omega arith

  pub location_channel : (b : ℕ) → b < channel_count net → location net b ≡ net.link (upstream net b) (port_of net b)
  unfolding location
  location_channel b h = cond-true (ltb b (channel_count net)) _ _ (lt-ltb b (channel_count net) h)

  pub location_buffer : (n p c : ℕ) → n < net.nodes → p < net.ports → c < net.classes + 1 → location net (channel_buffer net n p c) ≡ net.link n p
  location_buffer n p c hn hp hc =
      let e : upstream net (channel_buffer net n p c) ≡ n = buffer_upstream n p c hp hc in
      let f : port_of net (channel_buffer net n p c) ≡ p = buffer_port n p c hp hc in
      let g = location_channel (channel_buffer net n p c) (buffer_under n p c hn hp hc) in
      cc

  pub location_injection : (n : ℕ) → n < net.nodes → location net (channel_count net + n) ≡ Some n
  unfolding location buffer_count
  location_injection n h =
      cond-false (ltb (channel_count net + n) (channel_count net)) _ _ (le-ltb (channel_count net + n) (channel_count net) (omega arith))
      ∙ cond-true (ltb (channel_count net + n) (channel_count net + net.nodes)) _ _ (lt-ltb (channel_count net + n) (channel_count net + net.nodes) (omega arith))
      ∙ ap (λ (x : ℕ). Some x) (let e : channel_count net + n - channel_count net ≡ n = omega arith in e)
