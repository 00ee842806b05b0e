-- Where a buffer stands, from the sizes of the network. Assumes nothing.
use Rattle.std.proofs.Common.{◌≡◌, ℕ, ◌+◌, ◌-◌, ◌*◌, ◌/◌, ◌%◌, ◌<◌, ◌≤◌, ltb, Some, sym, ap, ◌∙◌, ⊎_elim, mul-zero, zero-mul, arith}
use Rattle.std.proofs.lemmas.Bool.{cases_lt, lt-ltb, le-ltb, cond-true, cond-false}
use Rattle.network.specs.Network.{Network}
use Rattle.network.specs.Laws.{Lawful}
use Rattle.network.proofs.Consequences.{link_asked, bounds_of}
use Rattle.switch.specs.Places.{channel_count, buffer_count, upstream, port_of, location}
use Rattle.switch.proofs.Numbering.{location_channel}
use Rattle.cycle.specs.declared.sizes.Sizes.{Sizes}
use Rattle.cycle.specs.Measures.{Fits}

no_channels : (net : Network) → net.ports ≡ 0 → channel_count net ≡ 0
unfolding channel_count
no_channels net e =
    ap (λ x. net.nodes * x * (net.classes + 1)) e ∙ ap (λ x. x * (net.classes + 1)) (mul-zero net.nodes) ∙ zero-mul (net.classes + 1)

module _ (net : Network) (sizes : Sizes) (fits : Fits net sizes) where
  -- the buffers of the channels, and those of the nodes
  pub nodes_within : sizes.nodes ≤ sizes.buffers
  unfolding buffer_count
  nodes_within = let b = fits.measured.buffers_is in let n = fits.measured.nodes_is in omega arith

  channels_are : sizes.buffers - sizes.nodes ≡ channel_count net
  unfolding buffer_count
  channels_are = let b = fits.measured.buffers_is in let n = fits.measured.nodes_is in omega arith

  module _ (b : ℕ) where
    -- where there is a channel there is a port
    pub some_port : b < sizes.buffers - sizes.nodes → 0 < sizes.ports
    some_port h =
        ⊎_elim
        (λ (some : 0 < sizes.ports). some)
        (λ (none : sizes.ports ≤ 0).
        let p = fits.measured.ports_is in
        let z : net.ports ≡ 0 = omega arith in
        omega (arith, channels_are, no_channels net z))
        (cases_lt 0 sizes.ports)

    pub at_far_end : b < sizes.buffers - sizes.nodes → net.link (b / sizes.channels / sizes.ports) (b / sizes.channels % sizes.ports) ≡ location net b
    unfolding upstream port_of
    at_far_end h =
        let c = fits.measured.channels_is in
        let p = fits.measured.ports_is in
        let k = location_channel net b (omega (arith, channels_are)) in
        cc

    pub at_own_node : sizes.buffers - sizes.nodes ≤ b → b < sizes.buffers → Some (b - (sizes.buffers - sizes.nodes)) ≡ location net b
    unfolding location
    at_own_node h l =
        ap (λ (x : ℕ). Some (b - x)) channels_are
        ∙ sym (cond-false (ltb b (channel_count net)) _ _ (le-ltb b (channel_count net) (omega (arith, channels_are)))
        ∙ cond-true (ltb b (buffer_count net)) _ _ (lt-ltb b (buffer_count net) (omega (arith, fits.measured.buffers_is))))

    -- a buffer stands at a node
    pub at_node : Lawful net → (n : ℕ) → Some n ≡ location net b → b < sizes.buffers → n < net.nodes
    at_node law n e h =
        ⊎_elim
        (λ (l : b < sizes.buffers - sizes.nodes). (link_asked net law _ _ n (at_far_end l ∙ sym e)).2)
        (λ (l : sizes.buffers - sizes.nodes ≤ b).
        let f = at_own_node l h in
        let k : b - (sizes.buffers - sizes.nodes) ≡ n = cc in
        omega (arith, nodes_within, fits.measured.nodes_is))
        (cases_lt b (sizes.buffers - sizes.nodes))

    -- whose number is small
    pub at_small_node : Lawful net → (n : ℕ) → Some n ≡ location net b → b < sizes.buffers → n < 64
    at_small_node law n e h = omega (arith, at_node law n e h, (bounds_of net law).nodes_bound)
