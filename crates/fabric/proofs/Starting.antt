-- A fabric that was just made. Assumes nothing.
use Rattle.std.proofs.Common.{◌≡◌, ℕ, ◌+◌, ◌*◌, ◌≤◌, List, [], replicate, None, Ok, Option, sym, refl, ap, ◌∙◌, subst, subst₂, mul-le-mul, arith}
use Rattle.queue.specs.declared.packet.Packet.{Packet}
use Rattle.network.specs.Network.{Network}
use Rattle.network.specs.Laws.{Bounds}
use Rattle.switch.specs.Places.{channel_count, buffer_count}
use Rattle.switch.specs.Calls.{SwitchState, empty_switch, first_refusal, make_questions, unless, make}
use Rattle.switch.specs.Invariant.{Invariant}
use Rattle.switch.proofs.Keeping.{invariant_empty}
use Rattle.switch.proofs.LawHolds.{made_sizes}
use Rattle.cycle.specs.declared.sizes.Sizes.{Sizes}
use Rattle.cycle.specs.Measures.{Measured, Fits, buffers_in}
use Rattle.fabric.specs.declared.body.Body.{Body}
use Rattle.fabric.specs.Bodies.{state_in, Reached, NewBody}

-- There are few buffers, whatever the depth.
pub buffers_small : (net : Network) → Bounds net → (sizes : Sizes) (depth : ℕ) → Measured net depth sizes → sizes.buffers ≤ 1216
unfolding buffer_count channel_count
buffers_small net b sizes depth m =
    let links : net.nodes * net.ports ≤ 384 = mul-le-mul b.nodes_bound b.ports_bound in
    let channels : net.classes + 1 ≤ 3 = let k = b.classes_bound in omega arith in
    let all : net.nodes * net.ports * (net.classes + 1) ≤ 1152 = mul-le-mul links channels in
    omega (arith, b.nodes_bound, m.buffers_is)

module _ (net : Network) (depth : ℕ) (sizes : Sizes) (measured : Measured net depth sizes) (asked : first_refusal (make_questions net depth) ≡ None) where
  pub made_fits : Fits net sizes
  made_fits =
      let z = made_sizes net depth asked in
      let d = measured.depth_is in
      record {
        measured = record { nodes_is = measured.nodes_is; ports_is = measured.ports_is; channels_is = measured.channels_is; buffers_is = measured.buffers_is; depth_is = refl };
        deep = let k = z.0 in omega arith;
        shallow = let k = z.1 in omega arith;
        slots = subst₂ (λ (t k : ℕ). t * k ≤ 2048) (sym measured.buffers_is) (sym d) z.2;
      }

  module _ {Arb : Type 0} (a : Arb) (body : Body) (new : NewBody sizes body) where
    -- The state is the empty switch,
    empty_state : state_in a body ≡ empty_switch net a
    empty_state = λ i. record {
      buffers =
          (ap (λ (x : Sizes). buffers_in x body.queues) new.sizes_is
          ∙ new.empty.all sizes.depth sizes.buffers
          ∙ ap (λ (t : ℕ). replicate {A = List Packet} t []) measured.buffers_is) i;
      taken = new.taken_is i;
      delivered = new.delivered_is i;
      hops = new.hops_is i;
      cycles = new.cycles_is i;
      feed = new.feed_is i;
      arbiter = a;
    }

    pub made_state : make net depth a ≡ Ok (state_in a body)
    made_state = ap (λ (o : Option ℕ). unless o (empty_switch net a)) asked ∙ ap (λ (s : SwitchState Arb). Ok s) (sym empty_state)

    pub made_depth : body.sizes.depth ≡ depth
    made_depth = ap (λ (x : Sizes). x.depth) new.sizes_is ∙ measured.depth_is

    -- which no call has changed.
    pub made_reached : (table : Network) → table ≡ net → ∥ Reached table a body ∥₁
    made_reached table e =
        ∣ record {
          history = [];
          invariant =
              subst (λ (n : Network). Invariant n body.sizes.depth [] (state_in a body)) (sym e)
              (subst (λ (s : SwitchState Arb). Invariant net body.sizes.depth [] s) (sym empty_state) (invariant_empty net body.sizes.depth a));
        } ∣₁
