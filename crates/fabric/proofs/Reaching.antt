-- That the calls keep the invariant of a fabric. Assumes nothing.
use Rattle.std.proofs.Common.{◌≡◌, ℕ, ◌*◌, ◌≤◌, ◌++◌, sym, subst, subst₂}
use mathlib.Core.Logic.{∥∥₁_map}
use Rattle.network.specs.Network.{Network}
use Rattle.network.specs.Laws.{Lawful}
use Rattle.arbiter.specs.Rule.{Rule, Exists}
use Rattle.switch.specs.Places.{buffer_count}
use Rattle.switch.specs.Calls.{SwitchState, Call, standard_limits, perform}
use Rattle.switch.specs.Invariant.{Invariant}
use Rattle.switch.proofs.Keeping.{perform_keeps}
use Rattle.switch.proofs.LawHolds.{buffers_few}
use Rattle.cycle.specs.declared.sizes.Sizes.{Sizes}
use Rattle.cycle.specs.Measures.{Fits}
use Rattle.fabric.specs.declared.body.Body.{Body}
use Rattle.fabric.specs.Bodies.{state_in, Reached}

-- There are as many buffers as the sizes say, and not too many.
pub slots_fit : (net : Network) (sizes : Sizes) → Fits net sizes → buffer_count net * sizes.depth ≤ 2048
slots_fit net sizes fits = subst (λ (t : ℕ). t * sizes.depth ≤ 2048) fits.measured.buffers_is fits.slots

pub count_fits : (net : Network) (sizes : Sizes) → Fits net sizes → buffer_count net ≤ 2048
count_fits net sizes fits = buffers_few net sizes.depth fits.deep (slots_fit net sizes fits)

-- A body whose state is what a call performs is reached again.
module _ {Arb : Type 0} (net : Network) (law : Lawful net) (rule : Rule Arb) (exists : Exists rule) (c : Call) (a b : Arb) (old new : Body) (fits : Fits net old.sizes) where
  pub reached_after : new.sizes ≡ old.sizes → state_in b new ≡ (perform standard_limits net rule old.sizes.depth c (state_in a old)).state → ∥ Reached net a old ∥₁ → ∥ Reached net b new ∥₁
  reached_after same e reached =
      ∥∥₁_map reached
      (λ r. record {
        history = r.history ++ (perform standard_limits net rule old.sizes.depth c (state_in a old)).events;
        invariant =
            subst₂ (λ (x : Sizes) (s : SwitchState Arb). Invariant net x.depth (r.history ++ (perform standard_limits net rule old.sizes.depth c (state_in a old)).events) s)
            (sym same) (sym e)
            (perform_keeps net law rule exists old.sizes.depth fits.deep (count_fits net old.sizes fits) standard_limits c r.history (state_in a old) r.invariant);
      })
