-- The buffer that a packet joins, case by case. Assumes nothing.
use Rattle.std.proofs.Common.{◌≡◌, ℕ, ◌+◌, ◌*◌, Bool, true, false, cond, ◌&&◌, eqb, Some, None, Option, sym, refl, ap, ◌∙◌}
use Rattle.std.specs.Bool.{then_some}
use Rattle.std.proofs.lemmas.Bool.{cond-true, cond-false, eq-eqb, ne_eqb}
use Rattle.network.specs.declared.hop.Hop.{Hop}
use Rattle.network.specs.declared.routing.Routing.{Ghosts}
use Rattle.switch.specs.Places.{channel_buffer}
use Rattle.switch.specs.Cycle.{has_room, is_nearer, by_escape, next_buffer}
use Rattle.cycle.specs.declared.start.Start.{Start}
use Rattle.cycle.specs.Starts.{network_in, snapshot}
use Rattle.cycle.proofs.Fitting.{channel_buffer_is}

-- an option that a test makes
then_some_is : (t : Bool) (b : ℕ) → then_some t b ≡ cond t (Some b) None
then_some_is true b = refl
then_some_is false b = refl

module _ {R : Type 0} {routing : Ghosts R} (start : Start R routing) (n p d : ℕ) where
  -- by the escape channel, where its buffer b has room or not
  pub by_escape_hop : (h : Hop) (b : ℕ) → Some h ≡ (network_in start).escape n d → h.port ≡ p → b ≡ (n * start.plan.now.sizes.ports + p) * start.plan.now.sizes.channels + (h.class + 1)
      → (room : Bool) → room ≡ has_room (snapshot start) b → then_some room b ≡ by_escape (snapshot start) n p ((network_in start).escape n d)
  by_escape_hop h b e q is room r =
      let there : b ≡ channel_buffer (network_in start) n p (h.class + 1) = is ∙ channel_buffer_is (network_in start) start.plan.now.sizes start.plan.now.fits n p (h.class + 1) in
      then_some_is room b
      ∙ ap (λ (t : Bool). cond t (Some b) None) (r ∙ sym (ap (λ (t : Bool). t && has_room (snapshot start) b) (eq-eqb h.port p q)))
      ∙ ap (λ (x : ℕ). cond (eqb h.port p && has_room (snapshot start) x) (Some x) None) there
      ∙ ap (by_escape (snapshot start) n p) e

  -- by delivery
  pub next_delivery : p ≡ start.plan.now.sizes.ports → then_some (eqb d n) start.plan.now.sizes.buffers ≡ next_buffer (snapshot start) n p d
  unfolding next_buffer
  next_delivery e =
      let fits = start.plan.now.fits.measured in
      then_some_is (eqb d n) start.plan.now.sizes.buffers
      ∙ ap (λ (x : ℕ). cond (eqb d n) (Some x) None) fits.buffers_is
      ∙ sym (cond-true (eqb p (network_in start).ports) _ _ (eq-eqb p (network_in start).ports (e ∙ fits.ports_is)))

  -- by a link: through the adaptive channel's buffer b where the test holds, else by escape
  pub next_by_link : (b : ℕ) (t : Bool) (o : Option ℕ) → (p ≡ start.plan.now.sizes.ports → ⊥) → b ≡ (n * start.plan.now.sizes.ports + p) * start.plan.now.sizes.channels + 0
      → (is_nearer (network_in start) n d ((network_in start).link n p) && has_room (snapshot start) b) ≡ t
      → o ≡ cond t (Some b) (by_escape (snapshot start) n p ((network_in start).escape n d))
      → o ≡ next_buffer (snapshot start) n p d
  unfolding next_buffer
  next_by_link b t o ne is e f =
      let net = network_in start in
      let escape = by_escape (snapshot start) n p (net.escape n d) in
      let there : b ≡ channel_buffer net n p 0 = is ∙ channel_buffer_is net start.plan.now.sizes start.plan.now.fits n p 0 in
      f
      ∙ ap (λ (x : Bool). cond x (Some b) escape) (sym e)
      ∙ ap (λ (x : ℕ). cond (is_nearer net n d (net.link n p) && has_room (snapshot start) x) (Some x) escape) there
      ∙ sym (cond-false (eqb p net.ports) _ _ (ne_eqb p net.ports (λ z. ne (z ∙ sym start.plan.now.fits.measured.ports_is))))
