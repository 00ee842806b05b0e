-- The questions of a cycle, and what a performed one leaves. Assumes nothing.
use Rattle.std.proofs.Common.{◌≡◌, ℕ, ◌+◌, ◌*◌, ◌<◌, ◌≤◌, List, None, ap, ◌∙◌, arith}
use Rattle.std.proofs.lemmas.Bool.Decides.{nat_tests}
use Rattle.network.proofs.Consequences.{bounds_of}
use Rattle.table.specs.TableLaws.{table_lawful}
use Rattle.arbiter.specs.Rule.{Rule, Exists}
use Rattle.switch.specs.declared.grant.Grant.{Grant}
use Rattle.switch.specs.Calls.{Answer, Outcome, decisions, cycled_by}
use Rattle.switch.specs.Calls.Answer.{number}
use Rattle.switch.specs.Calls.Call.{cycle}
use Rattle.cycle.specs.declared.sizes.Sizes.{Sizes}
use Rattle.cycle.proofs.Decisions.{visits_few as every_visit_few}
use Rattle.fabric.specs.declared.body.Body.{Body}
use Rattle.fabric.specs.declared.fabric.Fabric.{Fabric}
use Rattle.fabric.specs.Bodies.{state_in, Reached}
use Rattle.fabric.specs.Fabrics.{network_in, depth_in, state_of, Answered}
use Rattle.fabric.proofs.Calling.{asked, performs, performed_state, answered_number, kept}
use Rattle.fabric.proofs.OneCycle.{Turned}

module _ {R A : Type 0} (f : Fabric R A) where
  -- The visits of a cycle, by the sizes.
  pub visits_are : f.body.sizes.nodes * (f.body.sizes.ports + 1) ≡ (network_in f).nodes * ((network_in f).ports + 1)
  visits_are = let n = f.fits.measured.nodes_is in let p = f.fits.measured.ports_is in cc

  pub ports_few : f.body.sizes.ports ≤ 6
  ports_few = let p = f.fits.measured.ports_is in let b = (bounds_of (network_in f) (table_lawful f.table)).ports_bound in omega arith

  pub visits_few : f.body.sizes.nodes * (f.body.sizes.ports + 1) ≤ 448
  visits_few = every_visit_few (network_in f) (bounds_of (network_in f) (table_lawful f.table)) f.body.sizes f.fits

  -- No question of a cycle fails where the trace has room and the cycles are few.
  module _ (room : ℕ) where
    pub may_cycle : f.body.sizes.nodes * (f.body.sizes.ports + 1) ≤ room → f.body.cycles < 1000000 → asked f (cycle room) ≡ None
    may_cycle long few = let e = visits_are in grind (arith, nat_tests)

    pub cycle_room : asked f (cycle room) ≡ None → f.body.sizes.nodes * (f.body.sizes.ports + 1) ≤ room
    cycle_room none = let e = visits_are in grind (arith, nat_tests)

-- What a performed cycle leaves.
module _ {R A : Type 0} (f : Fabric R A) (rule : Rule A) (room : ℕ) (may : asked f (cycle room) ≡ None) where
  module _ (b : A) (new : Body) (before after : List Grant) (count : ℕ) (turned : Turned (network_in f) rule f.arbiter b f.body new before after count) where
    -- It keeps the invariant, and is what the call answers.
    pub turned_reached : Exists rule → ∥ Reached (network_in f) b new ∥₁
    turned_reached exists = kept f rule (cycle room) exists b new turned.sizes_is (performed_state f rule (cycle room) may _ turned.state_is)

    pub turned_answer : (now : Fabric R A) → state_of now ≡ state_in b new → now.routing ≡ f.routing → network_in now ≡ network_in f → depth_in now ≡ new.sizes.depth
        → Answered rule (cycle room) f now (number count)
    turned_answer now state routing net depth =
        answered_number f rule (cycle room) may now count (ap number turned.traced.count_is) (state ∙ turned.state_is) routing net (depth ∙ ap (λ (x : Sizes). x.depth) turned.sizes_is)

  -- The state after a cycle that was answered.
  pub cycled_state : (now : Fabric R A) (x : Answer) → Answered rule (cycle room) f now x
      → state_of now ≡ cycled_by (network_in f) (decisions (network_in f) rule (depth_in f) (state_of f)) (state_of f)
  cycled_state now x a = a.state_is ∙ ap (λ (o : Outcome A). o.state) (performs f rule (cycle room) may)
