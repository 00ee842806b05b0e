-- One more cycle of a drain, and its end. Assumes nothing.
use Rattle.std.proofs.Common.{◌≡◌, ℕ, zero, suc, ◌+◌, ◌<◌, ◌≤◌, Bool, false, [], length, None, sym, refl, ap, ◌∙◌, subst₂, ap₂, arith}
use mathlib.Core.Logic.{∥∥₁_elim}
use native.Mathlib.Bridge.{le_prop}
use Rattle.std.proofs.lemmas.Bool.Decides.{nat_tests}
use Rattle.std.proofs.lemmas.Bool.{eq-eqb, ne_eqb}
use Rattle.network.specs.Network.{Network}
use Rattle.arbiter.specs.Rule.{Rule, Exists}
use Rattle.table.specs.TableLaws.{table_lawful}
use Rattle.switch.specs.Buffers.{work_left}
use Rattle.switch.specs.Calls.{SwitchState, Answer, Run, inside, decisions, cycled_by, drain_step, draining}
use Rattle.switch.specs.Calls.Call.{cycle, drain}
use Rattle.switch.specs.Calls.Answer.{number}
use Rattle.switch.proofs.Keeping.{held_le_work, cycle_work, work_grants, inside_held}
use Rattle.fabric.specs.declared.fabric.Fabric.{Fabric}
use Rattle.fabric.specs.Fabrics.{network_in, depth_in, state_of, outcome, Answered}
use Rattle.fabric.proofs.Reaching.{count_fits}
use Rattle.fabric.proofs.Calling.{asked, performed_state, performed_answer}
use Rattle.fabric.proofs.Cycling.{visits_few, may_cycle, cycled_state}

-- What is left of a drain after so many cycles: with as many more as are left, it leads where it led from the start.
pub record Draining {R A : Type 0} (rule : Rule A) (start now : Fabric R A) (count left : ℕ) : Type 0 where
  pub network_same : network_in now ≡ network_in start
  pub routing_same : now.routing ≡ start.routing
  pub depth_same : depth_in now ≡ depth_in start
  pub cycles_are : now.body.cycles ≡ start.body.cycles + count
  pub sum_is : count + left ≡ work_left (network_in start) (state_of start).buffers
  pub enough : work_left (network_in start) (state_of now).buffers ≤ left
  pub state_same : (draining (network_in start) rule (depth_in start) (count + left) (state_of start)).state ≡ (draining (network_in start) rule (depth_in start) left (state_of now)).state
  pub history_more : length (draining (network_in start) rule (depth_in start) (count + left) (state_of start)).history
      ≡ count + length (draining (network_in start) rule (depth_in start) left (state_of now)).history

-- A drain makes a cycle where something is inside, and none where nothing is.
module _ {A : Type 0} (net : Network) (rule : Rule A) (depth : ℕ) (s : SwitchState A) where
  one_more : (k : ℕ) → 0 < inside s → draining net rule depth (suc k) s ≡ drain_step net rule depth (draining net rule depth k) s false
  unfolding draining
  one_more k h = ap (λ (b : Bool). drain_step net rule depth (draining net rule depth k) s b) (ne_eqb (inside s) 0 (λ e. omega arith))

  no_more : (k : ℕ) → inside s ≡ 0 → draining net rule depth k s ≡ record { state = s; history = [] }
  unfolding draining
  no_more zero h = refl
  no_more (suc k) h = ap (λ (b : Bool). drain_step net rule depth (draining net rule depth k) s b) (eq-eqb (inside s) 0 h)

-- A cycle with something inside lowers the work.
module _ {R A : Type 0} (rule : Rule A) (exists : Exists rule) (m : Fabric R A) (some : 0 < inside (state_of m)) where
  abbrev pub next_state : SwitchState A
  next_state = cycled_by (network_in m) (decisions (network_in m) rule (depth_in m) (state_of m)) (state_of m)

  pub some_work : 0 < work_left (network_in m) (state_of m).buffers
  some_work =
      ∥∥₁_elim m.reached le_prop
      (λ r.
      let i = inside_held (network_in m) (table_lawful m.table) rule exists (depth_in m) m.fits.deep (count_fits (network_in m) m.body.sizes m.fits) r.history (state_of m) r.invariant in
      let w = held_le_work (network_in m) (state_of m).buffers in
      omega arith)

  work_falls : work_left (network_in m) next_state.buffers + 1 ≤ work_left (network_in m) (state_of m).buffers
  unfolding cycled_by
  work_falls =
      ∥∥₁_elim m.reached le_prop
      (λ r.
      let law = table_lawful m.table in
      let few = count_fits (network_in m) m.body.sizes m.fits in
      let a = cycle_work (network_in m) law rule exists (depth_in m) m.fits.deep few r.history (state_of m) r.invariant in
      let b = work_grants (network_in m) law rule exists (depth_in m) m.fits.deep few r.history (state_of m) r.invariant some_work in
      omega arith)

-- What the questions of a drain give where none fails.
drain_budget : {R A : Type 0} (f : Fabric R A) → asked f drain ≡ None → f.body.cycles + work_left (network_in f) (state_of f).buffers ≤ 1000000
drain_budget f none = grind (arith, nat_tests)

module _ {R A : Type 0} (rule : Rule A) (exists : Exists rule) (start m : Fabric R A) (count left : ℕ) (inv : Draining rule start m count left) where
  pub some_left : 0 < inside (state_of m) → 0 < left
  some_left h =
      let w = some_work rule exists m h in
      let e : work_left (network_in m) (state_of m).buffers ≡ work_left (network_in start) (state_of m).buffers = ap (λ (x : Network). work_left x (state_of m).buffers) inv.network_same in
      let b = inv.enough in
      omega arith

  cycles_few : start.body.cycles + work_left (network_in start) (state_of start).buffers ≤ 1000000 → 0 < inside (state_of m) → m.body.cycles < 1000000
  cycles_few h k = let a = some_left k in let b = inv.cycles_are in let c = inv.sum_is in omega arith

  -- No question of the next cycle fails.
  pub goes_on : (room : ℕ) → room ≡ 448 → asked start drain ≡ None → 0 < inside (state_of m) → asked m (cycle room) ≡ None
  goes_on room e none some = may_cycle m room (omega (arith, visits_few m)) (cycles_few (drain_budget start none) some)

  -- One more cycle.
  module _ (next : Fabric R A) (some : 0 < inside (state_of m)) (room : ℕ) (may : asked m (cycle room) ≡ None) (said : Answer) (answered : Answered rule (cycle room) m next said) where
    e : state_of next ≡ next_state rule exists m some
    e = cycled_state m rule room may next said answered

    -- The work that is left is less.
    pub work_less : work_left (network_in next) (state_of next).buffers < work_left (network_in m) (state_of m).buffers
    work_less =
        let a = work_falls rule exists m some in
        let w : work_left (network_in next) (state_of next).buffers ≡ work_left (network_in m) (next_state rule exists m some).buffers
        = ap₂ (λ (x : Network) (s : SwitchState A). work_left x s.buffers) answered.network_is e in
        omega arith

    abbrev net : Network
    net = network_in start

    abbrev depth : ℕ
    depth = depth_in start

    abbrev after : SwitchState A
    after = cycled_by net (decisions net rule depth (state_of m)) (state_of m)

    here : state_of next ≡ after
    here = subst₂ (λ (x : Network) (d : ℕ). state_of next ≡ cycled_by x (decisions x rule d (state_of m)) (state_of m)) inv.network_same inv.depth_same e

    pub drain_goes_on : (j : ℕ) → left ≡ suc j → Draining rule start next (count + 1) j
    unfolding cycled_by
    drain_goes_on j x =
        let step : draining net rule depth left (state_of m) ≡ drain_step net rule depth (draining net rule depth j) (state_of m) false
        = ap (λ (k : ℕ). draining net rule depth k (state_of m)) x ∙ one_more net rule depth (state_of m) j some in
        let sum : count + 1 + j ≡ count + left = omega arith in
        record {
          network_same = answered.network_is ∙ inv.network_same;
          routing_same = answered.routing_is ∙ inv.routing_same;
          depth_same = answered.depth_is ∙ inv.depth_same;
          cycles_are =
              let a : next.body.cycles ≡ m.body.cycles + 1 = ap (λ (s : SwitchState A). s.cycles) here in
              let b = inv.cycles_are in
              omega arith;
          sum_is = sum ∙ inv.sum_is;
          enough =
              let a = work_falls rule exists m some in
              let b : work_left (network_in m) (state_of next).buffers ≡ work_left (network_in m) (next_state rule exists m some).buffers
              = ap (λ (s : SwitchState A). work_left (network_in m) s.buffers) e in
              let c : work_left (network_in m) (state_of next).buffers ≡ work_left net (state_of next).buffers = ap (λ (y : Network). work_left y (state_of next).buffers) inv.network_same in
              let d : work_left (network_in m) (state_of m).buffers ≡ work_left net (state_of m).buffers = ap (λ (y : Network). work_left y (state_of m).buffers) inv.network_same in
              let f = inv.enough in
              omega arith;
          state_same =
              ap (λ (k : ℕ). (draining net rule depth k (state_of start)).state) sum
              ∙ inv.state_same ∙ ap (λ (r : Run A). r.state) step
              ∙ ap (λ (s : SwitchState A). (draining net rule depth j s).state) (sym here);
          history_more =
              let a = inv.history_more in
              let b : length (draining net rule depth left (state_of m)).history ≡ suc (length (draining net rule depth j after).history) = ap (λ (r : Run A). length r.history) step in
              let c : length (draining net rule depth j after).history ≡ length (draining net rule depth j (state_of next)).history
              = ap (λ (s : SwitchState A). length (draining net rule depth j s).history) (sym here) in
              let d : length (draining net rule depth (count + 1 + j) (state_of start)).history ≡ length (draining net rule depth (count + left) (state_of start)).history
              = ap (λ (k : ℕ). length (draining net rule depth k (state_of start)).history) sum in
              omega arith;
        }

  -- The end.
  module _ (empty : inside (state_of m) ≡ 0) (none : asked start drain ≡ None) where
    last : draining (network_in start) rule (depth_in start) left (state_of m) ≡ record { state = state_of m; history = [] }
    last = no_more (network_in start) rule (depth_in start) (state_of m) left empty

    pub end_state : state_of m ≡ (outcome rule drain start).state
    end_state =
        performed_state start rule drain none (state_of m)
        (sym (ap (λ (k : ℕ). (draining (network_in start) rule (depth_in start) k (state_of start)).state) (sym inv.sum_is) ∙ inv.state_same ∙ ap (λ (r : Run A). r.state) last))

    pub end_answer : number count ≡ (outcome rule drain start).answer
    end_answer =
        let a : length (draining (network_in start) rule (depth_in start) left (state_of m)).history ≡ 0 = ap (λ (r : Run A). length r.history) last in
        let b : length (draining (network_in start) rule (depth_in start) (work_left (network_in start) (state_of start).buffers) (state_of start)).history
        ≡ length (draining (network_in start) rule (depth_in start) (count + left) (state_of start)).history
        = ap (λ (k : ℕ). length (draining (network_in start) rule (depth_in start) k (state_of start)).history) (sym inv.sum_is) in
        let c = inv.history_more in
        let d : count ≡ length (draining (network_in start) rule (depth_in start) (work_left (network_in start) (state_of start).buffers) (state_of start)).history = omega arith in
        performed_answer start rule drain none (number count) (ap number d)
