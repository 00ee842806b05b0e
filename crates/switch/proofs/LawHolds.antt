-- The law of runs, from the invariant. Assumes nothing.
use Rattle.std.proofs.Common.{◌≡◌, ℕ, zero, suc, ◌+◌, ◌-◌, ◌*◌, ◌<◌, ◌≤◌, Bool, true, false, cond, ◌&&◌, eqb, ltb, leb, ◌⊎◌, List, [], ◌∷◌, ◌++◌, length, get_or, Some, None, Option, sym, refl, ap, ◌∙◌, subst, inl, inr, mul-le-mul_left, mul-one, arith}
use lib.Seq.{append_snoc}
use Rattle.std.proofs.ByRecursion.{All-get_or}
use Rattle.std.proofs.lemmas.List.{append-nil}
use Rattle.std.proofs.lemmas.List.Sums.{sum_by-cons, sum_by_push}
use Rattle.std.proofs.lemmas.Bool.{leb-true, and_parts, eqb-false}
use Rattle.network.specs.Network.{Network}
use Rattle.network.specs.Laws.{Lawful}
use Rattle.network.proofs.Walking.{walk_long}
use Rattle.arbiter.specs.Rule.{Rule, Exists}
use Rattle.switch.specs.declared.report.Report.{Report}
use Rattle.switch.specs.Places.{buffer_count}
use Rattle.switch.specs.Buffers.{Buffers, total_from, work_left}
use Rattle.switch.specs.Calls.{SwitchState, Endpoints, Event, Call, Outcome, Limits, Run, empty_switch, inside, report_of, first_refusal, make_questions, decisions, cycled_by, questions, drain_step, draining, performed, settled, perform, run}
use Rattle.switch.specs.Calls.Event.{cycled, drained}
use Rattle.switch.specs.Calls.Call.{open_feed, inject, cycle, drain, close_feed}
use Rattle.switch.specs.History.{injections, grants_in, is_cycle, is_drain, cycles_in, drains_in, inside_in, no_endpoints, grants_of, hop_count, delivery_count, work_in, report_in}
use Rattle.switch.specs.Law.{Journey, Once, EachCycle, Ledger, Tells, Drained, Drains, Law, SwitchLaw}
use Rattle.switch.specs.Invariant.{Travelled, Invariant, is_number, held}
use Rattle.switch.proofs.Totals.{total_le}
use Rattle.switch.proofs.Tallies.{hops_journey}
use Rattle.switch.proofs.Histories.{hops_and_deliveries, each_none, each_cons, each_push}
use Rattle.switch.proofs.Keeping.{held_le_work, invariant_empty, cycled_once, run_keeps, holds_first}

number_held : (k : ℕ) (bs : Buffers) → total_from (is_number k) 0 bs ≤ held bs
unfolding held
number_held k bs = total_le (is_number k) (λ _ _. 1) (λ b q. small (eqb q.number k)) bs 0
  where
    small : (t : Bool) → cond {A = ℕ} t 1 0 ≤ 1
    small true = omega arith
    small false = omega arith

-- The events of a drain are cycles, as many as are allowed at most.
abbrev Cycles : ℕ → List Event → Type 0
Cycles most h = (cycles_in h ≡ length h) × (length h ≤ most) × (drains_in h ≡ 0)

drain_cycles : {Arb : Type 0} (net : Network) (rule : Rule Arb) (depth k : ℕ) (s : SwitchState Arb) → Cycles k (draining net rule depth k s).history
unfolding draining
drain_cycles net rule depth zero s = (refl, omega arith, refl)
drain_cycles net rule depth (suc k) s = go (eqb (inside s) 0) (drain_cycles net rule depth k (cycled_by net (decisions net rule depth s) s))
  where
    go : (b : Bool) → Cycles k (draining net rule depth k (cycled_by net (decisions net rule depth s) s)).history
        → Cycles (suc k) (drain_step net rule depth (draining net rule depth k) s b).history
    go true r = (refl, omega arith, refl)
    go false r =
        let rest = (draining net rule depth k (cycled_by net (decisions net rule depth s) s)).history in
        let a = sum_by-cons (λ x. cond {A = ℕ} (is_cycle x) 1 0) (cycled (decisions net rule depth s).grants) rest in
        let d = sum_by-cons (λ x. cond {A = ℕ} (is_drain x) 1 0) (cycled (decisions net rule depth s).grants) rest in
        let b = r.0 in
        let c = r.1 in
        let e = r.2 in
        (omega arith, omega arith, omega arith)

-- Each begins with a packet inside.
drains_busy : {Arb : Type 0} (net : Network) → Lawful net → (rule : Rule Arb) → Exists rule → (depth : ℕ) → 1 ≤ depth → buffer_count net ≤ 2048
    → (k : ℕ) (h : List Event) (s : SwitchState Arb) → Invariant net depth h s → EachCycle (λ before gs. 0 < inside_in net (h ++ before)) (draining net rule depth k s).history
unfolding draining
drains_busy net law rule exists depth deep few zero h s o = each_none (λ before gs. 0 < inside_in net (h ++ before))
drains_busy net law rule exists depth deep few (suc k) h s o =
    go (eqb (inside s) 0) refl
    (drains_busy net law rule exists depth deep few k (h ++ (cycled (decisions net rule depth s).grants ∷ [])) (cycled_by net (decisions net rule depth s) s)
    (cycled_once net law rule exists depth deep few h s o))
  where
    go : (b : Bool) → eqb (inside s) 0 ≡ b
        → EachCycle (λ before gs. 0 < inside_in net ((h ++ (cycled (decisions net rule depth s).grants ∷ [])) ++ before))
        (draining net rule depth k (cycled_by net (decisions net rule depth s) s)).history
        → EachCycle (λ before gs. 0 < inside_in net (h ++ before)) (drain_step net rule depth (draining net rule depth k) s b).history
    go true x r = each_none (λ before gs. 0 < inside_in net (h ++ before))
    go false x r = each_cons (λ before gs. 0 < inside_in net (h ++ before)) (cycled (decisions net rule depth s).grants) _
        (λ gs e. subst (λ (y : List Event). 0 < inside_in net y) (sym (append-nil h))
        (let n = eqb-false (inside s) 0 x in let t = o.taken_is in let d = o.delivered_is in omega arith))
        (λ before after gs e. subst (λ (y : List Event). 0 < inside_in net y) (append_snoc h (cycled (decisions net rule depth s).grants) before) (r before after gs e))

module _ {Arb : Type 0} (net : Network) (depth : ℕ) (h : List Event) (s : SwitchState Arb) (o : Invariant net depth h s) where
  journeys : (k : ℕ) (e : Endpoints) → Travelled net k e (grants_in h) → Journey net e.destination e.source (grants_of k (grants_in h))
  journeys k e (inl v) = hops_journey net v.2
  journeys k e (inr v) = v.1

  pub once : Lawful net → Once net h
  once law =
      let i = o.consistent in
      record {
        known = i.known;
        at_most_once = λ k l. omega (arith, i.counted k l);
        journey = λ k l. journeys k (get_or (injections h) k no_endpoints) (i.travelled k l);
        exact = i.exact;
        shortest = λ k m l v. walk_long net law (All-get_or (λ e. (e.source < net.nodes) × (e.destination < net.nodes)) _ k no_endpoints l i.ends_in).1 v;
      }

  reports : report_of s ≡ report_in net h
  reports =
      ap (λ (x : ℕ). report x s.delivered s.hops s.cycles) o.taken_is
      ∙ ap (λ (x : ℕ). report (length (injections h)) x s.hops s.cycles) o.delivered_is
      ∙ ap (λ (x : ℕ). report (length (injections h)) (delivery_count net (grants_in h)) x s.cycles) o.hops_is
      ∙ ap (λ (x : ℕ). report (length (injections h)) (delivery_count net (grants_in h)) (hop_count net (grants_in h)) x) o.cycles_is
    where
      report : ℕ → ℕ → ℕ → ℕ → Report
      report t d m c = record { taken = t; delivered = d; hops = m; cycles = c; inside = t - d }

  told : work_left net s.buffers ≡ work_in net h
  unfolding work_in
  told = sym o.consistent.work_is

  pub ledger : Ledger net h s
  ledger =
      record {
        balance = let l = o.consistent.balance in let e = told in omega arith;
        report = reports;
        work = told;
        numbered = o.numbered;
      }

  -- No work left is a switch that is drained.
  drained_from : work_left net s.buffers ≡ 0 → Drained net h
  drained_from e =
      let a = held_le_work net s.buffers in
      let i = o.consistent.inside_is in
      record {
        nothing_inside = omega arith;
        each_once = λ k l. let c = o.consistent.counted k l in let b = number_held k s.buffers in omega arith;
      }

  none_left : (work left : ℕ) (after : List Event) → (left + cycles_in after ≤ work) ⊎ (left ≡ 0) → (0 < drains_in after → left ≡ 0)
      → (work ≤ cycles_in after) ⊎ (0 < drains_in after) → left ≡ 0
  none_left work left after (inr z) d x = z
  none_left work left after (inl l) d (inl x) = omega arith
  none_left work left after (inl l) d (inr x) = d x

  pub drains : Drains net h
  drains before after e enough =
      let a = o.closing before after e in
      drained_from (none_left (work_in net before) (work_left net s.buffers) after a.falls a.dry enough)

  -- What each call answers.
  module _ (law : Lawful net) (rule : Rule Arb) (exists : Exists rule) (deep : 1 ≤ depth) (few : buffer_count net ≤ 2048) where
    performed_tells : (c : Call) → Tells net h (performed net rule depth c s).events s (performed net rule depth c s).state c (performed net rule depth c s).answer
    performed_tells open_feed = refl
    performed_tells (inject n d) = (o.taken_is, refl)
    performed_tells (cycle room) =
        let gs = (decisions net rule depth s).grants in
        (gs, refl, sym (hops_and_deliveries net gs))
    performed_tells drain =
        let r = draining net rule depth (work_left net s.buffers) s in
        let c = drain_cycles net rule depth (work_left net s.buffers) s in
        let p = sum_by_push (λ x. cond {A = ℕ} (is_cycle x) 1 0) r.history drained in
        let q = sum_by_push (λ x. cond {A = ℕ} (is_drain x) 1 0) r.history drained in
        let a = c.0 in
        let b = c.1 in
        let d = c.2 in
        let t = told in
        record {
          cycles_made = omega arith;
          none_idle = each_push (λ before gs. 0 < inside_in net (h ++ before)) r.history drained
              (drains_busy net law rule exists depth deep few (work_left net s.buffers) h s o)
              (λ gs e. let z : ◌≡◌ {A = ℕ} 0 1 = cc in absurd (let k : ⊥ = omega arith in k));
          at_most_work = omega arith;
          one_drain = omega arith;
        }
    performed_tells close_feed = refl

    settled_tells : (c : Call) (k : Option ℕ) (r : Outcome Arb) → Tells net h r.events s r.state c r.answer
        → Tells net h (settled s k r).events s (settled s k r).state c (settled s k r).answer
    settled_tells c None r t = t
    settled_tells c (Some k) r t = (refl, refl)

    pub tells : (limits : Limits) (c : Call)
        → Tells net h (perform limits net rule depth c s).events s (perform limits net rule depth c s).state c (perform limits net rule depth c s).answer
    unfolding perform
    tells limits c = settled_tells c (first_refusal (questions limits net depth c s)) (performed net rule depth c s) (performed_tells c)

-- The law of one run, where the invariant holds of it.
pub invariant_law : {Arb : Type 0} (limits : Limits) (net : Network) → Lawful net → (rule : Rule Arb) → Exists rule → (depth : ℕ) → 1 ≤ depth → buffer_count net ≤ 2048
    → (r : Run Arb) → Invariant net depth r.history r.state → Law limits net rule depth r
invariant_law limits net law rule exists depth deep few r o =
    record {
      once = once net depth r.history r.state o law;
      ledger = ledger net depth r.history r.state o;
      answers = tells net depth r.history r.state o law rule exists deep few limits;
      never_locks = o.never_locks;
      drains = drains net depth r.history r.state o;
      capacity = o.capacity;
    }

-- What make's questions give.
pub made_sizes : (net : Network) (depth : ℕ) → first_refusal (make_questions net depth) ≡ None → (1 ≤ depth) × (depth ≤ 4) × (buffer_count net * depth ≤ 2048)
made_sizes net depth e =
    let q1 = holds_first (ltb 0 net.nodes) _ 1 e in
    let q2 = holds_first (leb 1 depth && leb depth 4) _ 2 q1.1 in
    let q3 = holds_first (leb (buffer_count net * depth) 2048) None 3 q2.1 in
    let parts = and_parts (leb 1 depth) (leb depth 4) q2.0 in
    (leb-true 1 depth parts.0, leb-true depth 4 parts.1, leb-true _ _ q3.0)

pub buffers_few : (net : Network) (depth : ℕ) → 1 ≤ depth → buffer_count net * depth ≤ 2048 → buffer_count net ≤ 2048
buffers_few net depth deep fits =
    let k : buffer_count net * 1 ≤ buffer_count net * depth = mul-le-mul_left (buffer_count net) deep in
    let e = mul-one (buffer_count net) in
    omega arith

pub switch_law : {Arb : Type 0} (rule : Rule Arb) → SwitchLaw rule
switch_law rule exists net law depth asked a limits calls =
    let z = made_sizes net depth asked in
    let few = buffers_few net depth z.0 z.2 in
    invariant_law limits net law rule exists depth z.0 few (run limits net rule depth calls (empty_switch net a))
    (run_keeps net law rule exists depth z.0 few limits calls [] (empty_switch net a) (invariant_empty net depth a))
