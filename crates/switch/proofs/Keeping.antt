-- Every call keeps the invariant. Assumes nothing.
use Rattle.std.proofs.Common.{◌≡◌, ℕ, zero, suc, ◌+◌, ◌<◌, ◌≤◌, Bool, true, false, cond, not, eqb, ltb, ◌⊎◌, List, [], ◌∷◌, ◌++◌, length, replicate, Some, None, Option, sym, refl, ap, ◌∙◌, subst, subst₂, inl, inr, arith, length-append}
use lib.ListN.{length-replicate, get_or-replicate}
use lib.Seq.{append_snoc}
use Rattle.std.specs.List.{AllByRecursion}
use Rattle.std.proofs.ByRecursion.{All-weaker}
use Rattle.std.proofs.lemmas.List.{append-nil, append_assoc, get_or_past}
use Rattle.std.proofs.lemmas.List.Sums.{sum_by_push, sum_by-append}
use Rattle.std.proofs.lemmas.Bool.{ltb-true, eqb-true, eqb-false, cases_eq, cases_lt}
use Rattle.queue.specs.declared.packet.Packet.{Packet}
use Rattle.network.specs.Network.{Network}
use Rattle.network.specs.Laws.{Lawful}
use Rattle.arbiter.specs.Rule.{Rule, Exists}
use Rattle.switch.specs.declared.feed_state.FeedState.{FeedState}
use Rattle.switch.specs.declared.feed_state.FeedState.TheVariants.{Open, Closed}
use Rattle.switch.specs.declared.grant.Grant.{Grant}
use Rattle.switch.specs.Places.{buffer_count, injection_buffer}
use Rattle.switch.specs.Buffers.{Buffers, contents, enqueue, total_from, packet_work, work_left}
use Rattle.switch.specs.Cycle.{delivers, moves}
use Rattle.switch.specs.Calls.{SwitchState, Endpoints, Event, Call, Outcome, Limits, empty_switch, inside, decisions, cycled_by, first_refusal, is_unopened, is_open, below, questions, with_feed, with_packet, drain_step, draining, performed, settled, perform, run}
use Rattle.switch.specs.Calls.Event.{injected, cycled, drained, closed}
use Rattle.switch.specs.Calls.Call.{open_feed, inject, cycle, drain, close_feed}
use Rattle.switch.specs.History.{injections, grants_in, is_cycle, cycles_in, hop_count, delivery_count, inside_in, work_in}
use Rattle.switch.specs.Invariant.{Placed, Good, Consistent, SinceClose, Invariant, held}
use Rattle.switch.proofs.Totals.{total_none, total_le, total_zero, some_packet}
use Rattle.switch.proofs.Progress.{snap}
use Rattle.switch.proofs.Deciding.{cycle_ready, cycle_some}
use Rattle.switch.proofs.Moving.{Moved, moves_step, join_short, ready_numbered}
use Rattle.switch.proofs.Injecting.{inject_step}
use Rattle.switch.proofs.Histories.{injections_append, grants_append, hops_and_deliveries, each_none, each_push, Falls, closing_none, closing_push, never_closed}

-- What each cycle keeps: its number, and that it makes progress.
abbrev Numbered : List Event → List Grant → Type 0
Numbered before gs = AllByRecursion (λ g. g.cycle ≡ cycles_in before) gs

abbrev Progressed : Network → List Event → List Grant → Type 0
Progressed net before gs = 0 < inside_in net before → 0 < hop_count net gs + delivery_count net gs

-- Nothing is held exactly where no work is left.
pub held_le_work : (net : Network) (bs : Buffers) → held bs ≤ work_left net bs
unfolding held work_left
held_le_work net bs = total_le (λ _ _. 1) (packet_work net) (λ b q. omega arith) bs 0

pub work_of_none : (net : Network) (bs : Buffers) → held bs ≡ 0 → work_left net bs ≡ 0
unfolding held work_left
work_of_none net bs e = go (cases_lt 0 (total_from (packet_work net) 0 bs))
  where
    go : (0 < total_from (packet_work net) 0 bs) ⊎ (total_from (packet_work net) 0 bs ≤ 0) → total_from (packet_work net) 0 bs ≡ 0
    go (inr h) = omega arith
    go (inl h) =
        let r = some_packet (packet_work net) bs 0 h in
        let z = total_zero (λ _ _. 1) bs 0 r.0 r.0 (omega arith) r.3 e in
        let z' : AllByRecursion (λ q. ◌≡◌ {A = ℕ} 1 0) (r.1 ∷ r.2) = subst (λ (xs : List Packet). AllByRecursion (λ q. ◌≡◌ {A = ℕ} 1 0) xs) r.4 z in
        absurd (let k = z'.0 in let f : ⊥ = omega arith in f)

open_not_closed : (f : FeedState) → is_open f ≡ true → f ≡ Closed → ⊥
open_not_closed f a x = let b : is_open f ≡ false = ap is_open x in let z : ◌≡◌ {A = ℕ} 0 1 = cc in omega arith

unopened_not_closed : (f : FeedState) → is_unopened f ≡ true → f ≡ Closed → ⊥
unopened_not_closed f a x = let b : is_unopened f ≡ false = ap is_unopened x in let z : ◌≡◌ {A = ℕ} 0 1 = cc in omega arith

-- A question that is asked and not refused holds.
pub holds_first : (b : Bool) (c : Option ℕ) (n : ℕ) → cond b c (Some n) ≡ None → (b ≡ true) × (c ≡ None)
holds_first true c n e = (refl, e)
holds_first false c n e = let z : ◌≡◌ {A = ℕ} 0 1 = cc in absurd (let k : ⊥ = omega arith in k)

module _ {Arb : Type 0} (net : Network) (depth : ℕ) where
  pub invariant_empty : (a : Arb) → Invariant net depth [] (empty_switch net a)
  unfolding work_left held
  invariant_empty a =
      record {
        consistent =
            record {
              sized = sized;
              good = λ b h. subst (λ (xs : List Packet). AllByRecursion (Good net [] [] b) xs) (sym (empty b)) tt;
              ends_in = tt;
              known = tt;
              counted = λ k h. absurd (let z : ⊥ = omega arith in z);
              travelled = λ k h. absurd (let z : ⊥ = omega arith in z);
              exact = λ k h _. absurd (let z : ⊥ = omega arith in z);
              inside_is = let n = none (λ _ _. 1) in omega arith;
              work_is = let n = none (packet_work net) in omega arith;
              balance = let n = none (packet_work net) in omega arith;
            };
        taken_is = refl;
        delivered_is = refl;
        hops_is = refl;
        cycles_is = refl;
        numbered = each_none Numbered;
        never_locks = each_none (Progressed net);
        closing = closing_none net _;
        capacity = λ b. let e : length (contents (replicate (buffer_count net) []) b) ≡ 0 = ap (λ (xs : List Packet). length xs) (empty b) in omega arith;
      }
    where
      sized : length (replicate {A = List Packet} (buffer_count net) []) ≡ buffer_count net
      sized = length-replicate {A = List Packet} (buffer_count net) []

      empty_at : (b : ℕ) → (b < buffer_count net) ⊎ (buffer_count net ≤ b) → contents (replicate (buffer_count net) []) b ≡ []
      empty_at b (inl h) = get_or-replicate (buffer_count net) b [] [] h
      empty_at b (inr h) = get_or_past (replicate (buffer_count net) []) b [] (let l = sized in omega arith)

      empty : (b : ℕ) → contents (replicate (buffer_count net) []) b ≡ []
      empty b = empty_at b (cases_lt b (buffer_count net))

      none : (f : ℕ → Packet → ℕ) → total_from f 0 (replicate (buffer_count net) []) ≡ 0
      none f = total_none f (replicate (buffer_count net) []) 0 (λ b h. subst (λ (xs : List Packet). AllByRecursion (λ q. f (0 + b) q ≡ 0) xs) (sym (empty b)) tt)

  -- An event that is neither a packet taken in nor a cycle.
  quiet : (h : List Event) (e : Event) (s : SwitchState Arb) (f : FeedState) → injections (e ∷ []) ≡ [] → grants_in (e ∷ []) ≡ [] → is_cycle e ≡ false
      → ((gs : List Grant) → e ≡ cycled gs → ⊥) → (s.feed ≡ Closed → Falls net s e (with_feed f s)) → (e ≡ closed → SinceClose net (work_in net h) [] (with_feed f s))
      → Invariant net depth h s → Invariant net depth (h ++ (e ∷ [])) (with_feed f s)
  quiet h e s f et eg ec en fs af o =
      let t : injections (h ++ (e ∷ [])) ≡ injections h = injections_append h (e ∷ []) ∙ ap (λ (x : List Endpoints). injections h ++ x) et ∙ append-nil (injections h) in
      let g : grants_in (h ++ (e ∷ [])) ≡ grants_in h = grants_append h (e ∷ []) ∙ ap (λ (x : List Grant). grants_in h ++ x) eg ∙ append-nil (grants_in h) in
      record {
        consistent = subst₂ (λ (x : List Endpoints) (y : List Grant). Consistent net x y s.buffers) (sym t) (sym g) o.consistent;
        taken_is = o.taken_is ∙ ap (λ (x : List Endpoints). length x) (sym t);
        delivered_is = o.delivered_is ∙ ap (λ (x : List Grant). delivery_count net x) (sym g);
        hops_is = o.hops_is ∙ ap (λ (x : List Grant). hop_count net x) (sym g);
        cycles_is =
            let a = sum_by_push (λ x. cond {A = ℕ} (is_cycle x) 1 0) h e in
            let b : cond {A = ℕ} (is_cycle e) 1 0 ≡ 0 = ap (λ (x : Bool). cond {A = ℕ} x 1 0) ec in
            let c = o.cycles_is in
            omega arith;
        numbered = each_push Numbered h e o.numbered (λ gs x. absurd (en gs x));
        never_locks = each_push (Progressed net) h e o.never_locks (λ gs x. absurd (en gs x));
        closing = closing_push net h e s (with_feed f s) o.closing fs af;
        capacity = o.capacity;
      }

  refed : (h : List Event) (s : SwitchState Arb) (f : FeedState) → (s.feed ≡ Closed → ⊥) → Invariant net depth h s → Invariant net depth h (with_feed f s)
  refed h s f n o =
      record {
        consistent = o.consistent;
        taken_is = o.taken_is;
        delivered_is = o.delivered_is;
        hops_is = o.hops_is;
        cycles_is = o.cycles_is;
        numbered = o.numbered;
        never_locks = o.never_locks;
        closing = never_closed net h s (with_feed f s) o.closing n;
        capacity = o.capacity;
      }

  injected_once : (h : List Event) (s : SwitchState Arb) (n d : ℕ) → (s.feed ≡ Closed → ⊥) → n < net.nodes → d < net.nodes
      → length (contents s.buffers (injection_buffer net n)) < depth → Invariant net depth h s
      → Invariant net depth (h ++ (injected (record { source = n; destination = d }) ∷ [])) (with_packet net n d s)
  injected_once h s n d nc hn hd free o =
      let x : Endpoints = record { source = n; destination = d } in
      let t : injections (h ++ (injected x ∷ [])) ≡ injections h ++ (x ∷ []) = injections_append h (injected x ∷ []) in
      let g : grants_in (h ++ (injected x ∷ [])) ≡ grants_in h = grants_append h (injected x ∷ []) ∙ append-nil (grants_in h) in
      let i = inject_step net (injections h) (grants_in h) s.buffers o.consistent n d hn hd in
      let i' : Consistent net (injections h ++ (x ∷ [])) (grants_in h) (with_packet net n d s).buffers
      = subst (λ (k : ℕ). Consistent net (injections h ++ (x ∷ [])) (grants_in h) (enqueue s.buffers (injection_buffer net n) (record { number = k; source = n; destination = d; hops = 0 }))) (sym o.taken_is) i in
      record {
        consistent = subst₂ (λ (x : List Endpoints) (y : List Grant). Consistent net x y (with_packet net n d s).buffers) (sym t) (sym g) i';
        taken_is =
            let a : length (injections (h ++ (injected x ∷ []))) ≡ length (injections h ++ (x ∷ [])) = ap (λ (y : List Endpoints). length y) t in
            let b = length-append (injections h) (x ∷ []) in
            let c = o.taken_is in
            omega arith;
        delivered_is = o.delivered_is ∙ ap (λ (y : List Grant). delivery_count net y) (sym g);
        hops_is = o.hops_is ∙ ap (λ (y : List Grant). hop_count net y) (sym g);
        cycles_is = let a = sum_by_push (λ x. cond {A = ℕ} (is_cycle x) 1 0) h (injected x) in let c = o.cycles_is in omega arith;
        numbered = each_push Numbered h (injected x) o.numbered (λ gs e. absurd (not_cycle x gs e));
        never_locks = each_push (Progressed net) h (injected x) o.never_locks (λ gs e. absurd (not_cycle x gs e));
        closing = closing_push net h (injected x) s (with_packet net n d s) o.closing (λ e. absurd (nc e)) (λ e. absurd (not_close x e));
        capacity = λ b. room b (cases_eq b (injection_buffer net n));
      }
    where
      not_cycle : (x : Endpoints) (gs : List Grant) → injected x ≡ cycled gs → ⊥
      not_cycle x gs e = let z : ◌≡◌ {A = ℕ} 0 1 = cc in omega arith

      not_close : (x : Endpoints) → injected x ≡ closed → ⊥
      not_close x e = let z : ◌≡◌ {A = ℕ} 0 1 = cc in omega arith

      room : (b : ℕ) → (b ≡ injection_buffer net n) ⊎ (b ≡ injection_buffer net n → ⊥) → length (contents (with_packet net n d s).buffers b) ≤ depth
      room b (inr y) =
          let j = (join_short s.buffers (injection_buffer net n) b (record { number = s.taken; source = n; destination = d; hops = 0 })).elsewhere y in
          let c = o.capacity b in
          omega arith
      room b (inl y) =
          let j = (join_short s.buffers (injection_buffer net n) b (record { number = s.taken; source = n; destination = d; hops = 0 })).one_more in
          let e : length (contents s.buffers b) ≡ length (contents s.buffers (injection_buffer net n)) = ap (λ (x : ℕ). length (contents s.buffers x)) y in
          omega arith

module _ {Arb : Type 0} (net : Network) (law : Lawful net) (rule : Rule Arb) (exists : Exists rule) (depth : ℕ) (deep : 1 ≤ depth) (few : buffer_count net ≤ 2048) where
  -- The buffers after a cycle.
  cycle_step : (h : List Event) (s : SwitchState Arb) → Invariant net depth h s
      → Consistent net (injections h) (grants_in h ++ (decisions net rule depth s).grants) (moves (buffer_count net) s.buffers (decisions net rule depth s).grants)
      × ((b : ℕ) → length (contents (moves (buffer_count net) s.buffers (decisions net rule depth s).grants) b) ≤ depth)
      × AllByRecursion (λ g. g.cycle ≡ s.cycles) (decisions net rule depth s).grants
  unfolding decisions
  cycle_step h s o =
      let start = snap net depth s.cycles s.buffers in
      let granted = replicate (buffer_count net) false in
      let ready = cycle_ready net law rule exists depth s.cycles s.buffers s.arbiter few in
      let moved : Moved start granted [] s.buffers
      = record {
        sized = o.consistent.sized;
        flags = length-replicate (buffer_count net) false;
        front = λ b _. ([], sym (append-nil (contents s.buffers b)));
        short = λ b _. omega arith;
        within = o.capacity;
      } in
      let m = moves_step start law (injections h) (decisions net rule depth s).grants granted [] s.buffers (grants_in h) ready moved o.consistent in
      (m.0, m.1, ready_numbered start (decisions net rule depth s).grants granted [] ready)

  -- A cycle that begins with a packet inside makes a grant,
  grants_some : (h : List Event) (s : SwitchState Arb) → Invariant net depth h s → (f : ℕ → Packet → ℕ) → 0 < total_from f 0 s.buffers
      → 1 ≤ length (decisions net rule depth s).grants
  unfolding decisions
  grants_some h s o f p =
      let r = some_packet f s.buffers 0 p in
      cycle_some net law rule exists depth s.cycles s.buffers s.arbiter few deep
      (λ b l. All-weaker (Good net (injections h) (grants_in h) b) (Placed net b) (λ q x. x.placed) _ (o.consistent.good b l))
      r.0 r.1 r.2 (let z = o.consistent.sized in let y = r.3 in omega arith) r.4

  -- and does as much work as it makes grants.
  pub cycle_work : (h : List Event) (s : SwitchState Arb) → Invariant net depth h s
      → work_left net (moves (buffer_count net) s.buffers (decisions net rule depth s).grants) + length (decisions net rule depth s).grants ≡ work_left net s.buffers
  cycle_work h s o =
      let gs = (decisions net rule depth s).grants in
      let i = (cycle_step h s o).0 in
      let l = o.consistent.balance in
      let l' = i.balance in
      let b = hops_and_deliveries net (grants_in h ++ gs) in
      let c = hops_and_deliveries net (grants_in h) in
      let d = length-append (grants_in h) gs in
      omega arith

  pub work_grants : (h : List Event) (s : SwitchState Arb) → Invariant net depth h s → 0 < work_left net s.buffers → 1 ≤ length (decisions net rule depth s).grants
  unfolding work_left
  work_grants h s o p = grants_some h s o (packet_work net) p

  cycle_falls : (h : List Event) (s : SwitchState Arb) → Invariant net depth h s → s.feed ≡ Closed
      → Falls net s (cycled (decisions net rule depth s).grants) (cycled_by net (decisions net rule depth s) s)
  unfolding cycled_by
  cycle_falls h s o e =
      record {
        still_closed = e;
        no_more = let c = cycle_work h s o in omega arith;
        falls = go (cases_lt 0 (work_left net s.buffers));
        dry = λ k. let z : ◌≡◌ {A = ℕ} 0 1 = cc in absurd (let k : ⊥ = omega arith in k);
      }
    where
      go : (0 < work_left net s.buffers) ⊎ (work_left net s.buffers ≤ 0)
          → (work_left net (moves (buffer_count net) s.buffers (decisions net rule depth s).grants) + 1 ≤ work_left net s.buffers) ⊎ (work_left net (moves (buffer_count net) s.buffers (decisions net rule depth s).grants) ≡ 0)
      go (inl p) = let c = cycle_work h s o in let m = work_grants h s o p in inl (omega arith)
      go (inr p) = let c = cycle_work h s o in inr (omega arith)

  pub cycled_once : (h : List Event) (s : SwitchState Arb) → Invariant net depth h s
      → Invariant net depth (h ++ (cycled (decisions net rule depth s).grants ∷ [])) (cycled_by net (decisions net rule depth s) s)
  unfolding cycled_by held
  cycled_once h s o =
      let gs = (decisions net rule depth s).grants in
      let t : injections (h ++ (cycled gs ∷ [])) ≡ injections h = injections_append h (cycled gs ∷ []) ∙ append-nil (injections h) in
      let g : grants_in (h ++ (cycled gs ∷ [])) ≡ grants_in h ++ gs = grants_append h (cycled gs ∷ []) ∙ ap (λ (x : List Grant). grants_in h ++ x) (append-nil gs) in
      let i = cycle_step h s o in
      record {
        consistent = subst₂ (λ (x : List Endpoints) (y : List Grant). Consistent net x y (moves (buffer_count net) s.buffers gs)) (sym t) (sym g) i.0;
        taken_is = o.taken_is ∙ ap (λ (x : List Endpoints). length x) (sym t);
        delivered_is =
            let a = sum_by-append (λ x. cond {A = ℕ} (delivers net x) 1 0) (grants_in h) gs in
            let b : delivery_count net (grants_in (h ++ (cycled gs ∷ []))) ≡ delivery_count net (grants_in h ++ gs) = ap (λ (x : List Grant). delivery_count net x) g in
            let c = o.delivered_is in
            omega arith;
        hops_is =
            let a = sum_by-append (λ x. cond {A = ℕ} (not (delivers net x)) 1 0) (grants_in h) gs in
            let b : hop_count net (grants_in (h ++ (cycled gs ∷ []))) ≡ hop_count net (grants_in h ++ gs) = ap (λ (x : List Grant). hop_count net x) g in
            let c = o.hops_is in
            omega arith;
        cycles_is =
            let a = sum_by_push (λ x. cond {A = ℕ} (is_cycle x) 1 0) h (cycled gs) in
            let c = o.cycles_is in
            omega arith;
        numbered = each_push Numbered h (cycled gs) o.numbered
            (λ gs' e.
            let same : gs ≡ gs' = cc in
            subst₂ (λ (k : ℕ) (x : List Grant). AllByRecursion (λ (y : Grant). y.cycle ≡ k) x) o.cycles_is same i.2);
        never_locks = each_push (Progressed net) h (cycled gs) o.never_locks
            (λ gs' e p.
            let same : gs ≡ gs' = cc in
            let some : 0 < total_from (λ _ _. 1) 0 s.buffers = let z = o.consistent.inside_is in omega arith in
            let n = grants_some h s o (λ _ _. 1) some in
            let m = hops_and_deliveries net gs in
            subst (λ (x : List Grant). 0 < hop_count net x + delivery_count net x) same (omega arith));
        closing = closing_push net h (cycled gs) s (cycled_by net (decisions net rule depth s) s) o.closing (cycle_falls h s o)
            (λ e. let z : ◌≡◌ {A = ℕ} 0 1 = cc in absurd (let k : ⊥ = omega arith in k));
        capacity = i.1;
      }

  -- What is inside is what the buffers hold.
  pub inside_held : (h : List Event) (s : SwitchState Arb) → Invariant net depth h s → held s.buffers ≡ inside s
  inside_held h s o = let i = o.consistent.inside_is in let t = o.taken_is in let d = o.delivered_is in omega arith

  pub drains : (k : ℕ) (h : List Event) (s : SwitchState Arb) → Invariant net depth h s → Invariant net depth (h ++ (draining net rule depth k s).history) (draining net rule depth k s).state
  unfolding draining
  drains zero h s o = subst (λ (x : List Event). Invariant net depth x s) (sym (append-nil h)) o
  drains (suc k) h s o =
      go (eqb (inside s) 0) (drains k (h ++ (cycled (decisions net rule depth s).grants ∷ [])) (cycled_by net (decisions net rule depth s) s) (cycled_once h s o))
    where
      go : (b : Bool)
          → Invariant net depth ((h ++ (cycled (decisions net rule depth s).grants ∷ [])) ++ (draining net rule depth k (cycled_by net (decisions net rule depth s) s)).history)
          (draining net rule depth k (cycled_by net (decisions net rule depth s) s)).state
          → Invariant net depth (h ++ (drain_step net rule depth (draining net rule depth k) s b).history) (drain_step net rule depth (draining net rule depth k) s b).state
      go true r = subst (λ (x : List Event). Invariant net depth x s) (sym (append-nil h)) o
      go false r =
          subst (λ (x : List Event). Invariant net depth x (draining net rule depth k (cycled_by net (decisions net rule depth s) s)).state)
          (append_snoc h (cycled (decisions net rule depth s).grants) (draining net rule depth k (cycled_by net (decisions net rule depth s) s)).history) r

  -- As many cycles as there is work leave none.
  pub drains_dry : (k : ℕ) (h : List Event) (s : SwitchState Arb) → Invariant net depth h s → work_left net s.buffers ≤ k → work_left net (draining net rule depth k s).state.buffers ≡ 0
  unfolding draining cycled_by
  drains_dry zero h s o l = omega arith
  drains_dry (suc k) h s o l =
      go (eqb (inside s) 0) refl (drains_dry k (h ++ (cycled (decisions net rule depth s).grants ∷ [])) (cycled_by net (decisions net rule depth s) s) (cycled_once h s o))
    where
      go : (b : Bool) → eqb (inside s) 0 ≡ b
          → (work_left net (cycled_by net (decisions net rule depth s) s).buffers ≤ k → work_left net (draining net rule depth k (cycled_by net (decisions net rule depth s) s)).state.buffers ≡ 0)
          → work_left net (drain_step net rule depth (draining net rule depth k) s b).state.buffers ≡ 0
      go true x r = work_of_none net s.buffers (inside_held h s o ∙ eqb-true (inside s) 0 x)
      go false x r =
          let n = eqb-false (inside s) 0 x in
          let p : 0 < work_left net s.buffers = let z = held_le_work net s.buffers in let i = inside_held h s o in omega arith in
          let c = cycle_work h s o in
          let m = work_grants h s o p in
          r (omega arith)

  settling : (h : List Event) (s : SwitchState Arb) (c : Option ℕ) (r : Outcome Arb) → Invariant net depth h s → (c ≡ None → Invariant net depth (h ++ r.events) r.state)
      → Invariant net depth (h ++ (settled s c r).events) (settled s c r).state
  settling h s None r o f = f refl
  settling h s (Some c) r o f = subst (λ (x : List Event). Invariant net depth x s) (sym (append-nil h)) o

  pub work_told : (h : List Event) (s : SwitchState Arb) → Invariant net depth h s → work_left net s.buffers ≡ work_in net h
  unfolding work_in
  work_told h s o = sym o.consistent.work_is

  -- A call that is not refused keeps the invariant,
  performs : (limits : Limits) (c : Call) (h : List Event) (s : SwitchState Arb) → Invariant net depth h s → first_refusal (questions limits net depth c s) ≡ None
      → Invariant net depth (h ++ (performed net rule depth c s).events) (performed net rule depth c s).state
  performs limits open_feed h s o e =
      let q = holds_first (is_unopened s.feed) _ 4 e in
      subst (λ (x : List Event). Invariant net depth x (with_feed Open s)) (sym (append-nil h)) (refed net depth h s Open (unopened_not_closed s.feed q.0) o)
  performs limits (inject n d) h s o e =
      let q1 = holds_first (is_open s.feed) _ 5 e in
      let q2 = holds_first (ltb n net.nodes) _ 6 q1.1 in
      let q3 = holds_first (ltb d net.nodes) _ 7 q2.1 in
      let q4 = holds_first (below limits.packets s.taken) _ 8 q3.1 in
      let q5 = holds_first (ltb (length (contents s.buffers (injection_buffer net n))) depth) None 9 q4.1 in
      injected_once net depth h s n d (open_not_closed s.feed q1.0) (ltb-true n net.nodes q2.0) (ltb-true d net.nodes q3.0) (ltb-true _ _ q5.0) o
  performs limits (cycle room) h s o e = cycled_once h s o
  performs limits drain h s o e =
      let r = draining net rule depth (work_left net s.buffers) s in
      subst (λ (x : List Event). Invariant net depth x r.state) (append_assoc h r.history (drained ∷ []))
      (quiet net depth (h ++ r.history) drained r.state r.state.feed refl refl refl
      (λ gs e. let z : ◌≡◌ {A = ℕ} 0 1 = cc in omega arith)
      (λ x. let d = drains_dry (work_left net s.buffers) h s o (omega arith) in record { still_closed = x; no_more = omega arith; falls = inr d; dry = λ _. d })
      (λ e. let z : ◌≡◌ {A = ℕ} 0 1 = cc in absurd (let k : ⊥ = omega arith in k))
      (drains (work_left net s.buffers) h s o))
  performs limits close_feed h s o e =
      let q = holds_first (is_open s.feed) _ 5 e in
      quiet net depth h closed s Closed refl refl refl (λ gs e. let z : ◌≡◌ {A = ℕ} 0 1 = cc in omega arith)
      (λ x. absurd (open_not_closed s.feed q.0 x))
      (λ _. record { still_closed = refl; falls = inl (let i = work_told h s o in omega arith); dry = λ x. absurd (let z : ⊥ = omega arith in z) })
      o

  -- and so does any call,
  pub perform_keeps : (limits : Limits) (c : Call) (h : List Event) (s : SwitchState Arb) → Invariant net depth h s
      → Invariant net depth (h ++ (perform limits net rule depth c s).events) (perform limits net rule depth c s).state
  unfolding perform
  perform_keeps limits c h s o = settling h s (first_refusal (questions limits net depth c s)) (performed net rule depth c s) o (performs limits c h s o)

  -- and any list of calls.
  pub run_keeps : (limits : Limits) (cs : List Call) (h : List Event) (s : SwitchState Arb) → Invariant net depth h s
      → Invariant net depth (h ++ (run limits net rule depth cs s).history) (run limits net rule depth cs s).state
  unfolding run
  run_keeps limits [] h s o = subst (λ (x : List Event). Invariant net depth x s) (sym (append-nil h)) o
  run_keeps limits (c ∷ cs) h s o =
      let p = perform limits net rule depth c s in
      let r = run limits net rule depth cs p.state in
      subst (λ (x : List Event). Invariant net depth x r.state) (append_assoc h p.events r.history)
      (run_keeps limits cs (h ++ p.events) p.state (perform_keeps limits c h s o))
