-- A cycle of a switch that holds no packet: nothing is granted, and only the cycle is counted. Assumes nothing.
use Rattle.std.proofs.Common.{◌≡◌, ℕ, zero, suc, ◌+◌, ◌<◌, ◌≤◌, Bool, true, false, cond, not, ◌&&◌, ◌⊎◌, List, [], ◌∷◌, length, get_or, replicate, None, Option, refl, ap, ◌∙◌, inl, inr, add-zero, arith}
use Rattle.std.specs.List.{AllByRecursion}
use Rattle.std.proofs.lemmas.List.{get_or_past}
use Rattle.std.proofs.lemmas.Bool.{cases_lt}
use Rattle.queue.specs.declared.packet.Packet.{Packet}
use Rattle.network.specs.Network.{Network}
use Rattle.arbiter.specs.Rule.{Rule}
use Rattle.switch.specs.declared.grant.Grant.{Grant}
use Rattle.switch.specs.Places.{buffer_count, location}
use Rattle.switch.specs.Buffers.{Buffers, contents}
use Rattle.switch.specs.Cycle.{Snapshot, Visit, Decisions, stands_at, first_request, request, cons_some, requests_from, after_visit, decide, visits, moves}
use Rattle.switch.specs.Calls.{SwitchState, decisions, cycled_by}
use Rattle.switch.specs.Invariant.{held}
use Rattle.switch.proofs.Totals.{total_zero}
use Rattle.switch.proofs.Progress.{snap}

no_packet : (qs : List Packet) → AllByRecursion (λ q. ◌≡◌ {A = ℕ} 1 0) qs → qs ≡ []
no_packet [] h = refl
no_packet (q ∷ qs) h = absurd (let e = h.0 in let z : ⊥ = omega arith in z)

-- Every buffer is empty.
all_empty : (bs : Buffers) → held bs ≡ 0 → (b : ℕ) → contents bs b ≡ []
unfolding held
all_empty bs none b = go (cases_lt b (length bs))
  where
    go : (b < length bs) ⊎ (length bs ≤ b) → contents bs b ≡ []
    go (inl h) = no_packet (contents bs b) (total_zero (λ _ _. 1) bs 0 b b (omega arith) h none)
    go (inr h) = get_or_past bs b [] h

module _ (start : Snapshot) (empty : (b : ℕ) → contents start.buffers b ≡ []) where
  request_none : (granted : List Bool) (v : Visit) (b : ℕ) → request start granted v b ≡ None
  unfolding request
  request_none granted v b =
      ap (λ (qs : List Packet). cond (stands_at (location start.network b) v.node && not (get_or granted b false)) (first_request start v b qs) None) (empty b)
      ∙ either (stands_at (location start.network b) v.node && not (get_or granted b false))
    where
      either : (t : Bool) → cond {A = Option Grant} t None None ≡ None
      either true = refl
      either false = refl

  no_requests : (granted : List Bool) (v : Visit) (k b : ℕ) → requests_from start granted v k b ≡ []
  unfolding requests_from
  no_requests granted v zero b = refl
  no_requests granted v (suc k) b = ap (λ (o : Option Grant). cons_some o (requests_from start granted v k (suc b))) (request_none granted v b) ∙ no_requests granted v k (suc b)

  no_decisions : {Arb : Type 0} (rule : Rule Arb) (vs : List Visit) (granted : List Bool) (a : Arb) → decide start rule vs granted a ≡ record { grants = []; arbiter = a }
  unfolding decide
  no_decisions rule [] granted a = refl
  no_decisions rule (v ∷ vs) granted a =
      ap (λ (rs : List Grant). after_visit start.network rule v (decide start rule vs) granted a rs) (no_requests granted v (buffer_count start.network) 0)
      ∙ no_decisions rule vs granted a

module _ {Arb : Type 0} (net : Network) (rule : Rule Arb) (depth : ℕ) (s : SwitchState Arb) (none : held s.buffers ≡ 0) where
  idle_decisions : decisions net rule depth s ≡ record { grants = []; arbiter = s.arbiter }
  unfolding decisions
  idle_decisions = no_decisions (snap net depth s.cycles s.buffers) (all_empty s.buffers none) rule (visits net) (replicate (buffer_count net) false) s.arbiter

  -- The cycle makes no grant,
  pub idle_grants : (decisions net rule depth s).grants ≡ []
  idle_grants = ap (λ (ds : Decisions Arb). ds.grants) idle_decisions

  -- and leaves all but the number of cycles.
  abbrev counted : SwitchState Arb
  counted = record { buffers = s.buffers; taken = s.taken; delivered = s.delivered; hops = s.hops; cycles = s.cycles + 1; feed = s.feed; arbiter = s.arbiter }

  no_moves : cycled_by net (record { grants = []; arbiter = s.arbiter }) s ≡ counted
  unfolding cycled_by moves
  no_moves = λ i. record {
    buffers = s.buffers;
    taken = s.taken;
    delivered = add-zero s.delivered i;
    hops = add-zero s.hops i;
    cycles = s.cycles + 1;
    feed = s.feed;
    arbiter = s.arbiter;
  }

  pub idle_cycled : cycled_by net (decisions net rule depth s) s ≡ counted
  idle_cycled = ap (λ (ds : Decisions Arb). cycled_by net ds s) idle_decisions ∙ no_moves
