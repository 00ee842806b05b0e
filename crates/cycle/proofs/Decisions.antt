-- The visits of a cycle, one after another: what stands in the trace, and what is left to decide, are all the decisions.
-- Assumes nothing.
use Rattle.std.proofs.Common.{◌≡◌, ℕ, suc, ◌+◌, ◌-◌, ◌*◌, ◌<◌, ◌≤◌, Bool, true, false, List, [], ◌∷◌, ◌++◌, length, take, drop, set, replicate, Some, None, Option, sym, refl, ap, ◌∙◌, subst, ap₂, mul-le-mul_right, arith, length-set}
use lib.Seq.{append_snoc}
use Rattle.std.proofs.lemmas.List.{take_more_set, append-nil, drop-set-lt, drop-drop}
use Rattle.network.specs.Network.{Network}
use Rattle.network.specs.Laws.{Bounds}
use Rattle.arbiter.specs.Rule.{Rule}
use Rattle.queue.specs.declared.queues.Queues.{Queues}
use Rattle.switch.specs.declared.grant.Grant.{Grant}
use Rattle.switch.specs.Places.{buffer_count}
use Rattle.switch.specs.Cycle.{Snapshot, Visit, Decisions, requests, cons_some, chosen, next_arbiter, mark, decide, node_visits, visits_from, visits}
use Rattle.switch.proofs.Deciding.{length_visits}
use Rattle.cycle.specs.declared.sizes.Sizes.{Sizes}
use Rattle.cycle.specs.Measures.{Fits, start_of, visit_of}
use Rattle.cycle.specs.Decided.{all_decisions, Decided}

-- The visits from node n on; and those from port p of node n on.
abbrev pub from_node : Sizes → ℕ → List Visit
from_node sizes n = visits_from (sizes.ports + 1) (sizes.nodes - n) n

abbrev pub from_port : Sizes → ℕ → ℕ → List Visit
from_port sizes n p = node_visits n (sizes.ports + 1 - p) p ++ from_node sizes (n + 1)

first_port : (sizes : Sizes) (n : ℕ) → n < sizes.nodes → from_node sizes n ≡ from_port sizes n 0
unfolding visits_from
first_port sizes n h =
    ap (λ (k : ℕ). visits_from (sizes.ports + 1) k n) (let e : sizes.nodes - n ≡ suc (sizes.nodes - (n + 1)) = omega arith in e)
    ∙ ap₂ (λ (k m : ℕ). node_visits n k 0 ++ visits_from (sizes.ports + 1) (sizes.nodes - (n + 1)) m) (let e : sizes.ports + 1 ≡ sizes.ports + 1 - 0 = omega arith in e) (let e : suc n ≡ n + 1 = omega arith in e)

next_port : (sizes : Sizes) (n p : ℕ) → p < sizes.ports + 1 → from_port sizes n p ≡ visit_of n p ∷ from_port sizes n (p + 1)
unfolding node_visits
next_port sizes n p h =
    ap (λ (k : ℕ). node_visits n k p ++ from_node sizes (n + 1)) (let e : sizes.ports + 1 - p ≡ suc (sizes.ports + 1 - (p + 1)) = omega arith in e)
    ∙ ap (λ (q : ℕ). visit_of n p ∷ (node_visits n (sizes.ports + 1 - (p + 1)) q ++ from_node sizes (n + 1))) (let e : suc p ≡ p + 1 = omega arith in e)

no_port : (sizes : Sizes) (n p : ℕ) → sizes.ports + 1 ≤ p → from_port sizes n p ≡ from_node sizes (n + 1)
unfolding node_visits
no_port sizes n p h = ap (λ (k : ℕ). node_visits n k p ++ from_node sizes (n + 1)) (let e : sizes.ports + 1 - p ≡ 0 = omega arith in e)

no_node : (sizes : Sizes) (n : ℕ) → sizes.nodes ≤ n → from_node sizes n ≡ []
unfolding visits_from
no_node sizes n h = ap (λ (k : ℕ). visits_from (sizes.ports + 1) k n) (let e : sizes.nodes - n ≡ 0 = omega arith in e)

all_visits : (net : Network) (sizes : Sizes) → Fits net sizes → visits net ≡ from_node sizes 0
all_visits net sizes fits =
    ap₂ (λ (k m : ℕ). visits_from k m 0) (ap (λ (x : ℕ). x + 1) (sym fits.measured.ports_is)) (sym fits.measured.nodes_is ∙ (let e : sizes.nodes ≡ sizes.nodes - 0 = omega arith in e))

length_all : (sizes : Sizes) → length (from_node sizes 0) ≡ sizes.nodes * (sizes.ports + 1)
length_all sizes = length_visits (sizes.ports + 1) (sizes.nodes - 0) 0 ∙ ap (λ (x : ℕ). x * (sizes.ports + 1)) (let e : sizes.nodes - 0 ≡ sizes.nodes = omega arith in e)

pub visits_few : (net : Network) → Bounds net → (sizes : Sizes) → Fits net sizes → sizes.nodes * (sizes.ports + 1) ≤ 448
visits_few net bounds sizes fits =
    let a = fits.measured.nodes_is in
    let b = fits.measured.ports_is in
    let m : sizes.nodes * (sizes.ports + 1) ≤ 64 * (sizes.ports + 1) = mul-le-mul_right (sizes.ports + 1) (omega (arith, bounds.nodes_bound)) in
    omega (arith, bounds.ports_bound)

-- The state of the decisions: the visits vs are left.
pub record Deciding {Arb : Type 0} (start : Snapshot) (rule : Rule Arb) (all : Decisions Arb) (old trace : List Grant) (count : ℕ) (granted : List Bool) (a : Arb) (vs : List Visit) : Type 0 where
  pub front : take count trace ++ (decide start rule vs granted a).grants ≡ all.grants
  pub after : (decide start rule vs granted a).arbiter ≡ all.arbiter
  pub rest : drop count trace ≡ drop count old
  pub long : length trace ≡ length old
  pub few : count + length vs ≤ length old
  pub small : count + length vs ≤ 448

module _ {Arb : Type 0} (start : Snapshot) (rule : Rule Arb) (all : Decisions Arb) (old trace : List Grant) (count : ℕ) (granted : List Bool) (a a' : Arb) (v : Visit) (vs : List Visit)
    (inv : Deciding start rule all old trace count granted a (v ∷ vs))
    (after : a' ≡ next_arbiter start.network rule v a (requests start granted v)) where
  -- what the visit decides, and then the rest
  decide_next : (answer : Option Grant) → answer ≡ chosen start.network rule v a (requests start granted v)
      → decide start rule (v ∷ vs) granted a
      ≡ record { grants = cons_some answer (decide start rule vs (mark answer granted) a').grants; arbiter = (decide start rule vs (mark answer granted) a').arbiter }
  unfolding decide
  decide_next answer e =
      ap₂ (λ (x : Option Grant) (b : Arb). record { grants = cons_some x (decide start rule vs (mark x granted) b).grants; arbiter = (decide start rule vs (mark x granted) b).arbiter }) (sym e) (sym after)

  pub deciding_none : None ≡ chosen start.network rule v a (requests start granted v) → Deciding start rule all old trace count granted a' vs
  deciding_none e =
      let d = decide_next None e in
      record {
        front = ap (λ (r : Decisions Arb). take count trace ++ r.grants) (sym d) ∙ inv.front;
        after = ap (λ (r : Decisions Arb). r.arbiter) (sym d) ∙ inv.after;
        rest = inv.rest;
        long = inv.long;
        few = omega (arith, inv.few);
        small = omega (arith, inv.small);
      }

  pub deciding_some : (g : Grant) → Some g ≡ chosen start.network rule v a (requests start granted v)
      → Deciding start rule all old (set trace count g) (count + 1) (set granted g.old true) a' vs
  deciding_some g e =
      let d = decide_next (Some g) e in
      let lt : count < length trace = omega (arith, inv.few, inv.long) in
      record {
        front =
            ap (λ (ts : List Grant). ts ++ (decide start rule vs (set granted g.old true) a').grants) (take_more_set trace count g lt)
            ∙ append_snoc (take count trace) g (decide start rule vs (set granted g.old true) a').grants
            ∙ ap (λ (r : Decisions Arb). take count trace ++ r.grants) (sym d) ∙ inv.front;
        after = ap (λ (r : Decisions Arb). r.arbiter) (sym d) ∙ inv.after;
        rest = drop-set-lt (count + 1) trace count g (omega arith) ∙ (sym (drop-drop 1 count trace) ∙ (ap (drop 1) inv.rest ∙ drop-drop 1 count old));
        long = length-set trace count g ∙ inv.long;
        few = omega (arith, inv.few);
        small = omega (arith, inv.small);
      }

-- Before the first visit, with no buffer granted.
pub deciding_start : {Arb : Type 0} (net : Network) → Bounds net → (sizes : Sizes) → Fits net sizes → (rule : Rule Arb) (now : ℕ) (queues : Queues) (a : Arb) (trace : List Grant) (t : ℕ) (granted : List Bool)
    → t ≡ sizes.buffers → granted ≡ replicate t false → sizes.nodes * (sizes.ports + 1) ≤ length trace
    → Deciding (start_of net sizes now queues) rule (all_decisions (start_of net sizes now queues) rule a) trace trace 0 granted a (from_node sizes 0)
deciding_start net bounds sizes fits rule now queues a trace t granted long none room =
    let e = all_visits net sizes fits in
    let g : granted ≡ replicate (buffer_count net) false = none ∙ ap (λ (k : ℕ). replicate k false) (long ∙ fits.measured.buffers_is) in
    let d : decide (start_of net sizes now queues) rule (from_node sizes 0) granted a ≡ all_decisions (start_of net sizes now queues) rule a =
    ap₂ (λ (vs : List Visit) (gs : List Bool). decide (start_of net sizes now queues) rule vs gs a) (sym e) g in
    record {
      front = ap (λ r. r.grants) d;
      after = ap (λ r. r.arbiter) d;
      rest = refl;
      long = refl;
      few = omega (arith, length_all sizes);
      small = omega (arith, length_all sizes, visits_few net bounds sizes fits);
    }

-- After the last node.
pub deciding_end : {Arb : Type 0} (start : Snapshot) (rule : Rule Arb) (sizes : Sizes) (n : ℕ) (b a : Arb) (old trace : List Grant) (count : ℕ) (granted : List Bool) → sizes.nodes ≤ n
    → Deciding start rule (all_decisions start rule b) old trace count granted a (from_node sizes n) → Decided start rule b a old trace count
unfolding decide
deciding_end start rule sizes n b a old trace count granted h inv =
    let d = subst (Deciding start rule (all_decisions start rule b) old trace count granted a) (no_node sizes n h) inv in
    record { front = sym (append-nil (take count trace)) ∙ d.front; rest = d.rest; arbiter_is = d.after; few = omega (arith, d.few, d.long) }

-- A turn at a port, from what held when the node was entered.
module _ {Arb : Type 0} {start : Snapshot} {rule : Rule Arb} {all : Decisions Arb} {old first trace : List Grant} {count₁ count : ℕ} {granted₁ granted : List Bool} {a₁ a : Arb} (sizes : Sizes) (n p : ℕ)
    (node : n < sizes.nodes)
    (entered : Deciding start rule all old first count₁ granted₁ a₁ (from_node sizes n))
    (on : Deciding start rule all old first count₁ granted₁ a₁ (from_port sizes n 0) → Deciding start rule all old trace count granted a (from_port sizes n p)) where
  here : Deciding start rule all old trace count granted a (from_port sizes n p)
  here = on (subst (Deciding start rule all old first count₁ granted₁ a₁) (first_port sizes n node) entered)

  pub at_port : p < sizes.ports + 1 → Deciding start rule all old trace count granted a (visit_of n p ∷ from_port sizes n (p + 1))
  at_port h = subst (Deciding start rule all old trace count granted a) (next_port sizes n p h) here

  pub past_ports : sizes.ports + 1 ≤ p → Deciding start rule all old trace count granted a (from_node sizes (n + 1))
  past_ports h = subst (Deciding start rule all old trace count granted a) (no_port sizes n p h) here

pub next_visit : {Arb : Type 0} {start : Snapshot} {rule : Rule Arb} {all : Decisions Arb} {old trace : List Grant} {count : ℕ} {granted : List Bool} {a : Arb} (sizes : Sizes) (n p : ℕ)
    → p < sizes.ports + 1 → Deciding start rule all old trace count granted a (from_port sizes n p) → Deciding start rule all old trace count granted a (visit_of n p ∷ from_port sizes n (p + 1))
next_visit {Arb} {start} {rule} {all} {old} {trace} {count} {granted} {a} sizes n p h d = subst (Deciding start rule all old trace count granted a) (next_port sizes n p h) d
