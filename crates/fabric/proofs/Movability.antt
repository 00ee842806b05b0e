-- The grants of a cycle can be carried out one after another. Assumes nothing.
use Rattle.std.proofs.Common.{◌≡◌, ℕ, ◌<◌, ◌≤◌, Bool, true, false, List, [], ◌∷◌, ◌++◌, length, drop, set, replicate, sym, ap, subst, inl, inr, arith}
use mathlib.Core.HLevel.{Unit-prop}
use native.Mathlib.Bridge.{le_prop}
use lib.ListN.{length-replicate}
use Rattle.std.specs.List.{AllByRecursion}
use Rattle.std.proofs.ByRecursion.{All-weaker}
use Rattle.std.proofs.lemmas.List.{append-nil}
use Rattle.queue.specs.declared.packet.Packet.{Packet}
use Rattle.network.specs.Network.{Network}
use Rattle.network.specs.Laws.{Lawful}
use Rattle.network.proofs.Consequences.{bounds_of}
use Rattle.arbiter.specs.Rule.{Rule, Exists}
use Rattle.switch.specs.declared.grant.Grant.{Grant}
use Rattle.switch.specs.Places.{buffer_count}
use Rattle.switch.specs.Buffers.{Buffers, contents}
use Rattle.switch.specs.Cycle.{Snapshot, move}
use Rattle.switch.specs.Calls.{SwitchState, Endpoints, Event, decisions}
use Rattle.switch.specs.History.{injections, grants_in}
use Rattle.switch.specs.Invariant.{Good, Consistent, Invariant}
use Rattle.switch.proofs.Numbering.{channels_le}
use Rattle.switch.proofs.Progress.{snap}
use Rattle.switch.proofs.Deciding.{Fit, Free, Onward, Ready, cycle_ready}
use Rattle.switch.proofs.Granting.{grant_step}
use Rattle.switch.proofs.Moving.{Moved, fit_on, moved_on, leave_short}
use Rattle.cycle.specs.declared.sizes.Sizes.{Sizes}
use Rattle.cycle.specs.Measures.{Fits}
use Rattle.cycle.specs.Moves.{Movable, AllMovable}
use Rattle.fabric.proofs.Reaching.{count_fits}

-- That grants can be carried out holds in one way only.
few_hops_prop : (qs : List Packet) → IsProp (AllByRecursion (λ (q : Packet). q.hops ≤ 64) qs)
few_hops_prop [] p q = Unit-prop p q
few_hops_prop (x ∷ xs) p q = λ i. (le_prop p.0 q.0 i, few_hops_prop xs p.1 q.1 i)

movable_prop : (sizes : Sizes) (bs : Buffers) (g : Grant) → IsProp (Movable sizes bs g)
movable_prop sizes bs g p q = λ i. record {
  old_under = le_prop p.old_under q.old_under i;
  new_under = le_prop p.new_under q.new_under i;
  room = λ h. le_prop (p.room h) (q.room h) i;
  few_hops = few_hops_prop (contents bs g.old) p.few_hops q.few_hops i;
}

pub all_movable_prop : (sizes : Sizes) (bs : Buffers) (gs : List Grant) → IsProp (AllMovable sizes bs gs)
all_movable_prop sizes bs [] p q = Unit-prop p q
all_movable_prop sizes bs (g ∷ gs) p q = λ i. (movable_prop sizes bs g p.0 q.0 i, all_movable_prop sizes (move sizes.buffers bs g) gs p.1 q.1 i)

module _ (net : Network) (law : Lawful net) (es : List Endpoints) (sizes : Sizes) (fits : Fits net sizes) (now : ℕ) (bs : Buffers) where
  abbrev start : Snapshot
  start = snap net sizes.depth now bs

  onward_under : (from c d : ℕ) → Onward net from c d → c ≤ buffer_count net
  onward_under from c d (inl o) = let e = o.0 in omega arith
  onward_under from c d (inr h) = omega (arith, h.1.under, channels_le net)

  -- A packet in a buffer has made no more hops than its distance.
  few_hops_in : (gs₀ : List Grant) (b : ℕ) (q : Packet) → Good net es gs₀ b q → q.hops ≤ 64
  few_hops_in gs₀ b q good = let a = good.left in let d = (bounds_of net law).distance_bound q.source q.destination in omega arith

  -- The buffer that the next grant leads to has room, once its packet has left.
  room_left : (bs' : Buffers) (granted : List Bool) (joined : List ℕ) → Moved start granted joined bs' → (g : Grant) → Fit net bs' g → g.new < buffer_count net → Free start joined g.new
      → length (contents (set bs' g.old (drop 1 (contents bs' g.old))) g.new) < sizes.depth
  room_left bs' granted joined moved g f h (inl e) = absurd (let z : ⊥ = omega arith in z)
  room_left bs' granted joined moved g f h (inr e) =
      let a = moved.short g.new e.1 in
      let b = leave_short bs' g.old g.new f.head f.rest f.contents_is in
      let c = e.0 in
      let d : length (contents (set bs' g.old (drop 1 (contents bs' g.old))) g.new) ≡ length (contents (set bs' g.old f.rest) g.new)
      = ap (λ (xs : List Packet). length (contents (set bs' g.old (drop 1 xs)) g.new)) f.contents_is in
      omega arith

  ready_movable : (gs : List Grant) (granted : List Bool) (joined : List ℕ) (bs' : Buffers) (gs₀ : List Grant) → Ready start granted joined gs → Moved start granted joined bs'
      → Consistent net es gs₀ bs' → AllMovable sizes bs' gs
  ready_movable [] granted joined bs' gs₀ ready moved inv = tt
  ready_movable (g ∷ gs) granted joined bs' gs₀ ready moved inv =
      let r = ready.0 in
      let f = fit_on start granted joined bs' moved g r.2 r.0 in
      let e = fits.measured.buffers_is in
      let u = f.old_under in
      let rest = ready_movable gs (set granted g.old true) (g.new ∷ joined) (move (buffer_count net) bs' g) (gs₀ ++ (g ∷ [])) ready.1
      (moved_on start granted joined bs' moved g r.2 f r.3) (grant_step net law es gs₀ bs' inv g f) in (
        record {
          old_under = omega arith;
          new_under = omega (arith, onward_under f.from g.new f.head.destination f.onward);
          room = λ h. room_left bs' granted joined moved g f (omega arith) r.3;
          few_hops = All-weaker (Good net es gs₀ g.old) (λ (q : Packet). q.hops ≤ 64) (few_hops_in gs₀ g.old) (contents bs' g.old) (inv.good g.old u);
        },
        subst (λ (x : ℕ). AllMovable sizes (move x bs' g) gs) (sym e) rest,
      )

-- The grants of a cycle of a switch that keeps its invariant.
pub cycle_movable : {Arb : Type 0} (net : Network) → Lawful net → (rule : Rule Arb) → Exists rule → (sizes : Sizes) → Fits net sizes → (h : List Event) (s : SwitchState Arb) → Invariant net sizes.depth h s
    → AllMovable sizes s.buffers (decisions net rule sizes.depth s).grants
unfolding decisions
cycle_movable net law rule exists sizes fits h s inv =
    ready_movable net law (injections h) sizes fits s.cycles s.buffers (decisions net rule sizes.depth s).grants (replicate (buffer_count net) false) [] s.buffers (grants_in h)
    (cycle_ready net law rule exists sizes.depth s.cycles s.buffers s.arbiter (count_fits net sizes fits))
    (record {
      sized = inv.consistent.sized;
      flags = length-replicate (buffer_count net) false;
      front = λ b _. ([], sym (append-nil (contents s.buffers b)));
      short = λ b _. omega arith;
      within = inv.capacity;
    })
    inv.consistent
