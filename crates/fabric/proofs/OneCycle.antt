-- One cycle in memory is one of the definition, from the truncated invariant. Assumes nothing.
use Rattle.std.proofs.Common.{◌≡◌, ℕ, ◌+◌, ◌-◌, ◌*◌, ◌≤◌, not, eqb, List, [], ◌∷◌, ◌++◌, length, take, sum_by, count_by, sym, refl, ap, ◌∙◌, subst, ap₂, arith}
use mathlib.Core.Logic.{∥∥₁_elim}
use native.Mathlib.Bridge.{le_prop}
use native.Mathlib.Nat.{ℕ_set}
use Rattle.std.proofs.lemmas.List.{length-take-le}
use Rattle.std.proofs.lemmas.List.Sums.{sum_by-cons}
use Rattle.queue.specs.declared.queues.Queues.{Queues}
use Rattle.queue.specs.Contents.{Sound}
use Rattle.table.specs.TableLaws.{table_lawful}
use Rattle.network.specs.Network.{Network}
use Rattle.network.specs.Laws.{Lawful}
use Rattle.network.proofs.Consequences.{bounds_of}
use Rattle.arbiter.specs.Rule.{Rule, Exists}
use Rattle.switch.specs.declared.grant.Grant.{Grant}
use Rattle.switch.specs.Places.{buffer_count}
use Rattle.switch.specs.Cycle.{delivers, moves}
use Rattle.switch.specs.Calls.{Endpoints, inside, decisions, cycled_by}
use Rattle.switch.specs.Calls.Event.{cycled}
use Rattle.switch.specs.History.{injections, own_distance}
use Rattle.switch.specs.Invariant.{held}
use Rattle.switch.proofs.Histories.{hops_and_deliveries}
use Rattle.switch.proofs.Keeping.{cycled_once, inside_held}
use Rattle.cycle.specs.Measures.{buffers_in, start_of}
use Rattle.cycle.specs.Moves.{AllMovable, AllMoved}
use Rattle.cycle.specs.Decided.{Decided}
use Rattle.fabric.specs.declared.body.Body.{Body}
use Rattle.fabric.specs.declared.fabric.Fabric.{Fabric}
use Rattle.fabric.specs.Bodies.{state_in}
use Rattle.fabric.specs.Traces.{Traced}
use Rattle.fabric.specs.Fabrics.{network_in, state_of}
use Rattle.fabric.proofs.Reaching.{count_fits}
use Rattle.fabric.proofs.Movability.{all_movable_prop, cycle_movable}
use Rattle.fabric.proofs.Idling.{idle_grants, idle_cycled}

-- A cycle was performed.
pub record Turned {Arb : Type 0} (net : Network) (rule : Rule Arb) (a b : Arb) (old new : Body) (before after : List Grant) (count : ℕ) : Type 0 where
  pub sizes_is : new.sizes ≡ old.sizes
  pub sound : Sound new.queues old.sizes.depth
  pub state_is : state_in b new ≡ cycled_by net (decisions net rule old.sizes.depth (state_in a old)) (state_in a old)
  pub traced : Traced (decisions net rule old.sizes.depth (state_in a old)).grants before after count

distances_few : (net : Network) → Lawful net → (es : List Endpoints) → sum_by (λ e. own_distance net e + 1) es ≤ 65 * length es
distances_few net law [] = omega arith
distances_few net law (e ∷ es) =
    let a = sum_by-cons (λ x. own_distance net x + 1) e es in
    let b = (bounds_of net law).distance_bound e.source e.destination in
    let c = distances_few net law es in
    omega arith

module _ {R A : Type 0} (f : Fabric R A) (rule : Rule A) (exists : Exists rule) where
  abbrev net : Network
  net = network_in f

  law : Lawful net
  law = table_lawful f.table

  abbrev gs : List Grant
  gs = (decisions net rule f.body.sizes.depth (state_of f)).grants

  movable : AllMovable f.body.sizes (buffers_in f.body.sizes f.body.queues) gs
  movable =
      ∥∥₁_elim f.reached (all_movable_prop f.body.sizes (buffers_in f.body.sizes f.body.queues) gs)
      (λ r. cycle_movable net law rule exists f.body.sizes f.fits r.history (state_of f) r.invariant)

  -- The hops are few.
  hops_fit : f.body.hops + count_by (λ g. not (delivers net g)) gs ≤ 65 * f.body.taken
  unfolding cycled_by
  hops_fit =
      ∥∥₁_elim f.reached le_prop
      (λ r.
      let o = cycled_once net law rule exists f.body.sizes.depth f.fits.deep (count_fits net f.body.sizes f.fits) r.history (state_of f) r.invariant in
      let x = o.hops_is in
      let y = o.taken_is in
      let z = o.consistent.balance in
      let t = distances_few net law (injections (r.history ++ (cycled gs ∷ []))) in
      omega arith)

  -- With nothing inside.
  module _ (empty : inside (state_of f) ≡ 0) where
    nothing_held : held (buffers_in f.body.sizes f.body.queues) ≡ 0
    nothing_held =
        ∥∥₁_elim f.reached (ℕ_set _ _)
        (λ r.
        let i = inside_held net law rule exists f.body.sizes.depth f.fits.deep (count_fits net f.body.sizes f.fits) r.history (state_of f) r.invariant in
        omega arith)

    pub turned_idle : (trace : List Grant)
        → Turned net rule f.arbiter f.arbiter f.body (record { sizes = f.body.sizes; queues = f.body.queues; taken = f.body.taken; delivered = f.body.delivered; hops = f.body.hops; cycles = f.body.cycles + 1; feed = f.body.feed }) trace trace 0
    turned_idle trace =
        let e = idle_grants net rule f.body.sizes.depth (state_of f) nothing_held in
        record {
          sizes_is = refl;
          sound = f.sound;
          state_is = sym (idle_cycled net rule f.body.sizes.depth (state_of f) nothing_held);
          traced = record { count_is = ap (λ (xs : List Grant). length xs) (sym e); front = sym e; rest = refl };
        }

  -- Over the trace that the decisions left.
  module _ (b : A) (before after : List Grant) (count : ℕ) (decided : Decided (start_of net f.body.sizes f.body.cycles f.body.queues) rule f.arbiter b before after count) where
    front_is : take count after ≡ gs
    unfolding decisions
    front_is = decided.front

    count_is : count ≡ length gs
    count_is = sym (length-take-le count after decided.few) ∙ ap (λ (xs : List Grant). length xs) front_is

    slice_is : take (count - 0) after ≡ gs
    slice_is = ap (λ (n : ℕ). take n after) (let z : count - 0 ≡ count = omega arith in z) ∙ front_is

    pub can_move : AllMovable f.body.sizes (buffers_in f.body.sizes f.body.queues) (take (count - 0) after)
    can_move = subst (λ (xs : List Grant). AllMovable f.body.sizes (buffers_in f.body.sizes f.body.queues) xs) (sym slice_is) movable

    module _ (queues : Queues) (delivered : ℕ) (moved : AllMoved f.body.sizes f.body.queues queues (take (count - 0) after) delivered) where
      buffers_is : f.body.sizes.buffers ≡ buffer_count net
      buffers_is = f.fits.measured.buffers_is

      deliveries_are : delivered ≡ count_by (delivers net) gs
      deliveries_are = moved.delivered_is ∙ ap₂ (λ (x : ℕ) (xs : List Grant). count_by (λ (g : Grant). eqb g.new x) xs) buffers_is slice_is

      hops_are : count ≡ count_by (λ g. not (delivers net g)) gs + delivered
      hops_are = let x = count_is in let y = hops_and_deliveries net gs in let z = deliveries_are in omega arith

      -- The sum of the hops stays small,
      pub hops_small : f.body.hops + (count - delivered) ≤ 65 * f.body.taken
      hops_small = let x = hops_are in let y = hops_fit in omega arith

      -- and the cycle was performed.
      pub turned_by :
          Turned net rule f.arbiter b f.body
          (record { sizes = f.body.sizes; queues = queues; taken = f.body.taken; delivered = f.body.delivered + delivered; hops = f.body.hops + (count - delivered); cycles = f.body.cycles + 1; feed = f.body.feed })
          before after count
      unfolding cycled_by decisions
      turned_by =
          let h : count - delivered ≡ count_by (λ g. not (delivers net g)) gs = let x = hops_are in omega arith in
          record {
            sizes_is = refl;
            sound = moved.in_turn.sound;
            state_is = λ i. record {
              buffers = (moved.in_turn.buffers_are ∙ ap₂ (λ (x : ℕ) (xs : List Grant). moves x (buffers_in f.body.sizes f.body.queues) xs) buffers_is slice_is) i;
              taken = f.body.taken;
              delivered = f.body.delivered + deliveries_are i;
              hops = f.body.hops + h i;
              cycles = f.body.cycles + 1;
              feed = f.body.feed;
              arbiter = decided.arbiter_is i;
            };
            traced = record { count_is = count_is; front = front_is; rest = decided.rest };
          }
