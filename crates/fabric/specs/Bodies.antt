-- The state of the switch that the body of a fabric holds, and what keeps it. Assumes nothing.
use Rattle.std.specs.Prelude.{◌≡◌, ℕ, ◌+◌, List, [], ◌∷◌, ◌++◌}
use Rattle.queue.specs.Contents.{contents, Sound, Empty, Changed}
use Rattle.network.specs.Network.{Network}
use Rattle.switch.specs.declared.feed_state.FeedState.TheVariants.{Unopened}
use Rattle.switch.specs.Calls.{SwitchState, Event}
use Rattle.switch.specs.Invariant.{Invariant}
use Rattle.cycle.specs.declared.sizes.Sizes.{Sizes}
use Rattle.cycle.specs.Measures.{buffers_in}
use Rattle.fabric.specs.declared.body.Body.{Body}

-- The state of the switch.
abbrev pub state_in : {Arb : Type 0} → Arb → Body → SwitchState Arb
state_in a body = record {
  buffers = buffers_in body.sizes body.queues;
  taken = body.taken;
  delivered = body.delivered;
  hops = body.hops;
  cycles = body.cycles;
  feed = body.feed;
  arbiter = a;
}

-- The state is what some history leaves.
pub record Reached {Arb : Type 0} (net : Network) (a : Arb) (body : Body) : Type 0 where
  pub history : List Event
  pub invariant : Invariant net body.sizes.depth history (state_in a body)

-- A body that holds nothing yet.
pub record NewBody (sizes : Sizes) (body : Body) : Type 0 where
  pub sizes_is : body.sizes ≡ sizes
  pub empty : Empty body.queues
  pub taken_is : body.taken ≡ 0
  pub delivered_is : body.delivered ≡ 0
  pub hops_is : body.hops ≡ 0
  pub cycles_is : body.cycles ≡ 0
  pub feed_is : body.feed ≡ Unopened

-- A packet was taken into the buffer b, and nothing else changed.
pub record TakenIn (b source destination : ℕ) (old new : Body) : Type 0 where
  pub sizes_is : new.sizes ≡ old.sizes
  pub changed : Changed old.queues new.queues old.sizes.depth b
      (contents old.queues old.sizes.depth b ++ (record { number = old.taken; source = source; destination = destination; hops = 0 } ∷ []))
  pub sound : Sound new.queues old.sizes.depth
  pub taken_is : new.taken ≡ old.taken + 1
  pub delivered_is : new.delivered ≡ old.delivered
  pub hops_is : new.hops ≡ old.hops
  pub cycles_is : new.cycles ≡ old.cycles
  pub feed_is : new.feed ≡ old.feed
