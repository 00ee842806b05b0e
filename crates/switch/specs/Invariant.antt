-- The invariant of the switch: what holds of its state after a history. Assumes nothing.
use Rattle.std.specs.Prelude.{◌≡◌, ℕ, suc, ◌+◌, ◌<◌, ◌≤◌, cond, ◌⊎◌, List, [], ◌∷◌, ◌++◌, length, Some, sum_by, ◌==◌, slice_index_or}
use Rattle.std.specs.List.{AllByRecursion}
use Rattle.queue.specs.declared.packet.Packet.{Packet}
use Rattle.network.specs.declared.hop.Hop.{Hop}
use Rattle.network.specs.Network.{Network}
use Rattle.switch.specs.declared.feed_state.FeedState.TheVariants.{Closed}
use Rattle.switch.specs.declared.grant.Grant.{Grant}
use Rattle.switch.specs.Places.{channel_count, buffer_count, upstream, port_of, channel_of, location}
use Rattle.switch.specs.Buffers.{Buffers, contents, total_from, distance_from, work_left}
use Rattle.switch.specs.Calls.{SwitchState, Endpoints, Event}
use Rattle.switch.specs.Calls.Event.{closed}
use Rattle.switch.specs.History.{injections, grants_in, cycles_in, drains_in, no_endpoints, own_distance, hop_count, delivery_count, hops_of, deliveries_of, grants_of, position, work_of, sum_from, work_in}
use Rattle.switch.specs.Law.{HopOver, Journey, EachCycle, NeverLocks}

-- A packet for d in buffer b: where b belongs to the channel of escape class e, escape named that channel to it.
abbrev pub ByEscape : Network → ℕ → ℕ → Type 0
ByEscape net b d =
    (e : ℕ) → b < channel_count net → channel_of net b ≡ suc e
    → (h : Hop) × (net.escape (upstream net b) d ≡ Some h) × (h.port ≡ port_of net b) × (h.class ≡ e)

-- A packet in buffer b stands at a node, and is for a node.
pub record Placed (net : Network) (b : ℕ) (q : Packet) : Type 0 where
  pub at : ℕ
  pub stands : location net b ≡ Some at
  pub at_node : at < net.nodes
  pub bound : q.destination < net.nodes
  pub by_escape : ByEscape net b q.destination

-- P holds of every packet in the first n buffers.
abbrev pub InEach : (ℕ → Packet → Type 0) → ℕ → Buffers → Type 0
InEach P n bs = (b : ℕ) → b < n → AllByRecursion (P b) (contents bs b)

-- 1 for a packet with the number k, else 0.
abbrev pub is_number : ℕ → ℕ → Packet → ℕ
is_number k b q = cond (q.number == k) 1 0

-- How many packets the buffers hold.
unfoldable pub held : Buffers → ℕ
held bs = total_from (λ _ _. 1) 0 bs

-- The packet q in buffer b is what was taken in with its number, after the grants gs.
pub record Good (net : Network) (es : List Endpoints) (gs : List Grant) (b : ℕ) (q : Packet) : Type 0 where
  pub placed : Placed net b q
  pub known : q.number < length es
  pub ends_are : slice_index_or es q.number no_endpoints ≡ record { source = q.source; destination = q.destination }
  pub hops_are : q.hops ≡ hops_of net q.number gs
  pub position_is : location net b ≡ position net q.number (slice_index_or es q.number no_endpoints) gs
  pub left : q.hops + distance_from net (location net b) q.destination ≡ net.distance q.source q.destination

-- Hops over links from one node to another.
pub data Hops (net : Network) : ℕ → List Grant → ℕ → Type 0 where
  stay : {n : ℕ} → Hops net n [] n
  hop : {n m d : ℕ} {gs : List Grant} (g : Grant) → HopOver net g n m → Hops net m gs d → Hops net n (g ∷ gs) d

-- Packet k, which was taken in with the endpoints e, stands where its hops led, or was delivered.
abbrev pub Travelled : Network → ℕ → Endpoints → List Grant → Type 0
Travelled net k e gs =
    ((m : ℕ) × (position net k e gs ≡ Some m) × Hops net e.source (grants_of k gs) m)
    ⊎ ((0 < deliveries_of net k gs) × Journey net e.destination e.source (grants_of k gs))

-- The buffers are what the packets taken in and the grants leave.
pub record Consistent (net : Network) (es : List Endpoints) (gs : List Grant) (bs : Buffers) : Type 0 where
  pub sized : length bs ≡ buffer_count net
  pub good : InEach (Good net es gs) (buffer_count net) bs
  pub ends_in : AllByRecursion (λ e. (e.source < net.nodes) × (e.destination < net.nodes)) es
  pub known : AllByRecursion (λ g. g.packet < length es) gs
  -- each packet taken in is in one buffer, once, or was delivered once
  pub counted : (k : ℕ) → k < length es → total_from (is_number k) 0 bs + deliveries_of net k gs ≡ 1
  pub travelled : (k : ℕ) → k < length es → Travelled net k (slice_index_or es k no_endpoints) gs
  pub exact : (k : ℕ) → k < length es → 0 < deliveries_of net k gs → hops_of net k gs ≡ own_distance net (slice_index_or es k no_endpoints)
  pub inside_is : held bs + delivery_count net gs ≡ length es
  pub work_is : sum_from (work_of net gs) 0 es ≡ work_left net bs
  pub balance : sum_by (λ e. own_distance net e + 1) es ≡ hop_count net gs + delivery_count net gs + work_left net bs

-- What holds some events after a close that left so much work.
pub record SinceClose {Arb : Type 0} (net : Network) (work : ℕ) (after : List Event) (s : SwitchState Arb) : Type 0 where
  pub still_closed : s.feed ≡ Closed
  pub falls : (work_left net s.buffers + cycles_in after ≤ work) ⊎ (work_left net s.buffers ≡ 0)
  pub dry : 0 < drains_in after → work_left net s.buffers ≡ 0

abbrev pub Closing : {Arb : Type 0} → Network → List Event → SwitchState Arb → Type 0
Closing net h s = (before after : List Event) → h ≡ before ++ (closed ∷ after) → SinceClose net (work_in net before) after s

-- The state s is what the history h leaves.
pub record Invariant {Arb : Type 0} (net : Network) (depth : ℕ) (h : List Event) (s : SwitchState Arb) : Type 0 where
  pub consistent : Consistent net (injections h) (grants_in h) s.buffers
  pub taken_is : s.taken ≡ length (injections h)
  pub delivered_is : s.delivered ≡ delivery_count net (grants_in h)
  pub hops_is : s.hops ≡ hop_count net (grants_in h)
  pub cycles_is : s.cycles ≡ cycles_in h
  pub numbered : EachCycle (λ before gs. AllByRecursion (λ g. g.cycle ≡ cycles_in before) gs) h
  pub never_locks : NeverLocks net h
  pub closing : Closing net h s
  pub capacity : (b : ℕ) → length (contents s.buffers b) ≤ depth
