-- The law of runs, told from the history of a run. Assumes nothing.
use Rattle.std.specs.Prelude.{◌≡◌, ℕ, ◌+◌, ◌<◌, ◌≤◌, ◌⊎◌, List, [], ◌∷◌, ◌++◌, length, Some, None, sum_by}
use Rattle.std.specs.List.{AllByRecursion}
use Rattle.network.specs.Network.{Network}
use Rattle.network.specs.Laws.{Lawful}
use Rattle.network.specs.Walks.{Walk}
use Rattle.arbiter.specs.Rule.{Rule, Exists}
use Rattle.switch.specs.declared.grant.Grant.{Grant}
use Rattle.switch.specs.Places.{channel_count, buffer_count, upstream, port_of, location}
use Rattle.switch.specs.Buffers.{contents, work_left}
use Rattle.switch.specs.Calls.{SwitchState, Event, Call, Answer, Limits, Run, empty_switch, report_of, make_questions, first_refusal, perform, run}
use Rattle.switch.specs.Calls.Event.{injected, cycled, closed}
use Rattle.switch.specs.Calls.Call.{open_feed, inject, cycle, drain, close_feed}
use Rattle.switch.specs.Calls.Answer.{refused, done, number}
use Rattle.switch.specs.History.{injections, grants_in, cycles_in, drains_in, endpoints, own_distance, hop_count, delivery_count, hops_of, deliveries_of, grants_of, inside_in, work_in, report_in}

-- The grant is a hop over a link from n to m: the buffer that it joins receives from that link.
pub record HopOver (net : Network) (g : Grant) (n m : ℕ) : Type 0 where
  pub leaves : location net g.old ≡ Some n
  pub joins : location net g.new ≡ Some m
  pub linked : net.link n (port_of net g.new) ≡ Some m
  pub receives : (g.new < channel_count net) × (upstream net g.new ≡ n)

-- The grant is a delivery at d.
pub record DeliveryAt (net : Network) (g : Grant) (d : ℕ) : Type 0 where
  pub leaves : location net g.old ≡ Some d
  pub out : g.new ≡ buffer_count net

-- The grants of a packet for d, from where it stands on: hops over links, each from the node that the one before reached,
-- and at the end a delivery at d, unless the packet is inside.
pub data Journey (net : Network) (d : ℕ) : ℕ → List Grant → Type 0 where
  inside : {n : ℕ} → Journey net d n []
  delivered : (g : Grant) → DeliveryAt net g d → Journey net d d (g ∷ [])
  hop : {n m : ℕ} {gs : List Grant} (g : Grant) → HopOver net g n m → Journey net d m gs → Journey net d n (g ∷ gs)

-- Every packet taken in is delivered at most once, at its destination, by a shortest way.
pub record Once (net : Network) (h : List Event) : Type 0 where
  -- no other packet is granted anything
  pub known : AllByRecursion (λ g. g.packet < length (injections h)) (grants_in h)
  -- at most one delivery
  pub at_most_once : (k : ℕ) → k < length (injections h) → deliveries_of net k (grants_in h) ≤ 1
  -- its hops form a walk over the links from its source, and a delivery, if there is one, is at its destination and comes last
  pub journey : (k : ℕ) → k < length (injections h) → Journey net (endpoints h k).destination (endpoints h k).source (grants_of k (grants_in h))
  -- once delivered, it has made exactly as many hops as its distance
  pub exact : (k : ℕ) → k < length (injections h) → 0 < deliveries_of net k (grants_in h) → hops_of net k (grants_in h) ≡ own_distance net (endpoints h k)
  -- and every walk from its source to its destination has at least that many links
  pub shortest : (k links : ℕ) → k < length (injections h) → Walk net (endpoints h k).source (endpoints h k).destination links → own_distance net (endpoints h k) ≤ links

-- What holds of every performed cycle, of the history before it and its grants.
abbrev pub EachCycle : (List Event → List Grant → Type 0) → List Event → Type 0
EachCycle P h = (before after : List Event) (gs : List Grant) → h ≡ before ++ (cycled gs ∷ after) → P before gs

-- The work of all packets taken in was done or is left, and the switch counts what the history tells.
pub record Ledger {Arb : Type 0} (net : Network) (h : List Event) (s : SwitchState Arb) : Type 0 where
  pub balance : sum_by (λ e. own_distance net e + 1) (injections h) ≡ hop_count net (grants_in h) + delivery_count net (grants_in h) + work_in net h
  pub report : report_of s ≡ report_in net h
  pub work : work_left net s.buffers ≡ work_in net h
  -- each grant carries the number of its cycle
  pub numbered : EachCycle (λ before gs. AllByRecursion (λ g. g.cycle ≡ cycles_in before) gs) h

-- A performed call that answers nothing, by the events that it adds: an open adds none, and a close itself.
abbrev pub Done : List Event → Call → Type 0
Done events open_feed = events ≡ []
Done events (inject n d) = ⊥
Done events (cycle room) = ⊥
Done events drain = ⊥
Done events close_feed = events ≡ closed ∷ []

-- The cycles of a drain, after the history h: so many, each with a packet inside at its start, at most as many as the work
-- left before the drain.
pub record DrainedIn (net : Network) (h events : List Event) (k : ℕ) : Type 0 where
  pub cycles_made : k ≡ cycles_in events
  pub none_idle : EachCycle (λ before gs. 0 < inside_in net (h ++ before)) events
  pub at_most_work : k ≤ work_in net h
  pub one_drain : drains_in events ≡ 1

-- A performed call that answers the number k, after the history h and by the events that it adds: the packets taken in
-- before it; the hops and deliveries of its cycle; the cycles that a drain really made.
abbrev pub Counts : Network → List Event → List Event → Call → ℕ → Type 0
Counts net h events open_feed k = ⊥
Counts net h events (inject n d) k = (k ≡ length (injections h)) × (events ≡ injected (record { source = n; destination = d }) ∷ [])
Counts net h events (cycle room) k = (gs : List Grant) × (events ≡ cycled gs ∷ []) × (k ≡ hop_count net gs + delivery_count net gs)
Counts net h events drain k = DrainedIn net h events k
Counts net h events close_feed k = ⊥

-- What a call answers. A refused call adds no event, and leaves the state as it was.
abbrev pub Tells : {Arb : Type 0} → Network → List Event → List Event → SwitchState Arb → SwitchState Arb → Call → Answer → Type 0
Tells net h events before after c (refused k) = (events ≡ []) × (after ≡ before)
Tells net h events before after c done = Done events c
Tells net h events before after c (number k) = Counts net h events c k

-- Every performed cycle that begins with a packet inside, in a drain too, makes a hop or a delivery.
abbrev pub NeverLocks : Network → List Event → Type 0
NeverLocks net h = EachCycle (λ before gs. 0 < inside_in net before → 0 < hop_count net gs + delivery_count net gs) h

-- Nothing is inside, and every packet taken in was delivered exactly once.
pub record Drained (net : Network) (h : List Event) : Type 0 where
  pub nothing_inside : inside_in net h ≡ 0
  pub each_once : (k : ℕ) → k < length (injections h) → deliveries_of net k (grants_in h) ≡ 1

-- Once as many cycles as the performed close left work, or one drain, are performed after it, the switch is drained.
abbrev pub Drains : Network → List Event → Type 0
Drains net h = (before after : List Event) → h ≡ before ++ (closed ∷ after) → (work_in net before ≤ cycles_in after) ⊎ (0 < drains_in after) → Drained net h

-- The law of one run, over its history, the state that it leads to, and whichever call comes next.
pub record Law {Arb : Type 0} (limits : Limits) (net : Network) (rule : Rule Arb) (depth : ℕ) (r : Run Arb) : Type 0 where
  pub once : Once net r.history
  pub ledger : Ledger net r.history r.state
  pub answers : (c : Call) → let o = perform limits net rule depth c r.state in Tells net r.history o.events r.state o.state c o.answer
  pub never_locks : NeverLocks net r.history
  pub drains : Drains net r.history
  -- no buffer holds more packets than its depth
  pub capacity : (b : ℕ) → length (contents r.state.buffers b) ≤ depth

-- Every list of calls on a switch just made keeps the law, whatever its limits.
abbrev pub LawOfRuns : {Arb : Type 0} → Network → Rule Arb → ℕ → Arb → Type 0
LawOfRuns net rule depth a = (limits : Limits) (calls : List Call) → Law limits net rule depth (run limits net rule depth calls (empty_switch net a))

-- The law of runs, for an arbiter that keeps its law, over every lawful network, at every depth that make does not refuse.
abbrev pub SwitchLaw : {Arb : Type 0} → Rule Arb → Type 0
SwitchLaw {Arb} rule =
    Exists rule → (net : Network) → Lawful net → (depth : ℕ) → first_refusal (make_questions net depth) ≡ None → (a : Arb) → LawOfRuns net rule depth a
