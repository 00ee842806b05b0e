-- The state of the switch, and its calls: what each asks first, what it answers, and what it does. Assumes nothing.
use Rattle.std.specs.Prelude.{ℕ, zero, suc, ◌+◌, ◌-◌, ◌*◌, Bool, true, false, cond, not, ◌&&◌, List, [], ◌∷◌, ◌++◌, length, replicate, Some, None, Ok, Err, count_by, Option, Result, ◌==◌, nat_le, nat_lt}
use Rattle.network.specs.Network.{Network}
use Rattle.arbiter.specs.Rule.{Rule}
use Rattle.switch.specs.declared.feed_state.FeedState.{FeedState}
use Rattle.switch.specs.declared.feed_state.FeedState.TheVariants.{Unopened, Open, Closed}
use Rattle.switch.specs.declared.grant.Grant.{Grant}
use Rattle.switch.specs.declared.report.Report.{Report}
use Rattle.switch.specs.Places.{buffer_count, injection_buffer}
use Rattle.switch.specs.Buffers.{Buffers, contents, enqueue, work_left}
use Rattle.switch.specs.Cycle.{Decisions, decide, visits, moves, delivers}

-- The state of the switch, with an arbiter in a state of type Arb: the buffers, the packets taken in and delivered, the
-- hops made, the cycles performed, the feed, and the arbiter's state.
pub record SwitchState (Arb : Type 0) : Type 0 where
  pub buffers : Buffers
  pub taken : ℕ
  pub delivered : ℕ
  pub hops : ℕ
  pub cycles : ℕ
  pub feed : FeedState
  pub arbiter : Arb

abbrev pub empty_switch : {Arb : Type 0} → Network → Arb → SwitchState Arb
empty_switch net a =
    record { buffers = replicate (buffer_count net) []; taken = 0; delivered = 0; hops = 0; cycles = 0; feed = Unopened; arbiter = a }

-- How many packets were taken in and not delivered.
abbrev pub inside : {Arb : Type 0} → SwitchState Arb → ℕ
inside s = s.taken - s.delivered

-- What the report tells.
abbrev pub report_of : {Arb : Type 0} → SwitchState Arb → Report
report_of s = record { taken = s.taken; delivered = s.delivered; hops = s.hops; cycles = s.cycles; inside = inside s }

-- The decisions of the next cycle, all from the state at its start,
unfoldable pub decisions : {Arb : Type 0} → Network → Rule Arb → ℕ → SwitchState Arb → Decisions Arb
decisions net rule depth s =
    decide (record { network = net; depth = depth; cycle = s.cycles; buffers = s.buffers }) rule (visits net) (replicate (buffer_count net) false) s.arbiter

-- and the state after it.
unfoldable pub cycled_by : {Arb : Type 0} → Network → Decisions Arb → SwitchState Arb → SwitchState Arb
cycled_by net ds s = record {
  buffers = moves (buffer_count net) s.buffers ds.grants;
  taken = s.taken;
  delivered = s.delivered + count_by (delivers net) ds.grants;
  hops = s.hops + count_by (λ g. not (delivers net g)) ds.grants;
  cycles = s.cycles + 1;
  feed = s.feed;
  arbiter = ds.arbiter;
}

-- The nodes that a packet comes from and goes to.
pub record Endpoints : Type 0 where
  pub source : ℕ
  pub destination : ℕ

-- What is told of a run: a packet taken in, a performed cycle with its grants, those of a drain too, a performed drain,
-- and a performed close.
pub data Event : Type 0 where
  injected : Endpoints → Event
  cycled : List Grant → Event
  drained : Event
  closed : Event

-- The calls on a switch that was made. A cycle is called with room for so many entries in its trace. The token of an open
-- feed is no part of a call: whichever is shown, the state of the switch's own feed decides.
pub data Call : Type 0 where
  open_feed : Call
  inject : ℕ → ℕ → Call
  cycle : ℕ → Call
  drain : Call
  close_feed : Call

-- A call is refused with a number; or it is performed, and answers nothing or a number.
pub data Answer : Type 0 where
  refused : ℕ → Answer
  done : Answer
  number : ℕ → Answer

pub record Outcome (Arb : Type 0) : Type 0 where
  pub state : SwitchState Arb
  pub answer : Answer
  pub events : List Event

-- The most packets that are taken in, and the most cycles that are performed; with none there is no such limit.
pub record Limits : Type 0 where
  pub packets : Option ℕ
  pub cycles : Option ℕ

-- The limits of the running switch.
abbrev pub standard_limits : Limits
standard_limits = record { packets = Some 60000; cycles = Some 1000000 }

abbrev pub below : Option ℕ → ℕ → Bool
below None n = true
below (Some most) n = nat_lt n most

abbrev pub at_most : Option ℕ → ℕ → Bool
at_most None n = true
at_most (Some most) n = nat_le n most

-- A question, and the number with which a call is refused where it does not hold.
pub record Question : Type 0 where
  pub holds : Bool
  pub refusal : ℕ

-- The number of the first question that does not hold.
abbrev pub first_refusal : List Question → Option ℕ
first_refusal [] = None
first_refusal (q ∷ qs) = cond q.holds (first_refusal qs) (Some q.refusal)

-- What make asks, in order.
abbrev pub make_questions : Network → ℕ → List Question
make_questions net depth =
    record { holds = nat_lt 0 net.nodes; refusal = 1 }
    ∷ record { holds = nat_le 1 depth && nat_le depth 4; refusal = 2 }
    ∷ record { holds = nat_le (buffer_count net * depth) 2048; refusal = 3 }
    ∷ []

abbrev pub unless : {State : Type 0} → Option ℕ → State → Result State ℕ
unless None s = Ok s
unless (Some k) s = Err k

-- make: the empty switch over the network with the arbiter as it is, or the number of a refusal.
abbrev pub make : {Arb : Type 0} → Network → ℕ → Arb → Result (SwitchState Arb) ℕ
make net depth a = unless (first_refusal (make_questions net depth)) (empty_switch net a)

abbrev pub is_unopened : FeedState → Bool
is_unopened Unopened = true
is_unopened Open = false
is_unopened Closed = false

abbrev pub is_open : FeedState → Bool
is_open Unopened = false
is_open Open = true
is_open Closed = false

abbrev pub is_closed : FeedState → Bool
is_closed Unopened = false
is_closed Open = false
is_closed Closed = true

-- What a call asks, in order.
abbrev pub questions : {Arb : Type 0} → Limits → Network → ℕ → Call → SwitchState Arb → List Question
questions limits net depth open_feed s = record { holds = is_unopened s.feed; refusal = 4 } ∷ []
questions limits net depth (inject n d) s =
    record { holds = is_open s.feed; refusal = 5 }
    ∷ record { holds = nat_lt n net.nodes; refusal = 6 }
    ∷ record { holds = nat_lt d net.nodes; refusal = 7 }
    ∷ record { holds = below limits.packets s.taken; refusal = 8 }
    ∷ record { holds = nat_lt (length (contents s.buffers (injection_buffer net n))) depth; refusal = 9 }
    ∷ []
questions limits net depth (cycle room) s =
    record { holds = nat_le (net.nodes * (net.ports + 1)) room; refusal = 10 }
    ∷ record { holds = below limits.cycles s.cycles; refusal = 11 }
    ∷ []
questions limits net depth drain s =
    record { holds = is_closed s.feed; refusal = 12 }
    ∷ record { holds = at_most limits.cycles (s.cycles + work_left net s.buffers); refusal = 11 }
    ∷ []
questions limits net depth close_feed s = record { holds = is_open s.feed; refusal = 5 } ∷ []

abbrev pub with_feed : {Arb : Type 0} → FeedState → SwitchState Arb → SwitchState Arb
with_feed f s = record {
  buffers = s.buffers;
  taken = s.taken;
  delivered = s.delivered;
  hops = s.hops;
  cycles = s.cycles;
  feed = f;
  arbiter = s.arbiter;
}

-- A packet from n to d joins the injection buffer of n; its number is the number of those taken in before it.
abbrev pub with_packet : {Arb : Type 0} → Network → ℕ → ℕ → SwitchState Arb → SwitchState Arb
with_packet net n d s = record {
  buffers = enqueue s.buffers (injection_buffer net n) (record { number = s.taken; source = n; destination = d; hops = 0 });
  taken = s.taken + 1;
  delivered = s.delivered;
  hops = s.hops;
  cycles = s.cycles;
  feed = s.feed;
  arbiter = s.arbiter;
}

-- Where some calls or cycles lead, and what happened.
pub record Run (Arb : Type 0) : Type 0 where
  pub state : SwitchState Arb
  pub history : List Event

-- A cycle and the rest of the drain, unless nothing is inside.
abbrev pub drain_step : {Arb : Type 0} → Network → Rule Arb → ℕ → (SwitchState Arb → Run Arb) → SwitchState Arb → Bool → Run Arb
drain_step net rule depth rest s true = record { state = s; history = [] }
drain_step net rule depth rest s false =
    let ds = decisions net rule depth s in
    let r = rest (cycled_by net ds s) in
    record { state = r.state; history = cycled ds.grants ∷ r.history }

-- Cycles until nothing is inside, at most k of them.
unfoldable pub draining : {Arb : Type 0} → Network → Rule Arb → ℕ → ℕ → SwitchState Arb → Run Arb
draining net rule depth zero s = record { state = s; history = [] }
draining net rule depth (suc k) s = drain_step net rule depth (draining net rule depth k) s (inside s == 0)

-- What a call does that is not refused. A drain makes cycles until nothing is inside, for which the work left is enough.
abbrev pub performed : {Arb : Type 0} → Network → Rule Arb → ℕ → Call → SwitchState Arb → Outcome Arb
performed net rule depth open_feed s = record { state = with_feed Open s; answer = done; events = [] }
performed net rule depth (inject n d) s =
    record { state = with_packet net n d s; answer = number s.taken; events = injected (record { source = n; destination = d }) ∷ [] }
performed net rule depth (cycle room) s =
    let ds = decisions net rule depth s in
    record { state = cycled_by net ds s; answer = number (length ds.grants); events = cycled ds.grants ∷ [] }
performed net rule depth drain s =
    let r = draining net rule depth (work_left net s.buffers) s in
    record { state = r.state; answer = number (length r.history); events = r.history ++ (drained ∷ []) }
performed net rule depth close_feed s = record { state = with_feed Closed s; answer = done; events = closed ∷ [] }

-- A refused call leaves all as it was, and is no event.
abbrev pub settled : {Arb : Type 0} → SwitchState Arb → Option ℕ → Outcome Arb → Outcome Arb
settled s None o = o
settled s (Some k) o = record { state = s; answer = refused k; events = [] }

-- A call on the switch.
unfoldable pub perform : {Arb : Type 0} → Limits → Network → Rule Arb → ℕ → Call → SwitchState Arb → Outcome Arb
perform limits net rule depth c s = settled s (first_refusal (questions limits net depth c s)) (performed net rule depth c s)

-- Calls one after another.
unfoldable pub run : {Arb : Type 0} → Limits → Network → Rule Arb → ℕ → List Call → SwitchState Arb → Run Arb
run limits net rule depth [] s = record { state = s; history = [] }
run limits net rule depth (c ∷ cs) s =
    let o = perform limits net rule depth c s in
    let r = run limits net rule depth cs o.state in
    record { state = r.state; history = o.events ++ r.history }
