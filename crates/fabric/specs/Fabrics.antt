-- What a fabric means, and what its calls promise. Assumes nothing.
use Rattle.std.specs.Prelude.{◌≡◌, ℕ, List, Some, None, Ok, Err, Result}
use Rattle.network.specs.Network.{Network}
use Rattle.arbiter.specs.Rule.{Rule}
use Rattle.table.specs.Tables.{network_of}
use Rattle.switch.specs.declared.grant.Grant.{Grant}
use Rattle.switch.specs.Calls.{SwitchState, Call, Answer, Outcome, standard_limits, make, first_refusal, make_questions, questions, decisions, perform}
use Rattle.switch.specs.Calls.Answer.{refused, done, number}
use Rattle.switch.specs.Law.{LawOfRuns}
use Rattle.fabric.specs.declared.fabric.Fabric.{Fabric}
use Rattle.fabric.specs.declared.fabric.NotMade.{NotMade}
use Rattle.fabric.specs.declared.feed.Feed.{Feed}
use Rattle.fabric.specs.declared.refusal.Refusal.{Refusal}
use Rattle.fabric.specs.Refusals.{refusal_number}
use Rattle.fabric.specs.Bodies.{state_in}
use Rattle.fabric.specs.Traces.{Traced}

-- The network of a fabric, the depth of its buffers, and the state of the switch that it is.
abbrev pub network_in : {R A : Type 0} → Fabric R A → Network
network_in f = network_of f.table

abbrev pub depth_in : {R A : Type 0} → Fabric R A → ℕ
depth_in f = f.body.sizes.depth

abbrev pub state_of : {R A : Type 0} → Fabric R A → SwitchState A
state_of f = state_in f.arbiter f.body

-- A fabric that was made: the empty switch over the routing's meaning, with the routing, the arbiter and the depth that
-- were handed over; and every run of it keeps the law.
pub record Made {R A : Type 0} (net : Network) (rule : Rule A) (depth : ℕ) (routing : R) (arbiter : A) (f : Fabric R A) : Type 0 where
  pub state_is : make net depth arbiter ≡ Ok (state_of f)
  pub network_is : network_in f ≡ net
  pub depth_is : depth_in f ≡ depth
  pub routing_is : f.routing ≡ routing
  pub law : LawOfRuns net rule depth arbiter

-- A refused make hands back what it was handed, with the number of the first question that does not hold.
pub record Refused {R A : Type 0} (net : Network) (depth : ℕ) (routing : R) (arbiter : A) (e : NotMade R A) : Type 0 where
  pub number_is : make net depth arbiter ≡ Err (refusal_number e.refusal)
  pub routing_is : e.routing ≡ routing
  pub arbiter_is : e.arbiter ≡ arbiter

-- No question of make fails.
abbrev pub MayMake : Network → ℕ → Type 0
MayMake net depth = first_refusal (make_questions net depth) ≡ None

-- What asking the questions of make answers: that none fails, or the refusal of the first that does.
abbrev pub MakeAsked : {U : Type 0} → Network → ℕ → Result U Refusal → Type 0
MakeAsked net depth (Ok u) = MayMake net depth
MakeAsked net depth (Err e) = first_refusal (make_questions net depth) ≡ Some (refusal_number e)

abbrev pub Making : {R A : Type 0} → Network → Rule A → ℕ → R → A → Result (Fabric R A) (NotMade R A) → Type 0
Making net rule depth routing arbiter (Ok f) = Made net rule depth routing arbiter f
Making net rule depth routing arbiter (Err e) = Refused net depth routing arbiter e

-- The answers of the calls as those of the definition.
abbrev pub opened : Result Feed Refusal → Answer
opened (Ok f) = done
opened (Err e) = refused (refusal_number e)

abbrev pub numbered : Result ℕ Refusal → Answer
numbered (Ok n) = number n
numbered (Err e) = refused (refusal_number e)

abbrev pub closed : {U : Type 0} → Result U Refusal → Answer
closed (Ok u) = done
closed (Err e) = refused (refusal_number e)

-- What the definition performs of a call on this fabric.
abbrev pub outcome : {R A : Type 0} → Rule A → Call → Fabric R A → Outcome A
outcome rule c f = perform standard_limits (network_in f) rule (depth_in f) c (state_of f)

-- A call on the old fabric gave this answer and left the new one. A refused call leaves the fabric exactly as it was.
pub record Answered {R A : Type 0} (rule : Rule A) (c : Call) (old new : Fabric R A) (answer : Answer) : Type 0 where
  pub answer_is : answer ≡ (outcome rule c old).answer
  pub state_is : state_of new ≡ (outcome rule c old).state
  pub routing_is : new.routing ≡ old.routing
  pub network_is : network_in new ≡ network_in old
  pub depth_is : depth_in new ≡ depth_in old
  pub unchanged : (k : ℕ) → answer ≡ refused k → new ≡ old

-- No question of a call fails.
abbrev pub May : {R A : Type 0} → Call → Fabric R A → Type 0
May c f = first_refusal (questions standard_limits (network_in f) (depth_in f) c (state_of f)) ≡ None

-- What asking the questions of a call answers: that none fails, or a refusal that is the answer of the call.
abbrev pub Asked : {R A U : Type 0} → Rule A → Call → Fabric R A → Result U Refusal → Type 0
Asked rule c f (Ok u) = May c f
Asked rule c f (Err e) = Answered rule c f f (refused (refusal_number e))

-- The trace of a cycle: its grants at the front and the rest as it was, or all as it was.
abbrev pub Trace : {R A : Type 0} → Rule A → Fabric R A → List Grant → List Grant → Result ℕ Refusal → Type 0
Trace rule f before after (Ok n) = Traced (decisions (network_in f) rule (depth_in f) (state_of f)).grants before after n
Trace rule f before after (Err e) = after ≡ before
