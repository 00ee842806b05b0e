-- A call is performed or refused, and keeps the invariant. Assumes nothing.
use Rattle.std.proofs.Common.{◌≡◌, ℕ, [], Some, None, Option, sym, refl, ap, ◌∙◌, arith}
use Rattle.table.specs.TableLaws.{table_lawful}
use Rattle.arbiter.specs.Rule.{Rule, Exists}
use Rattle.switch.specs.Calls.{SwitchState, Call, Answer, Outcome, standard_limits, first_refusal, questions, performed, settled, perform}
use Rattle.switch.specs.Calls.Answer.{refused, done, number}
use Rattle.fabric.specs.declared.body.Body.{Body}
use Rattle.fabric.specs.declared.fabric.Fabric.{Fabric}
use Rattle.fabric.specs.Bodies.{state_in, Reached}
use Rattle.fabric.specs.Fabrics.{network_in, depth_in, state_of, outcome, Answered}
use Rattle.fabric.proofs.Reaching.{reached_after}

not_done : (k : ℕ) → done ≡ refused k → ⊥
not_done k e = let z : ◌≡◌ {A = ℕ} 0 1 = cc in omega arith

pub not_number : (n k : ℕ) → number n ≡ refused k → ⊥
not_number n k e = let z : ◌≡◌ {A = ℕ} 0 1 = cc in omega arith

module _ {R A : Type 0} (f : Fabric R A) where
  abbrev pub asked : Call → Option ℕ
  asked c = first_refusal (questions standard_limits (network_in f) (depth_in f) c (state_of f))

  module _ (rule : Rule A) (c : Call) where
    pub performs : asked c ≡ None → outcome rule c f ≡ performed (network_in f) rule (depth_in f) c (state_of f)
    unfolding perform
    performs e = ap (λ (o : Option ℕ). settled (state_of f) o (performed (network_in f) rule (depth_in f) c (state_of f))) e

    refuses : (k : ℕ) → asked c ≡ Some k → outcome rule c f ≡ record { state = state_of f; answer = refused k; events = [] }
    unfolding perform
    refuses k e = ap (λ (o : Option ℕ). settled (state_of f) o (performed (network_in f) rule (depth_in f) c (state_of f))) e

    -- A refused call.
    pub answered_refused : (k : ℕ) → asked c ≡ Some k → Answered rule c f f (refused k)
    answered_refused k e =
        record {
          answer_is = sym (ap (λ (o : Outcome A). o.answer) (refuses k e));
          state_is = sym (ap (λ (o : Outcome A). o.state) (refuses k e));
          routing_is = refl;
          network_is = refl;
          depth_is = refl;
          unchanged = λ _ _. refl;
        }

    -- The state that a performed call leaves.
    pub performed_state : asked c ≡ None → (s : SwitchState A) → s ≡ (performed (network_in f) rule (depth_in f) c (state_of f)).state → s ≡ (outcome rule c f).state
    performed_state e s h = h ∙ sym (ap (λ (o : Outcome A). o.state) (performs e))

    pub performed_answer : asked c ≡ None → (x : Answer) → x ≡ (performed (network_in f) rule (depth_in f) c (state_of f)).answer → x ≡ (outcome rule c f).answer
    performed_answer e x h = h ∙ sym (ap (λ (o : Outcome A). o.answer) (performs e))

    -- A performed call, by what it answers and leaves.
    answered : asked c ≡ None → (new : Fabric R A) (x : Answer) → x ≡ (performed (network_in f) rule (depth_in f) c (state_of f)).answer
        → state_of new ≡ (performed (network_in f) rule (depth_in f) c (state_of f)).state → new.routing ≡ f.routing → network_in new ≡ network_in f → depth_in new ≡ depth_in f
        → ((k : ℕ) → x ≡ refused k → ⊥) → Answered rule c f new x
    answered e new x answer state routing net depth never =
        record {
          answer_is = performed_answer e x answer;
          state_is = performed_state e (state_of new) state;
          routing_is = routing;
          network_is = net;
          depth_is = depth;
          unchanged = λ k h. absurd (never k h);
        }

    pub answered_done : asked c ≡ None → (new : Fabric R A) → done ≡ (performed (network_in f) rule (depth_in f) c (state_of f)).answer
        → state_of new ≡ (performed (network_in f) rule (depth_in f) c (state_of f)).state → new.routing ≡ f.routing → network_in new ≡ network_in f → depth_in new ≡ depth_in f
        → Answered rule c f new done
    answered_done e new answer state routing net depth = answered e new done answer state routing net depth not_done

    pub answered_number : asked c ≡ None → (new : Fabric R A) (n : ℕ) → number n ≡ (performed (network_in f) rule (depth_in f) c (state_of f)).answer
        → state_of new ≡ (performed (network_in f) rule (depth_in f) c (state_of f)).state → new.routing ≡ f.routing → network_in new ≡ network_in f → depth_in new ≡ depth_in f
        → Answered rule c f new (number n)
    answered_number e new n answer state routing net depth = answered e new (number n) answer state routing net depth (not_number n)

    -- Its state is reached again.
    pub kept : Exists rule → (b : A) (new : Body) → new.sizes ≡ f.body.sizes → state_in b new ≡ (outcome rule c f).state → ∥ Reached (network_in f) b new ∥₁
    kept exists b new same e = reached_after (network_in f) (table_lawful f.table) rule exists c f.arbiter b f.body new f.fits same e f.reached
