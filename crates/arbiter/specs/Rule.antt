-- What an arbiter means. Assumes nothing.
use Rattle.std.specs.Prelude.{◌≡◌, ℕ, ◌<◌, List, length, Some, None, Option}
use Rattle.arbiter.specs.declared.entry.Entry.{Entry}
use Rattle.arbiter.specs.Proper.{Proper}

-- For each state, link and list, the place of the entry that is granted the link, and the next state.
pub record Rule (State : Type 0) : Type 0 where
  pub place : State → ℕ → List Entry → ℕ
  pub next : State → ℕ → List Entry → State

-- The law: on a proper list the place is one of the list's.
abbrev pub Exists : {State : Type 0} → Rule State → Type 0
Exists {State} rule = (state : State) (link : ℕ) (es : List Entry) → Proper link es → rule.place state link es < length es

-- One question: the answer, and the state before and after it. On a proper list the answer is the rule's place, and
-- the state becomes the rule's next one; on an improper list the answer is none, and the state stays.
pub record Granted {State : Type 0} (rule : Rule State) (before after : State) (link : ℕ) (es : List Entry) (answer : Option ℕ) : Type 0 where
  pub proper : Proper link es → (answer ≡ Some (rule.place before link es)) × (after ≡ rule.next before link es)
  pub improper : (Proper link es → ⊥) → (answer ≡ None) × (after ≡ before)
