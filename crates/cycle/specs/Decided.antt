-- What the decisions of a cycle leave in memory. Assumes nothing.
use Rattle.std.specs.Prelude.{◌≡◌, ℕ, ◌≤◌, false, List, length, take, drop, replicate}
use Rattle.arbiter.specs.Rule.{Rule}
use Rattle.switch.specs.declared.grant.Grant.{Grant}
use Rattle.switch.specs.Places.{buffer_count}
use Rattle.switch.specs.Cycle.{Snapshot, Decisions, decide, visits}

-- The decisions of a cycle, with the arbiter in the state a.
abbrev pub all_decisions : {Arb : Type 0} → Snapshot → Rule Arb → Arb → Decisions Arb
all_decisions start rule a = decide start rule (visits start.network) (replicate (buffer_count start.network) false) a

-- The first count entries of the trace are the grants of the cycle, the rest is as it was, and so is the arbiter's state
-- what it is after them.
pub record Decided {Arb : Type 0} (start : Snapshot) (rule : Rule Arb) (before after : Arb) (old new : List Grant) (count : ℕ) : Type 0 where
  pub front : take count new ≡ (all_decisions start rule before).grants
  pub rest : drop count new ≡ drop count old
  pub arbiter_is : after ≡ (all_decisions start rule before).arbiter
  pub few : count ≤ length new
