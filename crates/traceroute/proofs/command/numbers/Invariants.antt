use Rattle.std.proofs.Common.{◌≡◌, vec_items, vec_len}
use Rattle.traceroute.specs.Commands.{texts, Written}
use Rattle.traceroute.proofs.command.numbers.Given as goal

-- one number for each word so far
abbrev pub invariant-loop-before : goal.invariant-loop-before
invariant-loop-before l = (vec_len l.all ≡ l.before) × Written (texts l.words) (vec_len l.all) (vec_items l.all)
