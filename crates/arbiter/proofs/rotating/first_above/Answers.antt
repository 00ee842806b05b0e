use Rattle.std.proofs.Common.{rules, tests, ap, ◌∙◌, unwrap_or}
use Rattle.std.proofs.lemmas.Iterator.{YieldsList-from_slice}
use Rattle.std.proofs.lemmas.Iterator.Search.{position_from_yields_List}
use Rattle.arbiter.specs.declared.entry.Entry.{Entry}
use Rattle.arbiter.specs.Rotating.{above}
use Rattle.arbiter.specs.Rotation.{above_within, above_between}
use Rattle.arbiter.proofs.rotating.first_above.Goals as goal

pub returns : goal.returns
returns c =
    let es = c.args.entries.now in
    let e = c.unwrap_or.ensures ∙ ap (λ r. unwrap_or r 0) (position_from_yields_List (λ (e : Entry). above c.args.last e.buffer) _ _ c.position.result c.position.ensures.ran (YieldsList-from_slice es cc) (λ x b q k. search (rules, tests))) in
    record { place = e; within = above_within c.args.last es c.unwrap_or.result e; none_between = above_between c.args.last es c.unwrap_or.result e }
