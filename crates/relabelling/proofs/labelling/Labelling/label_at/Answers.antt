use Rattle.std.proofs.Common.{◌≡◌, ◌≢◌, ◌∙◌, get_or, rules}
use Rattle.std.proofs.lemmas.Iterator.{first_from_Range}
use borrow.Author.Tests.{tests}
use Rattle.relabelling.specs.RelabelledLaws.{label_is}
use Rattle.relabelling.proofs.labelling.Labelling.label_at.Goals as goal

pub returns : goal.returns
returns c =
    let l = c.args.self.now in
    let x = c.args.position in
    c.unwrap_or.ensures ∙ label_is l x c.find.result
    (first_from_Range _ _ _ c.find.result (λ i. get_or l.positions i 0 ≡ x) (λ i. get_or l.positions i 0 ≢ x) c.find.ensures.ran (λ i q k. search (rules, tests)) (λ i q k. search (rules, tests)))
