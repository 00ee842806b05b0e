use Rattle.std.proofs.Common.{rules}
use Rattle.arbiter.proofs.Turns.{oldest_found}
use Rattle.arbiter.proofs.oldest.oldest_place.Goals as goal

pub returns : goal.returns
returns c =
    oldest_found _ _ c.enumerate.result c.args.entries.now c.min_by_key.result c.map_or.result c.min_by_key.ensures.ran (search rules) (cc) (cc) (λ x k f f' h. search rules)
