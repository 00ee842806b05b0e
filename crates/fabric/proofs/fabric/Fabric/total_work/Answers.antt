use Rattle.std.proofs.Common.{◌≡◌, ◌^◌, ◌∙◌, refl, rules, arith, sum_by}
use Rattle.std.specs.List.{range_with_len}
use Rattle.std.proofs.lemmas.Iterator.{YieldsList-from_range, YieldsList-from_map}
use Rattle.std.proofs.lemmas.Iterator.Consumers.{YieldsList-at, sum_by_from_yields_List, fits_by_from_yields_list}
use Rattle.cycle.proofs.Fitting.{buffers_few}
use Rattle.fabric.specs.Fabrics.{network_in}
use Rattle.fabric.proofs.Works.{work_at, all_few, all_work}
use Rattle.fabric.proofs.fabric.Fabric.total_work.Goals as goal

pub sum-requires-clause-fits : goal.sum-requires-clause-fits
sum-requires-clause-fits g c =
    let f = c.args.self.now in
    let n = f.body.sizes.buffers in
    let few = buffers_few (network_in f) f.body.sizes f.fits in
    let all = all_few f n in
    fits_by_from_yields_list (work_at f) (range_with_len 0 n) c.map.result (2 ^ 64)
    (YieldsList-from_map _ (work_at f) (YieldsList-at c.map.ensures.source (YieldsList-from_range 0 n n refl (omega arith))) c.map.ensures.closure (λ x r q k. search rules))
    (omega arith)

pub returns : goal.returns
returns g c =
    let f = c.args.self.now in
    let n = f.body.sizes.buffers in
    let few = buffers_few (network_in f) f.body.sizes f.fits in
    let all = all_few f n in
    let sum : c.sum.result ≡ sum_by (work_at f) (range_with_len 0 n) =
    sum_by_from_yields_List (work_at f) (range_with_len 0 n) c.map.result c.sum.result c.sum.ensures.ran
    (YieldsList-from_map _ (work_at f) (YieldsList-at c.map.ensures.source (YieldsList-from_range 0 n n refl (omega arith))) c.map.ensures.closure (λ x r q k. search rules)) in
    record { value = sum ∙ all_work f; small = omega arith }
