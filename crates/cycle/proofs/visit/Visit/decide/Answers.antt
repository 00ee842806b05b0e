-- The arbiter is asked with the requests, and grants one.
use Rattle.std.proofs.Common.{◌<◌, Option, IfSome, sym, ◌∙◌, subst}
use Rattle.switch.specs.declared.grant.Grant.{Grant}
use Rattle.cycle.proofs.Visits.{never_refused, chosen_at}
use Rattle.cycle.proofs.visit.Visit.decide.Goals as goal

pub returns-in_err-place : goal.returns-in_err-place
returns-in_err-place g c =
    let visit = c.args.self.now in
    absurd (never_refused visit (g.met.R.Routing.lawful visit.start.now.plan.now.routing.now) g.A.Arbiter.rule g.met.A.Arbiter.exists
    c.as_slice-entries.result.now (c.as_slice-entries.ensures.value ∙ c.requests.ensures) c.args.arbiter.now c.choose.new.arbiter c.choose.result (sym c.is_empty.ensures ∙ c.if-is_empty.false) c.choose.ensures c.in_err-place.was)

pub request-requires : goal.request-requires
request-requires g c =
    let visit = c.args.self.now in
    let k = chosen_at visit (g.met.R.Routing.lawful visit.start.now.plan.now.routing.now) g.A.Arbiter.rule g.met.A.Arbiter.exists
    c.as_slice-entries.result.now (c.as_slice-entries.ensures.value ∙ c.requests.ensures) c.args.arbiter.now c.choose.new.arbiter c.choose.result (sym c.is_empty.ensures ∙ c.if-is_empty.false) c.choose.ensures c.in_ok-place.place c.in_ok-place.was in
    record { buffer = k.under; stands = k.stands }

pub returns : goal.returns
returns g c =
    let visit = c.args.self.now in
    let k = chosen_at visit (g.met.R.Routing.lawful visit.start.now.plan.now.routing.now) g.A.Arbiter.rule g.met.A.Arbiter.exists
    c.as_slice-entries.result.now (c.as_slice-entries.ensures.value ∙ c.requests.ensures) c.args.arbiter.now c.choose.new.arbiter c.choose.result (sym c.is_empty.ensures ∙ c.if-is_empty.false) c.choose.ensures c.in_ok-place.place c.in_ok-place.was in
    record {
      answer = c.request.ensures ∙ k.visited.answer_is;
      after = k.visited.after_is;
      old = subst (λ (o : Option Grant). IfSome o (λ x. x.old < visit.start.now.plan.now.sizes.buffers)) (sym c.request.ensures) k.visited.old_under;
    }
