-- The scan starts at the first buffer of the node, goes on to the next, and ends behind the last.
use Rattle.std.proofs.Common.{suc, ◌<◌, sym, ◌∙◌, subst, arith}
use Rattle.switch.specs.Places.{buffer_count}
use Rattle.cycle.specs.Measures.{visit_of}
use Rattle.cycle.specs.Chains.{FirstFrom}
use Rattle.cycle.specs.Starts.{network_in, snapshot}
use Rattle.cycle.proofs.Scanning.{Found, found_start, found_none, found_some, below_falls}
use Rattle.cycle.proofs.visit.Visit.requests.Goals as goal

pub loop-next-init : goal.loop-next-init
loop-next-init g c =
    let visit = c.args.self.now in
    let start = visit.start.now in
    let node : visit.node < (network_in start).nodes = omega (arith, visit.node_within, start.plan.now.fits.measured.nodes_is) in
    let first = subst (FirstFrom (network_in start) visit.node 0) (sym c.first_at-next.ensures) (start.stands.heads visit.node node) in
    subst (λ es. Found (snapshot start) visit.granted.now (visit_of visit.node visit.port) es c.first_at-next.result) (sym c.clear.ensures)
    (found_start (snapshot start) visit.granted.now (visit_of visit.node visit.port) c.first_at-next.result first)

pub loop-next-smaller-in-Some-request : goal.loop-next-smaller-in-Some-request
loop-next-smaller-in-Some-request g c =
    let visit = c.args.self.now in
    let start = visit.start.now in
    let found = c.loop-next.invariant in
    let under : c.in-Some.b < buffer_count (network_in start) = found.under c.in-Some.b c.in-Some.is in
    let next = start.stands.links c.in-Some.b visit.node (omega arith) under (found.here c.in-Some.b c.in-Some.is) in
    below_falls start.plan.now.sizes.buffers c.in-Some.b c.loop-next.next c.next_after-next.result c.in-Some.is (omega (arith, start.plan.now.fits.measured.buffers_is))
    (λ x e. (next.some x (sym c.next_after-next.ensures ∙ e)).after)

pub loop-next-smaller : goal.loop-next-smaller
loop-next-smaller g c =
    let visit = c.args.self.now in
    let start = visit.start.now in
    let found = c.loop-next.invariant in
    let under : c.in-Some.b < buffer_count (network_in start) = found.under c.in-Some.b c.in-Some.is in
    let next = start.stands.links c.in-Some.b visit.node (omega arith) under (found.here c.in-Some.b c.in-Some.is) in
    below_falls start.plan.now.sizes.buffers c.in-Some.b c.loop-next.next c.next_after-next.result c.in-Some.is (omega (arith, start.plan.now.fits.measured.buffers_is))
    (λ x e. (next.some x (sym c.next_after-next.ensures ∙ e)).after)

pub loop-next-preserved-in-Some-request : goal.loop-next-preserved-in-Some-request
loop-next-preserved-in-Some-request g c =
    let visit = c.args.self.now in
    let start = visit.start.now in
    let found = c.loop-next.invariant in
    let b = c.in-Some.b in
    let o = c.next_after-next.result in
    let next = subst (FirstFrom (network_in start) visit.node (suc b)) (sym c.next_after-next.ensures)
    (start.stands.links b visit.node (omega arith) (found.under b c.in-Some.is) (found.here b c.in-Some.is)) in
    simp c.push.ensures.items
    (found_some (snapshot start) visit.granted.now (visit_of visit.node visit.port) c.loop-next.entries.items b c.loop-next.next o c.in-Some.is next found c.in-Some-request.grant c.in-Some-request.ensures)

pub loop-next-preserved : goal.loop-next-preserved
loop-next-preserved g c =
    let visit = c.args.self.now in
    let start = visit.start.now in
    let found = c.loop-next.invariant in
    let b = c.in-Some.b in
    let o = c.next_after-next.result in
    let next = subst (FirstFrom (network_in start) visit.node (suc b)) (sym c.next_after-next.ensures)
    (start.stands.links b visit.node (omega arith) (found.under b c.in-Some.is) (found.here b c.in-Some.is)) in
    found_none (snapshot start) visit.granted.now (visit_of visit.node visit.port) c.loop-next.entries.items b c.loop-next.next o c.in-Some.is next found c.in_default-request.ensures
