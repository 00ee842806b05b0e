-- The node and the buffer are in range; one buffer more in the chains.
use Rattle.std.proofs.Common.{◌≡◌, ℕ, suc, ◌-◌, length, subst, arith, rules}
use mir.Facts.{Fits-below}
use Rattle.cycle.specs.Chains.{ChainedFrom}
use Rattle.cycle.proofs.Fitting.{buffers_few}
use Rattle.cycle.proofs.Locations.{at_node, at_small_node}
use Rattle.cycle.proofs.Chaining.{chained_nowhere, chained_at}
use Rattle.cycle.proofs.plan.Plan.chain.Goals as goal

pub offset_bounds-standing-n : goal.offset_bounds-standing-n
offset_bounds-standing-n g c =
    let routing = c.args.self.now.routing.now in
    let small = at_small_node (g.R.Routing.meaning routing) c.args.self.now.sizes c.args.self.now.fits (c.loop-b.b - 1) (g.met.R.Routing.lawful routing) c.in-Some.n c.in-Some.ensures (omega arith) in
    Fits-below {n = 256} tt (omega (arith, small))

pub bounds-standing-n : goal.bounds-standing-n
bounds-standing-n g c =
    let routing = c.args.self.now.routing.now in
    at_small_node (g.R.Routing.meaning routing) c.args.self.now.sizes c.args.self.now.fits (c.loop-b.b - 1) (g.met.R.Routing.lawful routing) c.in-Some.n c.in-Some.ensures (omega arith)

pub loop-b-preserved-in-Some : goal.loop-b-preserved-in-Some
loop-b-preserved-in-Some g c =
    let routing = c.args.self.now.routing.now in
    let net = g.R.Routing.meaning routing in
    let law = g.met.R.Routing.lawful routing in
    let e : c.loop-b.b ≡ suc (c.loop-b.b - 1) = omega arith in
    let old = subst (λ (x : ℕ). ChainedFrom net c.loop-b.standing x) e c.loop-b.invariant in
    let node = at_node net c.args.self.now.sizes c.args.self.now.fits (c.loop-b.b - 1) law c.in-Some.n c.in-Some.ensures (omega arith) in
    let small = at_small_node net c.args.self.now.sizes c.args.self.now.fits (c.loop-b.b - 1) law c.in-Some.n c.in-Some.ensures (omega arith) in
    let few = buffers_few net c.args.self.now.sizes c.args.self.now.fits in
    let first : length c.loop-b.standing.first ≡ 64 = search rules in
    let next : length c.loop-b.standing.next ≡ 2048 = search rules in
    simp (c.replace.ensures.after, c.replace.ensures.value)
    (chained_at net c.loop-b.standing (c.loop-b.b - 1) old c.in-Some.n c.in-Some.ensures node
    (omega (arith, small, first)) (omega (arith, few, next)) (omega (arith, c.args.self.now.fits.measured.buffers_is)))

pub loop-b-preserved : goal.loop-b-preserved
loop-b-preserved g c =
    let net = g.R.Routing.meaning c.args.self.now.routing.now in
    let e : c.loop-b.b ≡ suc (c.loop-b.b - 1) = omega arith in
    let old = subst (λ (x : ℕ). ChainedFrom net c.loop-b.standing x) e c.loop-b.invariant in
    chained_nowhere net c.loop-b.standing (c.loop-b.b - 1) old c.in_default.ensures
