use Rattle.std.proofs.Common.{arith, rules}
use Rattle.std.proofs.lemmas.Bool.Decides.{nat_tests}
use Rattle.switch.specs.Calls.Call.{inject}
use Rattle.fabric.specs.Fabrics.{network_in, depth_in}
use Rattle.cycle.proofs.Fitting.{buffers_few}
use Rattle.fabric.proofs.Calling.{answered_refused}
use Rattle.fabric.proofs.Injecting.{nodes_are, nodes_within, buffer_under, held_at}
use Rattle.fabric.proofs.fabric.Fabric.may_inject.Goals as goal

pub returns-then-ne : goal.returns-then-ne
returns-then-ne g c = answered_refused c.args.self.now g.A.Arbiter.rule (inject c.args.source c.args.destination) 5 (search rules)

pub returns-then-source-sizes : goal.returns-then-source-sizes
returns-then-source-sizes g c =
    let e = nodes_are c.args.self.now in
    answered_refused c.args.self.now g.A.Arbiter.rule (inject c.args.source c.args.destination) 6 (grind (arith, nat_tests))

pub returns-then-destination-sizes : goal.returns-then-destination-sizes
returns-then-destination-sizes g c =
    let e = nodes_are c.args.self.now in
    answered_refused c.args.self.now g.A.Arbiter.rule (inject c.args.source c.args.destination) 7 (grind (arith, nat_tests))

pub returns-then-self-ge60000 : goal.returns-then-self-ge60000
returns-then-self-ge60000 g c =
    let e = nodes_are c.args.self.now in
    answered_refused c.args.self.now g.A.Arbiter.rule (inject c.args.source c.args.destination) 8 (grind (arith, nat_tests))

pub overflow_sub-sizes : goal.overflow_sub-sizes
overflow_sub-sizes g c = nodes_within c.args.self.now

pub len-requires : goal.len-requires
len-requires g c = let f = c.args.self.now in let b = buffers_few (network_in f) f.body.sizes f.fits in let u = buffer_under f c.args.source c.if-source-sizes.false in omega arith

pub returns-then-len-sizes : goal.returns-then-len-sizes
returns-then-len-sizes g c =
    let f = c.args.self.now in
    let e = nodes_are f in
    let l = c.len.ensures (depth_in f) in
    let held = held_at f c.args.source c.if-source-sizes.false in
    answered_refused f g.A.Arbiter.rule (inject c.args.source c.args.destination) 9 (grind (arith, nat_tests))

pub returns : goal.returns
returns g c =
    let f = c.args.self.now in
    let e = nodes_are f in
    let l = c.len.ensures (depth_in f) in
    let held = held_at f c.args.source c.if-source-sizes.false in
    grind (arith, nat_tests)
