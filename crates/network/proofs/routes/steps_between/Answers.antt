-- Without these a goal stays open (tried).
use Rattle.std.proofs.Common.{◌≡◌, [], ◌∷◌, ◌++◌, Some, None, vec_items, sym, subst, append_assoc, append-nil, rules}
use Rattle.std.specs.Option.{option_map}
use Rattle.network.specs.Routes.{step_by, Following}
use Rattle.network.proofs.Walking.{following_arrives, following_more, following_none}
use Rattle.network.proofs.routes.steps_between.Goals as goal

pub loop-step-preserved : goal.loop-step-preserved
loop-step-preserved g c = λ ss m f.
    let net = g.R.Routing.meaning c.args.routing.now in
    let s = c.in-Some.step in
    let q : vec_items c.push.new.self ≡ vec_items c.loop-step.steps ++ (s ∷ []) = search rules in
    let e : option_map (step_by net c.loop-step.node) (net.escape c.loop-step.node c.args.end) ≡ Some s = cc in
    let k = c.loop-step.invariant (s ∷ ss) m (following_more net c.args.end c.loop-step.node m ss s e f) in
    subst (λ x. Following net c.args.end c.args.start (x ++ ss) m) (sym q) (rw append_assoc k)

pub returns : goal.returns
returns g c =
    let net = g.R.Routing.meaning c.args.routing.now in
    let law = g.met.R.Routing.lawful c.args.routing.now in
    let e : option_map (step_by net c.loop-step.node) (net.escape c.loop-step.node c.args.end) ≡ None = cc in
    let f = c.loop-step.invariant [] c.loop-step.node (following_none net c.args.end c.loop-step.node e) in
    (c.requires.0, c.requires.1, following_arrives net law c.requires.0 c.requires.1 (rw append-nil at f))
