-- Opening and closing a feed. Assumes nothing.
use Rattle.std.proofs.Common.{◌≡◌, None, refl}
use Rattle.arbiter.specs.Rule.{Rule, Exists}
use Rattle.switch.specs.declared.feed_state.FeedState.{FeedState}
use Rattle.switch.specs.Calls.{Call, performed}
use Rattle.fabric.specs.declared.body.Body.{Body}
use Rattle.fabric.specs.declared.fabric.Fabric.{Fabric}
use Rattle.fabric.specs.Bodies.{state_in, Reached}
use Rattle.fabric.specs.Fabrics.{network_in, depth_in, state_of}
use Rattle.fabric.proofs.Calling.{asked, performed_state, kept}

-- The body with another state of its feed.
abbrev pub refed : FeedState → Body → Body
refed x body = record body { feed = x }

-- A performed call that changes the feed alone keeps the invariant.
pub refed_reached : {R A : Type 0} (f : Fabric R A) (rule : Rule A) → Exists rule → (c : Call) → asked f c ≡ None → (x : FeedState)
    → state_in f.arbiter (refed x f.body) ≡ (performed (network_in f) rule (depth_in f) c (state_of f)).state → ∥ Reached (network_in f) f.arbiter (refed x f.body) ∥₁
refed_reached f rule exists c none x e = kept f rule c exists f.arbiter (refed x f.body) refl (performed_state f rule c none _ e)
