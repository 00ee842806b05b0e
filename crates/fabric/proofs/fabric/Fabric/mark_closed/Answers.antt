use Rattle.std.proofs.Common.{refl}
use Rattle.switch.specs.declared.feed_state.FeedState.TheVariants.{Closed}
use Rattle.switch.specs.Calls.Call.{close_feed}
use Rattle.fabric.proofs.Calling.{answered_done}
use Rattle.fabric.proofs.Feeding.{refed_reached}
use Rattle.fabric.proofs.fabric.Fabric.mark_closed.Goals as goal

pub invariant_of-self-clause-reached : goal.invariant_of-self-clause-reached
invariant_of-self-clause-reached g c = refed_reached c.args.self.now g.A.Arbiter.rule g.met.A.Arbiter.exists close_feed c.requires.may Closed refl

pub returns : goal.returns
returns g c = answered_done c.args.self.now g.A.Arbiter.rule close_feed c.requires.may _ refl refl refl refl refl
