use Rattle.std.proofs.Common.{refl}
use Rattle.switch.specs.declared.feed_state.FeedState.TheVariants.{Open}
use Rattle.switch.specs.Calls.Call.{open_feed}
use Rattle.fabric.proofs.Calling.{answered_done}
use Rattle.fabric.proofs.Feeding.{refed_reached}
use Rattle.fabric.proofs.fabric.Fabric.mark_open.Goals as goal

pub invariant_of-self-clause-reached : goal.invariant_of-self-clause-reached
invariant_of-self-clause-reached g c = refed_reached c.args.self.now g.A.Arbiter.rule g.met.A.Arbiter.exists open_feed c.requires.may Open refl

pub returns : goal.returns
returns g c = answered_done c.args.self.now g.A.Arbiter.rule open_feed c.requires.may _ refl refl refl refl refl
