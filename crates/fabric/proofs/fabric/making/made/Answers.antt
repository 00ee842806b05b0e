use Rattle.std.proofs.Common.{◌≡◌, sym, refl, subst, subst₂, arith}
use Rattle.network.specs.Network.{Network}
use Rattle.queue.specs.Contents.{Sound}
use Rattle.table.specs.Tables.{network_of}
use Rattle.switch.proofs.LawHolds.{switch_law}
use Rattle.cycle.specs.declared.sizes.Sizes.{Sizes}
use Rattle.cycle.specs.Measures.{Fits}
use Rattle.cycle.specs.Chains.{Stands}
use Rattle.fabric.proofs.Starting.{made_fits, made_state, made_depth, made_reached}
use Rattle.fabric.proofs.fabric.making.made.Goals as goal

pub invariant_of-result : goal.invariant_of-result
invariant_of-result g c =
    let net = g.R.Routing.meaning c.args.routing in
    let is : network_of c.read-table.result ≡ net = c.read-table.ensures in
    let fits = made_fits net c.args.depth c.of-sizes.result c.of-sizes.ensures c.requires in
    let new = c.new.ensures in
    record {
      fits = subst₂ (λ (n : Network) (x : Sizes). Fits n x) (sym is) (sym new.sizes_is) fits;
      stands = subst (λ (n : Network). Stands n c.of-standing.result) (sym is) c.of-standing.ensures;
      sound = subst (λ (x : Sizes). Sound c.new.result.queues x.depth) (sym new.sizes_is) (new.empty.sound c.of-sizes.result.depth fits.deep);
      reached = made_reached net c.args.depth c.of-sizes.result c.of-sizes.ensures c.requires c.args.arbiter c.new.result new (network_of c.read-table.result) is;
      few = omega (arith, new.taken_is);
    }

pub returns : goal.returns
returns g c =
    let net = g.R.Routing.meaning c.args.routing in
    let depth = c.args.depth in
    record {
      state_is = made_state net depth c.of-sizes.result c.of-sizes.ensures c.requires c.args.arbiter c.new.result c.new.ensures;
      network_is = c.read-table.ensures;
      depth_is = made_depth net depth c.of-sizes.result c.of-sizes.ensures c.requires c.args.arbiter c.new.result c.new.ensures;
      routing_is = refl;
      law = switch_law g.A.Arbiter.rule g.met.A.Arbiter.exists net (g.met.R.Routing.lawful c.args.routing) depth c.requires c.args.arbiter;
    }
