-- What a topology means. Assumes nothing.
use Rattle.network.specs.Network.{Network}
use Rattle.relabelling.specs.Relabels.{relabelled}
use Rattle.shape.specs.declared.topology.Topology.{Topology}
use Rattle.shape.specs.declared.topology.Topology.TheVariants.{Plain, Relabelled}
use Rattle.shape.specs.Shapes.{shaped}

abbrev pub topology_network : Topology → Network
topology_network (Plain x) = shaped x
topology_network (Relabelled x) = relabelled x.labelling (shaped x.routing)
