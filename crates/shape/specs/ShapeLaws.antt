-- Each shape, and each topology, is lawful. Assumes nothing.
use Rattle.network.specs.Laws.{Lawful}
use Rattle.line.specs.LineLaws.{line_lawful}
use Rattle.ring.specs.RingLaws.{ring_lawful}
use Rattle.tree.specs.TreeLaws.{tree_lawful}
use Rattle.product.specs.ProductLaws.{product_lawful}
use Rattle.relabelling.specs.RelabelledLaws.{relabelled_lawful}
use Rattle.shape.specs.declared.shapes.Shape.{Shape}
use Rattle.shape.specs.declared.shapes.Shape.TheVariants.{Line, Ring, Tree, Mesh, Torus, Cylinder}
use Rattle.shape.specs.declared.topology.Topology.{Topology}
use Rattle.shape.specs.declared.topology.Topology.TheVariants.{Plain, Relabelled}
use Rattle.shape.specs.Shapes.{shaped}
use Rattle.shape.specs.Topologies.{topology_network}

pub shape_lawful : (s : Shape) → Lawful (shaped s)
shape_lawful (Line x) = line_lawful x.size
shape_lawful (Ring x) = ring_lawful x.size
shape_lawful (Tree x) = tree_lawful x.height x.fat
shape_lawful (Mesh x) = product_lawful _ _ (line_lawful x.first.size) (line_lawful x.second.size)
shape_lawful (Torus x) = product_lawful _ _ (ring_lawful x.first.size) (ring_lawful x.second.size)
shape_lawful (Cylinder x) = product_lawful _ _ (ring_lawful x.first.size) (line_lawful x.second.size)

pub topology_lawful : (t : Topology) → Lawful (topology_network t)
topology_lawful (Plain x) = shape_lawful x
topology_lawful (Relabelled x) = relabelled_lawful x.labelling (shaped x.routing) (shape_lawful x.routing)
