-- What a shape means. Assumes nothing.
use Rattle.network.specs.Network.{Network}
use Rattle.line.specs.Lines.{line}
use Rattle.ring.specs.Rings.{ring}
use Rattle.tree.specs.Trees.{tree}
use Rattle.product.specs.Products.{product}
use Rattle.shape.specs.declared.shapes.Shape.{Shape}
use Rattle.shape.specs.declared.shapes.Shape.TheVariants.{Line, Ring, Tree, Mesh, Torus, Cylinder}

abbrev pub shaped : Shape → Network
shaped (Line x) = line x.size
shaped (Ring x) = ring x.size
shaped (Tree x) = tree x.height x.fat
shaped (Mesh x) = product (line x.first.size) (line x.second.size)
shaped (Torus x) = product (ring x.first.size) (ring x.second.size)
shaped (Cylinder x) = product (ring x.first.size) (line x.second.size)
