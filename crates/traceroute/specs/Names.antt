-- The words that name a shape, and the shapes of each name. Assumes nothing.
use Rattle.std.specs.Prelude.{◌≡◌, ℕ, ◌≢◌, List, Some, None, codes, Option}
use Rattle.shape.specs.declared.shapes.Shape.{Shape}
use Rattle.shape.specs.declared.shapes.Shape.TheVariants as shapes
use Rattle.traceroute.specs.declared.shape_name.ShapeName.{ShapeName}
use Rattle.traceroute.specs.declared.shape_name.ShapeName.TheVariants.{Line, Ring, Tree, Mesh, Torus, Cylinder}

abbrev pub word_of : ShapeName → List ℕ
word_of Line = codes "line"
word_of Ring = codes "ring"
word_of Tree = codes "tree"
word_of Mesh = codes "mesh"
word_of Torus = codes "torus"
word_of Cylinder = codes "cylinder"

-- a word names the shape whose word it is, and none if it is the word of none
abbrev pub Named : List ℕ → Option ShapeName → Type 0
Named word (Some name) = word ≡ word_of name
Named word None = (name : ShapeName) → word ≢ word_of name

-- a line and a ring have one size, the others two
abbrev pub size_count : ShapeName → ℕ
size_count Line = 1
size_count Ring = 1
size_count Tree = 2
size_count Mesh = 2
size_count Torus = 2
size_count Cylinder = 2

abbrev pub shape_of : ShapeName → ℕ → ℕ → Shape
shape_of Line a b = shapes.Line (record { size = a })
shape_of Ring a b = shapes.Ring (record { size = a })
shape_of Tree a b = shapes.Tree (record { height = a; fat = b })
shape_of Mesh a b = shapes.Mesh (record { first = record { size = a }; second = record { size = b } })
shape_of Torus a b = shapes.Torus (record { first = record { size = a }; second = record { size = b } })
shape_of Cylinder a b = shapes.Cylinder (record { first = record { size = a }; second = record { size = b } })
