-- Worked examples, in one list. Assumes nothing.
use Rattle.std.specs.Prelude.{◌≡◌, ℕ, List, [], ◌∷◌, Some, None, Option}
use Rattle.network.specs.declared.hop.Hop.{Hop}
use Rattle.network.specs.Network.{Network, hop}
use Rattle.line.specs.Lines.{line}
use Rattle.ring.specs.Rings.{ring}
use Rattle.tree.specs.Trees.{tree}
use Rattle.product.specs.Products.{product}

-- a network, what is asked of it, and the answer
pub data Example : Type 0 where
  escapes : Network → ℕ → ℕ → Hop → ℕ → Example
  links : Network → ℕ → ℕ → Option ℕ → Example
  measures : Network → ℕ → ℕ → ℕ → Example
  counts : Network → ℕ → Example

-- From n to d escape names the hop, whose channel has the rank r; port p of n leads to o; the distance is k; there are k nodes.
abbrev pub Holds : Example → Type 0
Holds (escapes net n d h r) = (net.escape n d ≡ Some h) × (net.rank n h.port h.class ≡ r)
Holds (links net n p o) = net.link n p ≡ o
Holds (measures net n d k) = net.distance n d ≡ k
Holds (counts net k) = net.nodes ≡ k

abbrev pub Every : List Example → Type 0
Every [] = Unit {0}
Every (x ∷ xs) = Holds x × Every xs

abbrev pub examples : List Example
examples =
    escapes (ring 8) 6 1 (hop 0 0 7) 6
    ∷ escapes (ring 8) 0 1 (hop 0 1 1) 8
    ∷ escapes (ring 8) 2 6 (hop 0 1 3) 10
    ∷ measures (tree 2 1) 3 6 4
    ∷ escapes (tree 2 1) 3 6 (hop 0 0 1) 0
    ∷ escapes (tree 2 1) 1 6 (hop 0 0 0) 1
    ∷ escapes (tree 2 1) 0 6 (hop 4 0 2) 2
    ∷ escapes (tree 2 1) 2 6 (hop 4 0 6) 3
    ∷ links (tree 2 1) 1 1 (Some 0)
    ∷ links (tree 2 1) 3 1 None
    ∷ escapes (product (line 3) (ring 4)) 9 0 (hop 2 0 0) 6
    ∷ counts (product (line 8) (line 9)) 0
    ∷ []
