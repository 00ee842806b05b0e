-- That a network keeps the laws holds in one way only, so it comes out of a truncation. Assumes nothing.
use Rattle.std.proofs.Common.{◌≡◌, ℕ, Some, None, Option, refl, ap}
use mathlib.Core.HLevel.{⊥_prop, Discrete, hedberg}
use mathlib.Core.Logic.{∥∥₁_elim}
use native.Mathlib.Nat.{ℕ_set}
use native.Mathlib.Bridge.{le_prop}
use native.Mathlib.Decide.{ℕ_discrete}
use Rattle.network.specs.declared.hop.Hop.{Hop}
use Rattle.network.specs.Network.{Network}
use Rattle.network.specs.Laws.{Sizes, Distances, Leads, Outside, Empty, Lawful}
use Rattle.network.proofs.Options.{some_none}

option_discrete : {X : Type 0} → Discrete X → Discrete (Option X)
option_discrete d None None = yes refl
option_discrete d None (Some b) = no (λ e. some_none None b e refl)
option_discrete d (Some a) None = no (λ e. some_none (Some a) a refl e)
option_discrete {X} d (Some a) (Some b) = elim (d a b) [ yes e ↦ yes (ap {B = Option X} Some e) | no n ↦ no (λ e. n (cc)) ]

hop_discrete : Discrete Hop
hop_discrete x y = elim (ℕ_discrete x.port y.port) [
  | no n ↦ no (λ e. n (ap (λ (h : Hop). h.port) e))
  | yes a ↦ elim (ℕ_discrete x.class y.class) [
    | no n ↦ no (λ e. n (ap (λ (h : Hop). h.class) e))
    | yes b ↦ elim (ℕ_discrete x.next y.next) [
      | no n ↦ no (λ e. n (ap (λ (h : Hop). h.next) e))
      | yes c ↦ yes (λ i. record { port = a i; class = b i; next = c i })
    ]
  ]
]

pub node_set : (x y : Option ℕ) → IsProp (x ≡ y)
node_set = hedberg (option_discrete ℕ_discrete)

hop_set : (x y : Option Hop) → IsProp (x ≡ y)
hop_set = hedberg (option_discrete hop_discrete)

module _ (net : Network) where
  sizes_prop : IsProp (Sizes net)
  sizes_prop p q = λ i. record {
    nodes_low = le_prop p.nodes_low q.nodes_low i;
    nodes_high = le_prop p.nodes_high q.nodes_high i;
    ports_low = le_prop p.ports_low q.ports_low i;
    ports_high = le_prop p.ports_high q.ports_high i;
    classes_low = le_prop p.classes_low q.classes_low i;
    classes_high = le_prop p.classes_high q.classes_high i;
    ceiling_low = le_prop p.ceiling_low q.ceiling_low i;
    ceiling_high = le_prop p.ceiling_high q.ceiling_high i;
  }

  distances_prop : IsProp (Distances net)
  distances_prop p q = λ i. record {
    near = λ n d a b. le_prop (p.near n d a b) (q.near n d a b) i;
    here = λ n a. ℕ_set _ _ (p.here n a) (q.here n a) i;
    apart = λ n d a b z. ℕ_set _ _ (p.apart n d a b z) (q.apart n d a b z) i;
  }

  leads_prop : (n d : ℕ) (o : Option Hop) → IsProp (Leads net n d o)
  leads_prop n d None p q = ⊥_prop p q
  leads_prop n d (Some h) p q = λ i. record {
    port_in = le_prop p.port_in q.port_in i;
    class_in = le_prop p.class_in q.class_in i;
    along = node_set _ _ p.along q.along i;
    less = ℕ_set _ _ p.less q.less i;
  }

  outside_prop : IsProp (Outside net)
  outside_prop p q = λ i. record {
    no_link = λ n k f. node_set _ _ (p.no_link n k f) (q.no_link n k f) i;
    no_distance = λ n d f. ℕ_set _ _ (p.no_distance n d f) (q.no_distance n d f) i;
    no_escape = λ n d f. hop_set _ _ (p.no_escape n d f) (q.no_escape n d f) i;
    no_rank = λ n k e f. ℕ_set _ _ (p.no_rank n k e f) (q.no_rank n k e f) i;
    unlinked = λ n k e f. ℕ_set _ _ (p.unlinked n k e f) (q.unlinked n k e f) i;
  }

  empty_prop : IsProp (Empty net)
  empty_prop p q = λ i. record {
    no_ports = ℕ_set _ _ p.no_ports q.no_ports i;
    no_classes = ℕ_set _ _ p.no_classes q.no_classes i;
    no_ceiling = ℕ_set _ _ p.no_ceiling q.no_ceiling i;
  }

  pub lawful_prop : IsProp (Lawful net)
  lawful_prop p q = λ i. record {
    sizes = λ z. sizes_prop (p.sizes z) (q.sizes z) i;
    distances = distances_prop p.distances q.distances i;
    steps = λ n k m d a b c l. le_prop (p.steps n k m d a b c l) (q.steps n k m d a b c l) i;
    escapes = λ n d a b c. leads_prop n d (net.escape n d) (p.escapes n d a b c) (q.escapes n d a b c) i;
    ceilings = λ n k e a b c. le_prop (p.ceilings n k e a b c) (q.ceilings n k e a b c) i;
    rises = λ n d h j a b c l s m. le_prop (p.rises n d h j a b c l s m) (q.rises n d h j a b c l s m) i;
    links = λ n k m a b l. le_prop (p.links n k m a b l) (q.links n k m a b l) i;
    outside = outside_prop p.outside q.outside i;
    empty = λ z. empty_prop (p.empty z) (q.empty z) i;
  }

  pub lawful_out : ∥ Lawful net ∥₁ → Lawful net
  lawful_out t = ∥∥₁_elim t lawful_prop (λ l. l)
