-- The network whose nodes are named by their labels. Assumes nothing.
use Rattle.std.specs.Prelude.{ℕ, zero, suc, Bool, cond, ◌&&◌, List, ◌==◌, nat_lt, slice_index}
use Rattle.std.specs.Option.{option_map}
use Rattle.network.specs.declared.hop.Hop.{Hop}
use Rattle.network.specs.Network.{Network, hop, usable_when}
use Rattle.relabelling.specs.declared.labelling.Labelling.{Labelling}

-- the label, of the first k, that stands at the position x (the last, were there several)
abbrev pub label_of : List ℕ → ℕ → ℕ → ℕ
label_of xs zero x = 0
label_of xs (suc k) x = cond (slice_index xs k == x) k (label_of xs k x)

abbrev pub hop_labelled : List ℕ → ℕ → Hop → Hop
hop_labelled xs count h = hop h.port h.class (label_of xs count h.next)

-- Node i is the node at the position of label i, and answers name nodes by their labels.
abbrev pub relabelled_rule : ℕ → List ℕ → Network → Network
relabelled_rule count xs net = record {
  nodes = net.nodes;
  ports = net.ports;
  classes = net.classes;
  ceiling = net.ceiling;
  link = λ n p. option_map (label_of xs count) (net.link (slice_index xs n) p);
  distance = λ n d. net.distance (slice_index xs n) (slice_index xs d);
  escape = λ n d. option_map (hop_labelled xs count) (net.escape (slice_index xs n) (slice_index xs d));
  rank = λ n p e. net.rank (slice_index xs n) p e;
}

-- The network is usable, and there are as many labels as nodes.
abbrev pub relabelled_sized : ℕ → Network → Bool
relabelled_sized count net = nat_lt 0 net.nodes && net.nodes == count

abbrev pub relabelled : Labelling → Network → Network
relabelled l net = usable_when (relabelled_sized l.count net) (relabelled_rule l.count l.positions net)
