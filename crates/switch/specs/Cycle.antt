-- One cycle of the switch: who requests which port, what is granted, and how the granted packets move. Assumes nothing.
use Rattle.std.specs.Prelude.{ℕ, zero, suc, ◌+◌, ◌*◌, Bool, true, false, cond, not, ◌&&◌, List, [], ◌∷◌, ◌++◌, map, length, Some, None, Option, ◌==◌, nat_lt, slice_index_or, slice_set}
use Rattle.queue.specs.declared.packet.Packet.{Packet}
use Rattle.network.specs.declared.hop.Hop.{Hop}
use Rattle.network.specs.Network.{Network}
use Rattle.arbiter.specs.declared.entry.Entry.{Entry}
use Rattle.arbiter.specs.Rule.{Rule}
use Rattle.switch.specs.declared.grant.Grant.{Grant}
use Rattle.switch.specs.Places.{buffer_count, channel_buffer, location}
use Rattle.switch.specs.Buffers.{Buffers, contents, enqueue}

-- What a cycle decides from: the network, the depth of its buffers, the cycle's number, and the buffers at its start.
pub record Snapshot : Type 0 where
  pub network : Network
  pub depth : ℕ
  pub cycle : ℕ
  pub buffers : Buffers

abbrev pub has_room : Snapshot → ℕ → Bool
has_room start b = nat_lt (length (contents start.buffers b)) start.depth

-- The far end of a link, if there is one, is one nearer to d than n is.
abbrev pub is_nearer : Network → ℕ → ℕ → Option ℕ → Bool
is_nearer net n d None = false
is_nearer net n d (Some m) = net.distance m d + 1 == net.distance n d

-- The buffer of the escape channel that a packet at n may use by port p, where escape names the hop.
abbrev pub by_escape : Snapshot → ℕ → ℕ → Option Hop → Option ℕ
by_escape start n p None = None
by_escape start n p (Some h) =
    let b = channel_buffer start.network n p (h.class + 1) in
    cond (h.port == p && has_room start b) (Some b) None

-- The buffer that a packet at n for d joins by port p: adaptively where it may, else by escape; the number of buffers
-- where it is delivered; none where it may not use the port.
unfoldable pub next_buffer : Snapshot → ℕ → ℕ → ℕ → Option ℕ
next_buffer start n p d =
    let net = start.network in
    let adaptive = channel_buffer net n p 0 in
    cond (p == net.ports)
    (cond (d == n) (Some (buffer_count net)) None)
    (cond (is_nearer net n d (net.link n p) && has_room start adaptive)
    (Some adaptive)
    (by_escape start n p (net.escape n d)))

-- A visit of a port at a node; port P is the delivery port.
pub record Visit : Type 0 where
  pub node : ℕ
  pub port : ℕ

abbrev pub stands_at : Option ℕ → ℕ → Bool
stands_at None n = false
stands_at (Some m) n = m == n

-- The grant that moves the packet q from buffer b.
abbrev pub granting : Snapshot → ℕ → Packet → Option ℕ → Option Grant
granting start b q None = None
granting start b q (Some c) = Some (record { cycle = start.cycle; packet = q.number; old = b; new = c })

abbrev pub first_request : Snapshot → Visit → ℕ → List Packet → Option Grant
first_request start v b [] = None
first_request start v b (q ∷ qs) = granting start b q (next_buffer start v.node v.port q.destination)

-- The grant that buffer b requests at a visit, given which buffers have a grant in this cycle already.
unfoldable pub request : Snapshot → List Bool → Visit → ℕ → Option Grant
request start granted v b =
    cond (stands_at (location start.network b) v.node && not (slice_index_or granted b false))
    (first_request start v b (contents start.buffers b))
    None

abbrev pub cons_some : Option Grant → List Grant → List Grant
cons_some None gs = gs
cons_some (Some g) gs = g ∷ gs

-- The requests of the k buffers from b on, in rising order.
unfoldable pub requests_from : Snapshot → List Bool → Visit → ℕ → ℕ → List Grant
requests_from start granted v zero b = []
requests_from start granted v (suc k) b = cons_some (request start granted v b) (requests_from start granted v k (suc b))

abbrev pub requests : Snapshot → List Bool → Visit → List Grant
requests start granted v = requests_from start granted v (buffer_count start.network) 0

-- The arbiter is asked with the link's number and an entry for each request.
abbrev pub link_number : Network → Visit → ℕ
link_number net v = v.node * (net.ports + 1) + v.port

abbrev pub entry_of : Grant → Entry
entry_of g = record { buffer = g.old; packet = g.packet }

-- The request that is granted, if there is one.
abbrev pub chosen : {State : Type 0} → Network → Rule State → Visit → State → List Grant → Option Grant
chosen net rule v a [] = None
chosen net rule v a (r ∷ rs) = Some (slice_index_or (r ∷ rs) (rule.place a (link_number net v) (map entry_of (r ∷ rs))) r)

-- The arbiter's state after the visit.
abbrev pub next_arbiter : {State : Type 0} → Network → Rule State → Visit → State → List Grant → State
next_arbiter net rule v a [] = a
next_arbiter net rule v a (r ∷ rs) = rule.next a (link_number net v) (map entry_of (r ∷ rs))

-- The buffer of a grant has a grant now.
abbrev pub mark : Option Grant → List Bool → List Bool
mark None granted = granted
mark (Some g) granted = slice_set granted g.old true

pub record Decisions (State : Type 0) : Type 0 where
  pub grants : List Grant
  pub arbiter : State

-- A visit with its requests, and then the rest of the cycle.
abbrev pub after_visit : {State : Type 0} → Network → Rule State → Visit → (List Bool → State → Decisions State) → List Bool → State → List Grant → Decisions State
after_visit net rule v rest granted a rs =
    let g = chosen net rule v a rs in
    let r = rest (mark g granted) (next_arbiter net rule v a rs) in
    record { grants = cons_some g r.grants; arbiter = r.arbiter }

-- The decisions of the visits, in order.
unfoldable pub decide : {State : Type 0} → Snapshot → Rule State → List Visit → List Bool → State → Decisions State
decide start rule [] granted a = record { grants = []; arbiter = a }
decide start rule (v ∷ vs) granted a =
    after_visit start.network rule v (decide start rule vs) granted a (requests start granted v)

-- The visits of k ports from p on at node n,
unfoldable pub node_visits : ℕ → ℕ → ℕ → List Visit
node_visits n zero p = []
node_visits n (suc k) p = record { node = n; port = p } ∷ node_visits n k (suc p)

-- and of all k ports at j nodes from n on.
unfoldable pub visits_from : ℕ → ℕ → ℕ → List Visit
visits_from k zero n = []
visits_from k (suc j) n = node_visits n k 0 ++ visits_from k j (suc n)

-- The visits of a cycle: the nodes in rising order, and at each its ports and then the delivery port.
abbrev pub visits : Network → List Visit
visits net = visits_from (net.ports + 1) net.nodes 0

abbrev pub delivers : Network → Grant → Bool
delivers net g = g.new == buffer_count net

abbrev pub hopped : Packet → Packet
hopped q = record { number = q.number; source = q.source; destination = q.destination; hops = q.hops + 1 }

-- The first packet leaves its buffer; among t buffers it is delivered, or joins its new buffer a hop further.
abbrev pub forward : ℕ → Buffers → Grant → List Packet → Buffers
forward t bs g [] = bs
forward t bs g (q ∷ qs) =
    let left = slice_set bs g.old qs in
    cond (g.new == t) left (enqueue left g.new (hopped q))

unfoldable pub move : ℕ → Buffers → Grant → Buffers
move t bs g = forward t bs g (contents bs g.old)

-- The grants carried out one after another.
unfoldable pub moves : ℕ → Buffers → List Grant → Buffers
moves t bs [] = bs
moves t bs (g ∷ gs) = moves t (move t bs g) gs
