-- Freedom from deadlock: where a packet is inside, some first packet may use some port. Assumes nothing.
use Rattle.std.proofs.Common.{◌≡◌, ℕ, zero, suc, ◌+◌, ◌<◌, ◌≤◌, Bool, true, false, cond, ◌&&◌, eqb, ◌≢◌, List, [], ◌∷◌, length, get_or, Some, None, Option, sym, refl, ◌∙◌, subst, add-one, arith}
use Rattle.std.specs.List.{AllByRecursion}
use Rattle.std.proofs.lemmas.Bool.{ltb-false, eq-eqb, ne_eqb, cond-true}
use Rattle.queue.specs.declared.packet.Packet.{Packet}
use Rattle.network.specs.declared.hop.Hop.{Hop}
use Rattle.network.specs.Network.{Network}
use Rattle.network.specs.Laws.{Lawful, Leads}
use Rattle.network.proofs.Options.{some_none}
use Rattle.network.proofs.Consequences.{hop_nearer, hop_node, hop_rises, rank_under}
use Rattle.switch.specs.Places.{channel_count, buffer_count, channel_buffer, upstream, port_of, channel_of, location}
use Rattle.switch.specs.Buffers.{Buffers, contents}
use Rattle.switch.specs.Cycle.{Snapshot, Visit, has_room, is_nearer, by_escape, next_buffer, stands_at, granting, first_request, request}
use Rattle.switch.specs.Invariant.{Placed}
use Rattle.switch.proofs.Numbering.{buffer_upstream, buffer_port, buffer_channel, buffer_under, location_buffer, channels_le}

abbrev pub snap : Network → ℕ → ℕ → Buffers → Snapshot
snap net depth now bs = record { network = net; depth = depth; cycle = now; buffers = bs }

-- A packet at its destination may use the delivery port.
home_way : (start : Snapshot) (n d : ℕ) → d ≡ n → next_buffer start n start.network.ports d ≡ Some (buffer_count start.network)
unfolding next_buffer
home_way start n d e =
    cond-true (eqb start.network.ports start.network.ports) _ _ (eq-eqb start.network.ports start.network.ports refl)
    ∙ cond-true (eqb d n) _ _ (eq-eqb d n e)

third_none : {X : Type 0} (b t : Bool) (x y z : Option X) (v : X) → b ≡ false → y ≡ Some v → cond b x (cond t y z) ≡ None → z ≡ None
third_none true t x y z v e f h = let k : true ≡ false = e in cc
third_none false true x y z v e f h = cc
third_none false false x y z v e f h = h

no_room : {X : Type 0} (a r : Bool) (x : X) → a ≡ true → cond (a && r) (Some x) None ≡ None → r ≡ false
no_room true true x e h = cc
no_room true false x e h = refl
no_room false r x e h = cc

-- Where a packet may not use the port of its escape hop, the buffer of that channel is full.
full_way : (start : Snapshot) (n d : ℕ) (a : Hop) → start.network.escape n d ≡ Some a → a.port < start.network.ports
    → next_buffer start n a.port d ≡ None → start.depth ≤ length (contents start.buffers (channel_buffer start.network n a.port (a.class + 1)))
unfolding next_buffer
full_way start n d a e h none =
    let net = start.network in
    let k : by_escape start n a.port (net.escape n d) ≡ None
    = third_none (eqb a.port net.ports) (is_nearer net n d (net.link n a.port) && has_room start (channel_buffer net n a.port 0))
    _ _ _ (channel_buffer net n a.port 0) (ne_eqb a.port net.ports (omega arith)) refl none in
    let k' : by_escape start n a.port (Some a) ≡ None = rw e at k in
    ltb-false _ _ (no_room (eqb a.port a.port) (has_room start (channel_buffer net n a.port (a.class + 1))) _ (eq-eqb a.port a.port refl) k')

-- No buffer requests anything, where none has a grant.
abbrev pub Idle : Snapshot → List Bool → Type 0
Idle start granted =
    (n p b : ℕ) → n < start.network.nodes → p ≤ start.network.ports → b < buffer_count start.network → request start granted (record { node = n; port = p }) b ≡ None

head_none : (start : Snapshot) (granted : List Bool) (v : Visit) (b : ℕ) (q : Packet) (qs : List Packet) → get_or granted b false ≡ false
    → contents start.buffers b ≡ q ∷ qs → location start.network b ≡ Some v.node → request start granted v b ≡ None
    → next_buffer start v.node v.port q.destination ≡ None
unfolding request
head_none start granted v b q qs free e s h =
    let k : cond (stands_at (Some v.node) v.node && true) (first_request start v b (q ∷ qs)) None ≡ None = rw (s, e, free) at h in
    let t : eqb v.node v.node ≡ true = eq-eqb v.node v.node refl in
    let k' : cond (true && true) (first_request start v b (q ∷ qs)) None ≡ None = rw t at k in
    from_none (next_buffer start v.node v.port q.destination) k'
  where
    from_none : (o : Option ℕ) → granting start b q o ≡ None → o ≡ None
    from_none None g = refl
    from_none (Some x) g = cc

has_head : (xs : List Packet) → 1 ≤ length xs → (q : Packet) × (qs : List Packet) × (xs ≡ q ∷ qs)
has_head [] h = absurd (let k : ⊥ = omega arith in k)
has_head (q ∷ qs) h = (q, qs, refl)

-- Between two nodes that differ, escape names a hop.
named : (net : Network) → Lawful net → (n d : ℕ) → n < net.nodes → d < net.nodes → n ≢ d → (a : Hop) × (net.escape n d ≡ Some a)
named net law n d hn hd ne = go (net.escape n d) refl (law.escapes n d hn hd ne)
  where
    go : (o : Option Hop) → net.escape n d ≡ o → Leads net n d o → (a : Hop) × (net.escape n d ≡ Some a)
    go None e l = absurd l
    go (Some a) e l = (a, e)

module _ (net : Network) (law : Lawful net) (depth now : ℕ) (deep : 1 ≤ depth) (bs : Buffers) (granted : List Bool) (free : (b : ℕ) → get_or granted b false ≡ false)
    (placed : (b : ℕ) → b < buffer_count net → AllByRecursion (Placed net b) (contents bs b)) (idle : Idle (snap net depth now bs) granted) where
  -- The first packet of a buffer that stands at n is not at its destination, and its escape channel holds a packet.
  onward : (b n : ℕ) (q : Packet) (qs : List Packet) → b < buffer_count net → contents bs b ≡ q ∷ qs → location net b ≡ Some n → n < net.nodes → q.destination < net.nodes
      → (a : Hop) × (net.escape n q.destination ≡ Some a) × (1 ≤ length (contents bs (channel_buffer net n a.port (a.class + 1))))
  onward b n q qs hb e s hn hd =
      let start = snap net depth now bs in
      let away : n ≢ q.destination
      = λ x. some_none _ _ (home_way start n q.destination (sym x))
      (head_none start granted (record { node = n; port = net.ports }) b q qs (free b) e s (idle n net.ports b hn (omega arith) hb)) in
      let l = named net law n q.destination hn hd away in
      let a = l.0 in
      let pu = (hop_nearer net law n q.destination a l.1).port_in in
      let f = head_none start granted (record { node = n; port = a.port }) b q qs (free b) e s (idle n a.port b hn (omega arith) hb) in
      let g = full_way start n q.destination a l.1 pu f in
      (a, l.1, omega arith)

  -- A chain of full escape channels would climb past the ceiling.
  climb : (fuel n d : ℕ) (a : Hop) → n < net.nodes → d < net.nodes → net.escape n d ≡ Some a
      → 1 ≤ length (contents bs (channel_buffer net n a.port (a.class + 1))) → net.ceiling ≤ net.rank n a.port a.class + fuel → ⊥
  climb zero n d a hn hd e full top = omega (arith, rank_under net law (omega arith) n a.port a.class)
  climb (suc fuel) n d a hn hd e full top =
      let l = hop_nearer net law n d a e in
      let b = channel_buffer net n a.port (a.class + 1) in
      let cu : a.class + 1 < net.classes + 1 = omega (arith, l.class_in) in
      let bc : b < channel_count net = buffer_under net n a.port (a.class + 1) hn l.port_in cu in
      let bt : b < buffer_count net = omega (arith, channels_le net) in
      let z = has_head (contents bs b) full in
      let q = z.0 in
      let all : AllByRecursion (Placed net b) (q ∷ z.1) = subst (λ (xs : List Packet). AllByRecursion (Placed net b) xs) z.2 (placed b bt) in
      let pl : Placed net b q = all.0 in
      let ch : channel_of net b ≡ suc a.class = buffer_channel net n a.port (a.class + 1) cu ∙ add-one a.class in
      let es = pl.by_escape a.class bc ch in
      let a' = es.0 in
      let from : upstream net b ≡ n = buffer_upstream net n a.port (a.class + 1) l.port_in cu in
      let by : port_of net b ≡ a.port = buffer_port net n a.port (a.class + 1) l.port_in cu in
      let ee : net.escape n q.destination ≡ Some a' = subst (λ (x : ℕ). net.escape x q.destination ≡ Some a') from es.1 in
      let same_port : a'.port ≡ a.port = es.2 ∙ by in
      let same_class : a'.class ≡ a.class = es.3 in
      let l' = hop_nearer net law n q.destination a' ee in
      let same_next : a'.next ≡ a.next = let f = l.along in let g = l'.along in cc in
      let st : location net b ≡ Some a.next = location_buffer net n a.port (a.class + 1) hn l.port_in cu ∙ l.along in
      let at : a.next < net.nodes = hop_node net law n d a e in
      let o = onward b a.next q z.1 bt z.2 st at pl.bound in
      let up : net.rank n a'.port a'.class < net.rank a'.next o.0.port o.0.class
      = hop_rises net law n q.destination a' o.0 ee (subst (λ (x : ℕ). net.escape x q.destination ≡ Some o.0) (sym same_next) o.1) in
      let r1 : net.rank n a'.port a'.class ≡ net.rank n a.port a.class = cc in
      let r2 : net.rank a'.next o.0.port o.0.class ≡ net.rank a.next o.0.port o.0.class = cc in
      climb fuel a.next q.destination o.0 at pl.bound o.1 o.2 (omega (arith, up, r1, r2, top))

  -- If no buffer requests anything, every buffer is empty.
  pub idle_empty : (b : ℕ) (q : Packet) (qs : List Packet) → b < buffer_count net → contents bs b ≡ q ∷ qs → ⊥
  idle_empty b q qs hb e =
      let all : AllByRecursion (Placed net b) (q ∷ qs) = subst (λ (xs : List Packet). AllByRecursion (Placed net b) xs) e (placed b hb) in
      let pl : Placed net b q = all.0 in
      let o = onward b pl.at q qs hb e pl.stands pl.at_node pl.bound in
      climb net.ceiling pl.at q.destination o.0 pl.at_node pl.bound o.1 o.2 (omega arith)
