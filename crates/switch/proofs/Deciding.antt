-- What the decisions of a cycle are: each grant is a request, no buffer is granted or joined twice, and there is a grant
-- where some buffer requests one. Assumes nothing.
use Rattle.std.proofs.Common.{◌≡◌, ℕ, zero, suc, ◌+◌, ◌*◌, ◌<◌, ◌≤◌, Bool, true, false, cond, not, ◌&&◌, ◌≢◌, ◌⊎◌, List, [], ◌∷◌, ◌++◌, map, length, get_or, set, replicate, Some, None, Option, sym, refl, ap, ◌∙◌, subst, inl, inr, mul-le-mul_right, arith, length-append}
use lib.Arith.{digits_lt}
use lib.ListN.{length-map, length-replicate, get_or-replicate}
use Rattle.std.specs.List.{AllByRecursion}
use Rattle.std.proofs.ByRecursion.{All-get_or, All-weaker, All-map, All-append}
use Rattle.std.proofs.lemmas.List.{get_or_past}
use Rattle.std.proofs.lemmas.Bool.{eqb-true, and_parts, not-true, cases_eq, cases_lt}
use Rattle.queue.specs.declared.packet.Packet.{Packet}
use Rattle.network.specs.Network.{Network}
use Rattle.network.specs.Laws.{Lawful}
use Rattle.network.proofs.Consequences.{bounds_of}
use Rattle.arbiter.specs.declared.entry.Entry.{Entry}
use Rattle.arbiter.specs.Proper.{Proper, Rising}
use Rattle.arbiter.specs.Rule.{Rule, Exists}
use Rattle.switch.specs.declared.grant.Grant.{Grant}
use Rattle.switch.specs.Places.{buffer_count, upstream, port_of, location}
use Rattle.switch.specs.Buffers.{Buffers, contents}
use Rattle.switch.specs.Cycle.{Snapshot, Visit, next_buffer, stands_at, granting, first_request, request, cons_some, requests_from, requests, link_number, entry_of, chosen, next_arbiter, mark, after_visit, decide, node_visits, visits_from, visits}
use Rattle.switch.specs.Invariant.{Placed}
use Rattle.switch.proofs.Numbering.{channels_le}
use Rattle.switch.proofs.Progress.{snap, Idle, idle_empty}
use Rattle.switch.proofs.Forwarding.{Forwarded, Goes, goes}

-- The grant g is what the buffer g .old requests at a visit.
pub record Requested (start : Snapshot) (v : Visit) (g : Grant) : Type 0 where
  pub head : Packet
  pub rest : List Packet
  pub contents_is : contents start.buffers g.old ≡ head ∷ rest
  pub number_is : g.packet ≡ head.number
  pub cycle_is : g.cycle ≡ start.cycle
  pub stands : location start.network g.old ≡ Some v.node
  pub way : next_buffer start v.node v.port head.destination ≡ Some g.new

at_node : (o : Option ℕ) (n : ℕ) → stands_at o n ≡ true → o ≡ Some n
at_node None n h = let z : ◌≡◌ {A = ℕ} 0 1 = cc in absurd (let k : ⊥ = omega arith in k)
at_node (Some m) n h = ap (λ (x : ℕ). Some x) (eqb-true m n h)

module _ (start : Snapshot) (granted : List Bool) (v : Visit) where
  -- It is requested by a buffer that has no grant, one of the k from b on.
  abbrev pub Listed : ℕ → ℕ → Grant → Type 0
  Listed b k g = Requested start v g × (get_or granted g.old false ≡ false) × (b ≤ g.old) × (g.old < b + k)

  granting_is : (b : ℕ) (q : Packet) (g : Grant) (o : Option ℕ) → granting start b q o ≡ Some g
      → (o ≡ Some g.new) × (g.packet ≡ q.number) × (g.old ≡ b) × (g.cycle ≡ start.cycle)
  granting_is b q g None h = let z : ◌≡◌ {A = ℕ} 0 1 = cc in absurd (let k : ⊥ = omega arith in k)
  granting_is b q g (Some c) h =
      let e : record { cycle = start.cycle; packet = q.number; old = b; new = c } ≡ g = cc in (
        ap (λ (x : Grant). Some x.new) e,
        sym (ap (λ (x : Grant). x.packet) e),
        sym (ap (λ (x : Grant). x.old) e),
        sym (ap (λ (x : Grant). x.cycle) e),
      )

  from_first : (b : ℕ) (g : Grant) (xs : List Packet) → contents start.buffers b ≡ xs → location start.network b ≡ Some v.node
      → first_request start v b xs ≡ Some g → Requested start v g × (g.old ≡ b)
  from_first b g [] e s h = let z : ◌≡◌ {A = ℕ} 0 1 = cc in absurd (let k : ⊥ = omega arith in k)
  from_first b g (q ∷ qs) e s h =
      let r = granting_is b q g (next_buffer start v.node v.port q.destination) h in (
        record {
          head = q;
          rest = qs;
          contents_is = ap (λ (x : ℕ). contents start.buffers x) r.2 ∙ e;
          number_is = r.1;
          cycle_is = r.3;
          stands = ap (λ (x : ℕ). location start.network x) r.2 ∙ s;
          way = r.0;
        },
        r.2,
      )

  from_request : (b : ℕ) (g : Grant) → request start granted v b ≡ Some g → Requested start v g × (get_or granted g.old false ≡ false) × (g.old ≡ b)
  unfolding request
  from_request b g h = go (stands_at (location start.network b) v.node && not (get_or granted b false)) refl h
    where
      go : (t : Bool) → (stands_at (location start.network b) v.node && not (get_or granted b false)) ≡ t
          → cond t (first_request start v b (contents start.buffers b)) None ≡ Some g
          → Requested start v g × (get_or granted g.old false ≡ false) × (g.old ≡ b)
      go false t k = let z : ◌≡◌ {A = ℕ} 0 1 = cc in absurd (let k : ⊥ = omega arith in k)
      go true t k =
          let parts = and_parts (stands_at (location start.network b) v.node) (not (get_or granted b false)) t in
          let r = from_first b g (contents start.buffers b) refl (at_node (location start.network b) v.node parts.0) k in
          (r.0, ap (λ (x : ℕ). get_or granted x false) r.1 ∙ not-true (get_or granted b false) parts.1, r.1)

  wider : (b k : ℕ) (g : Grant) → Listed (suc b) k g → Listed b (suc k) g
  wider b k g h = (h.0, h.1, (omega (arith, h.2)), (omega (arith, h.3)))

  -- What is listed is requested, in rising order,
  requests_listed : (k b : ℕ) → AllByRecursion (Listed b k) (requests_from start granted v k b)
  unfolding requests_from
  requests_listed zero b = tt
  requests_listed (suc k) b = go (request start granted v b) refl (requests_listed k (suc b))
    where
      go : (o : Option Grant) → request start granted v b ≡ o → AllByRecursion (Listed (suc b) k) (requests_from start granted v k (suc b))
          → AllByRecursion (Listed b (suc k)) (cons_some o (requests_from start granted v k (suc b)))
      go None e r = All-weaker (Listed (suc b) k) (Listed b (suc k)) (wider b k) _ r
      go (Some g) e r =
          let f = from_request b g e in
          ((f.0, f.1, (omega (arith, f.2)), (omega (arith, f.2))), All-weaker (Listed (suc b) k) (Listed b (suc k)) (wider b k) _ r)

  requests_rising : (k b : ℕ) → Rising (map entry_of (requests_from start granted v k b))
  unfolding requests_from
  requests_rising zero b = tt
  requests_rising (suc k) b = go (request start granted v b) refl (requests_rising k (suc b))
    where
      go : (o : Option Grant) → request start granted v b ≡ o → Rising (map entry_of (requests_from start granted v k (suc b)))
          → Rising (map entry_of (cons_some o (requests_from start granted v k (suc b))))
      go None e r = r
      go (Some g) e r =
          let f = from_request b g e in (
            All-map (λ (x : Entry). g.old < x.buffer) entry_of _
                (All-weaker (Listed (suc b) k) (λ x. g.old < x.old) (λ x h. omega (arith, h.2, f.2)) _ (requests_listed k (suc b))),
            r,
          )

  -- and not more than the buffers;
  requests_few : (k b : ℕ) → length (requests_from start granted v k b) ≤ k
  unfolding requests_from
  requests_few zero b = omega arith
  requests_few (suc k) b = go (request start granted v b) (requests_few k (suc b))
    where
      go : (o : Option Grant) → length (requests_from start granted v k (suc b)) ≤ k → length (cons_some o (requests_from start granted v k (suc b))) ≤ suc k
      go None h = omega arith
      go (Some g) h = omega arith

  -- where nothing is listed no buffer requests anything.
  requests_none : (k b : ℕ) → requests_from start granted v k b ≡ [] → (i : ℕ) → b ≤ i → i < b + k → request start granted v i ≡ None
  unfolding requests_from
  requests_none zero b e i h l = absurd (let z : ⊥ = omega arith in z)
  requests_none (suc k) b e i h l = go (request start granted v b) refl e (requests_none k (suc b)) (cases_eq i b)
    where
      go : (o : Option Grant) → request start granted v b ≡ o → cons_some o (requests_from start granted v k (suc b)) ≡ []
          → (requests_from start granted v k (suc b) ≡ [] → (j : ℕ) → suc b ≤ j → j < suc b + k → request start granted v j ≡ None)
          → (i ≡ b) ⊎ (i ≡ b → ⊥) → request start granted v i ≡ None
      go None x y r (inl s) = ap (λ (j : ℕ). request start granted v j) s ∙ x
      go None x y r (inr d) = r y i (omega arith) (omega arith)
      go (Some g) x y r c = cc

-- The visits: what holds of each,
all_left : {X : Type 0} (P : X → Type 0) (xs ys : List X) → AllByRecursion P (xs ++ ys) → AllByRecursion P xs
all_left P [] ys h = tt
all_left P (x ∷ xs) ys h = (h.0, all_left P xs ys h.1)

all_right : {X : Type 0} (P : X → Type 0) (xs ys : List X) → AllByRecursion P (xs ++ ys) → AllByRecursion P ys
all_right P [] ys h = h
all_right P (x ∷ xs) ys h = all_right P xs ys h.1

module _ (Q : Visit → Type 0) where
  node_all : (n k p : ℕ) → ((j : ℕ) → p ≤ j → j < p + k → Q (record { node = n; port = j })) → AllByRecursion Q (node_visits n k p)
  unfolding node_visits
  node_all n zero p h = tt
  node_all n (suc k) p h = (h p (omega arith) (omega arith), node_all n k (suc p) (λ j a b. h j (omega arith) (omega arith)))

  node_at : (n k p : ℕ) → AllByRecursion Q (node_visits n k p) → (j : ℕ) → p ≤ j → j < p + k → Q (record { node = n; port = j })
  unfolding node_visits
  node_at n zero p h j a b = absurd (let z : ⊥ = omega arith in z)
  node_at n (suc k) p h j a b = go (cases_eq j p) (λ d. node_at n k (suc p) h.1 j (omega arith) (omega arith))
    where
      go : (j ≡ p) ⊎ (j ≡ p → ⊥) → ((j ≡ p → ⊥) → Q (record { node = n; port = j })) → Q (record { node = n; port = j })
      go (inl s) r = subst (λ (x : ℕ). Q (record { node = n; port = x })) (sym s) h.0
      go (inr d) r = r d

  visits_all : (k j n : ℕ) → ((i : ℕ) → n ≤ i → i < n + j → AllByRecursion Q (node_visits i k 0)) → AllByRecursion Q (visits_from k j n)
  unfolding visits_from
  visits_all k zero n h = tt
  visits_all k (suc j) n h =
      All-append Q (node_visits n k 0) (visits_from k j (suc n)) (h n (omega arith) (omega arith)) (visits_all k j (suc n) (λ i a b. h i (omega arith) (omega arith)))

  visits_at : (k j n : ℕ) → AllByRecursion Q (visits_from k j n) → (i : ℕ) → n ≤ i → i < n + j → AllByRecursion Q (node_visits i k 0)
  unfolding visits_from
  visits_at k zero n h i a b = absurd (let z : ⊥ = omega arith in z)
  visits_at k (suc j) n h i a b =
      go (cases_eq i n) (λ d. visits_at k j (suc n) (all_right Q (node_visits n k 0) (visits_from k j (suc n)) h) i (omega arith) (omega arith))
    where
      go : (i ≡ n) ⊎ (i ≡ n → ⊥) → ((i ≡ n → ⊥) → AllByRecursion Q (node_visits i k 0)) → AllByRecursion Q (node_visits i k 0)
      go (inl s) r = subst (λ (x : ℕ). AllByRecursion Q (node_visits x k 0)) (sym s) (all_left Q (node_visits n k 0) (visits_from k j (suc n)) h)
      go (inr d) r = r d

abbrev pub Visitable : Network → Visit → Type 0
Visitable net v = (v.node < net.nodes) × (v.port ≤ net.ports)

visits_visitable : (net : Network) → AllByRecursion (Visitable net) (visits net)
visits_visitable net =
    visits_all (Visitable net) (net.ports + 1) net.nodes 0
    (λ i _ h. node_all (Visitable net) i (net.ports + 1) 0 (λ j _ l. (omega arith, omega arith)))

every_visit : (net : Network) (Q : Visit → Type 0) → AllByRecursion Q (visits net) → (n p : ℕ) → n < net.nodes → p ≤ net.ports → Q (record { node = n; port = p })
every_visit net Q h n p hn hp =
    node_at Q n (net.ports + 1) 0 (visits_at Q (net.ports + 1) net.nodes 0 h n (omega arith) (omega arith)) p (omega arith) (omega arith)

-- and that they are distinct.
abbrev Apart : Visit → Visit → Type 0
Apart u v = u.node ≡ v.node → u.port ≡ v.port → ⊥

abbrev Distinct : List Visit → Type 0
Distinct [] = Unit {0}
Distinct (v ∷ vs) = AllByRecursion (Apart v) vs × Distinct vs

distinct_append : (xs ys : List Visit) → Distinct xs → Distinct ys → AllByRecursion (λ x. AllByRecursion (Apart x) ys) xs → Distinct (xs ++ ys)
distinct_append [] ys a b c = b
distinct_append (x ∷ xs) ys a b c = (All-append (Apart x) xs ys a.0 c.0, distinct_append xs ys a.1 b c.1)

node_distinct : (n k p : ℕ) → Distinct (node_visits n k p)
unfolding node_visits
node_distinct n zero p = tt
node_distinct n (suc k) p = (node_all (Apart (record { node = n; port = p })) n k (suc p) (λ j a b _ e. omega arith), node_distinct n k (suc p))

visits_distinct : (k j n : ℕ) → Distinct (visits_from k j n)
unfolding visits_from
visits_distinct k zero n = tt
visits_distinct k (suc j) n =
    distinct_append (node_visits n k 0) (visits_from k j (suc n)) (node_distinct n k 0) (visits_distinct k j (suc n))
    (node_all (λ x. AllByRecursion (Apart x) (visits_from k j (suc n))) n k 0
    (λ i _ _. visits_all (Apart (record { node = n; port = i })) k j (suc n)
    (λ m a _. node_all (Apart (record { node = n; port = i })) m k 0 (λ l _ _ e _. omega arith))))

-- A grant that the buffers can carry out: its packet is delivered at its destination, or goes over a link one nearer.
abbrev pub Onward : Network → ℕ → ℕ → ℕ → Type 0
Onward net n c d = ((c ≡ buffer_count net) × (d ≡ n)) ⊎ ((p : ℕ) × Forwarded net n p c d)

pub record Fit (net : Network) (bs : Buffers) (g : Grant) : Type 0 where
  pub head : Packet
  pub rest : List Packet
  pub contents_is : contents bs g.old ≡ head ∷ rest
  pub number_is : g.packet ≡ head.number
  pub old_under : g.old < buffer_count net
  pub from : ℕ
  pub stands : location net g.old ≡ Some from
  pub onward : Onward net from g.new head.destination

-- Buffer c is for delivery, or has room and was joined by none of the grants before.
abbrev pub Free : Snapshot → List ℕ → ℕ → Type 0
Free start joined c = (c ≡ buffer_count start.network) ⊎ ((length (contents start.buffers c) < start.depth) × AllByRecursion (λ f. c ≢ f) joined)

-- The grants can be carried out one after another, where some buffers were granted and joined before.
abbrev pub Ready : Snapshot → List Bool → List ℕ → List Grant → Type 0
Ready start granted joined [] = Unit {0}
Ready start granted joined (g ∷ gs) =
    (Fit start.network start.buffers g × (g.cycle ≡ start.cycle) × (get_or granted g.old false ≡ false) × Free start joined g.new)
    × Ready start (set granted g.old true) (g.new ∷ joined) gs

-- What was joined is for delivery, or belongs to no visit that is to come.
abbrev Past : Network → List ℕ → List Visit → Type 0
Past net joined vs = AllByRecursion (λ f. (f ≡ buffer_count net) ⊎ AllByRecursion (λ v. upstream net f ≡ v.node → port_of net f ≡ v.port → ⊥) vs) joined

past_on : (net : Network) (v : Visit) (vs : List Visit) (joined : List ℕ) → Past net joined (v ∷ vs) → Past net joined vs
past_on net v vs joined past = All-weaker _ _ (λ f h. go f h) joined past
  where
    go : (f : ℕ) → (f ≡ buffer_count net) ⊎ AllByRecursion (λ u. upstream net f ≡ u.node → port_of net f ≡ u.port → ⊥) (v ∷ vs)
        → (f ≡ buffer_count net) ⊎ AllByRecursion (λ u. upstream net f ≡ u.node → port_of net f ≡ u.port → ⊥) vs
    go f (inl s) = inl s
    go f (inr a) = inr a.1

module _ (start : Snapshot) (v : Visit) (vs : List Visit) (joined : List ℕ) (past : Past start.network joined (v ∷ vs)) (c d : ℕ) where
  free_from : Goes start v.node v.port c d → Free start joined c
  free_from (inl s) = inl s.0
  free_from (inr f) = inr (f.1, All-weaker _ (λ x. c ≢ x) (λ x h e. go x h e) joined past)
    where
      go : (x : ℕ) → (x ≡ buffer_count start.network) ⊎ AllByRecursion (λ u. upstream start.network x ≡ u.node → port_of start.network x ≡ u.port → ⊥) (v ∷ vs) → c ≡ x → ⊥
      go x (inl s) e = omega (arith, f.0.under, channels_le start.network)
      go x (inr a) e =
          a.0 (ap (λ (y : ℕ). upstream start.network y) (sym e) ∙ f.0.upstream_is) (ap (λ (y : ℕ). port_of start.network y) (sym e) ∙ f.0.port_is)

  past_more : AllByRecursion (Apart v) vs → Goes start v.node v.port c d → Past start.network (c ∷ joined) vs
  past_more apart (inl s) = (inl s.0, past_on start.network v vs joined past)
  past_more apart (inr f) = (
    inr (All-weaker (Apart v) (λ u. upstream start.network c ≡ u.node → port_of start.network c ≡ u.port → ⊥)
        (λ u h a b. h (sym f.0.upstream_is ∙ a) (sym f.0.port_is ∙ b)) vs apart),
    past_on start.network v vs joined past,
  )

onward_from : (start : Snapshot) (n p c d : ℕ) → Goes start n p c d → Onward start.network n c d
onward_from start n p c d (inl s) = inl s
onward_from start n p c d (inr f) = inr (p, f.0)

link_number_under : (net : Network) → Lawful net → (v : Visit) → Visitable net v → link_number net v < 448
link_number_under net law v ok =
    let a : v.node * (net.ports + 1) + v.port < net.nodes * (net.ports + 1) = digits_lt ok.0 (let k = ok.1 in omega arith) in
    let b : net.nodes * (net.ports + 1) ≤ 64 * (net.ports + 1) = mul-le-mul_right (net.ports + 1) (bounds_of net law).nodes_bound in
    omega (arith, (bounds_of net law).ports_bound)

module _ {Arb : Type 0} (start : Snapshot) (law : Lawful start.network) (rule : Rule Arb) (exists : Exists rule) (few : buffer_count start.network ≤ 2048) where
  -- The requests of a visit are a proper question,
  pub proper : (v : Visit) → Visitable start.network v → (granted : List Bool) → 1 ≤ length (requests start granted v)
      → Proper (link_number start.network v) (map entry_of (requests start granted v))
  proper v ok granted some =
      let e = length-map (requests start granted v) entry_of in
      record {
        link_under = link_number_under start.network law v ok;
        some = omega arith;
        few = omega (arith, requests_few start granted v (buffer_count start.network) 0);
        ordered =
            record {
              rising = requests_rising start granted v (buffer_count start.network) 0;
              under = All-map (λ (x : Entry). x.buffer < 2048) entry_of _
                  (All-weaker (Listed start granted v 0 (buffer_count start.network)) (λ g. g.old < 2048) (λ g h. omega (arith, h.3)) _
                  (requests_listed start granted v (buffer_count start.network) 0));
            };
      }

  -- so that the arbiter grants one of them.
  pub chosen_listed : (v : Visit) → Visitable start.network v → (granted : List Bool) (a : Arb) (r : Grant) (rs : List Grant) → requests start granted v ≡ r ∷ rs
      → Listed start granted v 0 (buffer_count start.network) (get_or (r ∷ rs) (rule.place a (link_number start.network v) (map entry_of (r ∷ rs))) r)
  chosen_listed v ok granted a r rs e =
      let some : 1 ≤ length (requests start granted v) = subst (λ (xs : List Grant). 1 ≤ length xs) (sym e) (let k : 1 ≤ length (r ∷ rs) = omega arith in k) in
      let p : Proper (link_number start.network v) (map entry_of (r ∷ rs))
      = subst (λ (xs : List Grant). Proper (link_number start.network v) (map entry_of xs)) e (proper v ok granted some) in
      let u = exists a (link_number start.network v) (map entry_of (r ∷ rs)) p in
      let l = length-map (r ∷ rs) entry_of in
      All-get_or (Listed start granted v 0 (buffer_count start.network)) (r ∷ rs) _ r (omega arith)
      (subst (λ (xs : List Grant). AllByRecursion (Listed start granted v 0 (buffer_count start.network)) xs) e (requests_listed start granted v (buffer_count start.network) 0))

  -- The grants of the visits can be carried out.
  decide_ready : (vs : List Visit) → AllByRecursion (Visitable start.network) vs → Distinct vs → (granted : List Bool) (joined : List ℕ) (a : Arb)
      → Past start.network joined vs → Ready start granted joined (decide start rule vs granted a).grants
  unfolding decide
  decide_ready [] ok apart granted joined a past = tt
  decide_ready (v ∷ vs) ok apart granted joined a past = go (requests start granted v) refl (decide_ready vs ok.1 apart.1)
    where
      go : (os : List Grant) → requests start granted v ≡ os
          → ((gr : List Bool) (fl : List ℕ) (b : Arb) → Past start.network fl vs → Ready start gr fl (decide start rule vs gr b).grants)
          → Ready start granted joined (after_visit start.network rule v (decide start rule vs) granted a os).grants
      go [] e r = r granted joined a (past_on start.network v vs joined past)
      go (o ∷ os) e r =
          let t = chosen_listed v ok.0 granted a o os e in
          let f = t.0 in
          let g = get_or (o ∷ os) (rule.place a (link_number start.network v) (map entry_of (o ∷ os))) o in
          let way = goes start law v.node v.port f.head.destination g.new f.way in (
            (
              record {
                head = f.head;
                rest = f.rest;
                contents_is = f.contents_is;
                number_is = f.number_is;
                old_under = omega (arith, t.3);
                from = v.node;
                stands = f.stands;
                onward = onward_from start v.node v.port g.new f.head.destination way;
              },
              f.cycle_is,
              t.1,
              free_from start v vs joined past g.new f.head.destination way,
            ),
            r _ _ _ (past_more start v vs joined past g.new f.head.destination apart.0 way),
          )

-- No more grants than visits.
decide_few : {Arb : Type 0} (start : Snapshot) (rule : Rule Arb) (vs : List Visit) (granted : List Bool) (a : Arb) → length (decide start rule vs granted a).grants ≤ length vs
unfolding decide
decide_few start rule [] granted a = omega arith
decide_few start rule (v ∷ vs) granted a = go (requests start granted v) (decide_few start rule vs)
  where
    go : (os : List Grant) → ((gr : List Bool) (b : _) → length (decide start rule vs gr b).grants ≤ length vs)
        → length (after_visit start.network rule v (decide start rule vs) granted a os).grants ≤ suc (length vs)
    go [] r = omega (arith, r granted a)
    go (o ∷ os) r = omega (arith, r (mark (chosen start.network rule v a (o ∷ os)) granted) (next_arbiter start.network rule v a (o ∷ os)))

length_node : (n k p : ℕ) → length (node_visits n k p) ≡ k
unfolding node_visits
length_node n zero p = refl
length_node n (suc k) p = ap suc (length_node n k (suc p))

pub length_visits : (k j n : ℕ) → length (visits_from k j n) ≡ j * k
unfolding visits_from
length_visits k zero n = omega arith
length_visits k (suc j) n =
    let a = length-append (node_visits n k 0) (visits_from k j (suc n)) in
    let b = length_node n k 0 in
    let c = length_visits k j (suc n) in
    omega arith

-- Where nothing is granted, nothing was requested.
decide_none : {Arb : Type 0} (start : Snapshot) (rule : Rule Arb) (vs : List Visit) (granted : List Bool) (a : Arb) → (decide start rule vs granted a).grants ≡ []
    → AllByRecursion (λ v. requests start granted v ≡ []) vs
unfolding decide
decide_none start rule [] granted a h = tt
decide_none start rule (v ∷ vs) granted a h = go (requests start granted v) refl h (decide_none start rule vs granted a)
  where
    go : (os : List Grant) → requests start granted v ≡ os → (after_visit start.network rule v (decide start rule vs) granted a os).grants ≡ []
        → ((decide start rule vs granted a).grants ≡ [] → AllByRecursion (λ x. requests start granted x ≡ []) vs)
        → (requests start granted v ≡ []) × AllByRecursion (λ x. requests start granted x ≡ []) vs
    go [] e k r = (e, r k)
    go (o ∷ os) e k r = let z : ◌≡◌ {A = ℕ} 0 1 = cc in absurd (let f : ⊥ = omega arith in f)

no_grants : (t b : ℕ) → get_or (replicate t false) b false ≡ false
no_grants t b = go (cases_lt b t)
  where
    go : (b < t) ⊎ (t ≤ b) → get_or (replicate t false) b false ≡ false
    go (inl h) = get_or-replicate t b false false h
    go (inr h) = get_or_past (replicate t false) b false (let l = length-replicate t false in omega arith)

-- The decisions of a whole cycle.
module _ {Arb : Type 0} (net : Network) (law : Lawful net) (rule : Rule Arb) (exists : Exists rule) (depth now : ℕ) (bs : Buffers) (a : Arb) (few : buffer_count net ≤ 2048) where
  abbrev pub cycle_grants : List Grant
  cycle_grants = (decide (snap net depth now bs) rule (visits net) (replicate (buffer_count net) false) a).grants

  pub cycle_ready : Ready (snap net depth now bs) (replicate (buffer_count net) false) [] cycle_grants
  cycle_ready =
      decide_ready (snap net depth now bs) law rule exists few (visits net) (visits_visitable net) (visits_distinct (net.ports + 1) net.nodes 0)
      (replicate (buffer_count net) false) [] a tt

  -- They fit the trace.
  pub cycle_few : length cycle_grants ≤ net.nodes * (net.ports + 1)
  cycle_few =
      let l = decide_few (snap net depth now bs) rule (visits net) (replicate (buffer_count net) false) a in
      let v = length_visits (net.ports + 1) net.nodes 0 in
      omega arith

  -- A cycle that begins with a packet inside makes a grant.
  pub cycle_some : 1 ≤ depth → ((b : ℕ) → b < buffer_count net → AllByRecursion (Placed net b) (contents bs b))
      → (b : ℕ) (q : Packet) (qs : List Packet) → b < buffer_count net → contents bs b ≡ q ∷ qs → 1 ≤ length cycle_grants
  cycle_some deep placed b q qs hb e = go cycle_grants refl
    where
      go : (gs : List Grant) → cycle_grants ≡ gs → 1 ≤ length gs
      go (g ∷ gs) k = omega arith
      go [] k =
          let start = snap net depth now bs in
          let granted = replicate (buffer_count net) false in
          let none = decide_none start rule (visits net) granted a k in
          let idle : Idle start granted
          = λ n p i hn hp hi. requests_none start granted (record { node = n; port = p }) (buffer_count net) 0
          (every_visit net (λ v. requests start granted v ≡ []) none n p hn hp) i (omega arith) (omega arith) in
          absurd (idle_empty net law depth now deep bs granted (no_grants (buffer_count net)) placed idle b q qs hb e)
