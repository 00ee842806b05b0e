-- One grant keeps the buffers consistent with the history. Assumes nothing.
use Rattle.std.proofs.Common.{◌≡◌, ℕ, ◌+◌, ◌<◌, Bool, cond, eqb, ◌⊎◌, List, [], ◌∷◌, ◌++◌, length, get_or, set, Some, Option, sym, refl, ap, ◌∙◌, subst, inl, inr, arith, length-set}
use Rattle.std.specs.List.{AllByRecursion}
use Rattle.std.proofs.ByRecursion.{All-push, All-weaker}
use Rattle.std.proofs.lemmas.Bool.{eq-eqb, ne_eqb, cases_eq}
use Rattle.queue.specs.declared.packet.Packet.{Packet}
use Rattle.network.specs.Network.{Network}
use Rattle.network.specs.Laws.{Lawful}
use Rattle.network.proofs.Consequences.{link_asked}
use Rattle.switch.specs.declared.grant.Grant.{Grant}
use Rattle.switch.specs.Places.{buffer_count, location}
use Rattle.switch.specs.Buffers.{Buffers, enqueue, total_from, distance_from, packet_work, work_left}
use Rattle.switch.specs.Cycle.{hopped, move}
use Rattle.switch.specs.Calls.{Endpoints}
use Rattle.switch.specs.History.{no_endpoints, own_distance, hops_of, deliveries_of, grants_of, position, work_of}
use Rattle.switch.specs.Law.{HopOver, DeliveryAt, Journey}
use Rattle.switch.specs.Invariant.{InEach, Good, Hops, Travelled, Consistent, is_number, held}
use Rattle.switch.proofs.Numbering.{channels_le}
use Rattle.switch.proofs.Totals.{each_pop, each_push, total_pop, total_push, total_zero, move_is, move_out}
use Rattle.switch.proofs.Tallies.{hops_other, hops_mine, hops_out, deliveries_other, deliveries_hop, deliveries_mine, all_hop, all_out, position_other, position_hop, ends_change, grants_of_mine, grants_of_other, hops_on, hops_end}
use Rattle.switch.proofs.Forwarding.{Forwarded}
use Rattle.switch.proofs.Deciding.{Fit, Onward}

pub all_both : {X : Type 0} (P Q R : X → Type 0) → ((x : X) → P x → Q x → R x) → (xs : List X) → AllByRecursion P xs → AllByRecursion Q xs → AllByRecursion R xs
all_both P Q R f [] a b = tt
all_both P Q R f (x ∷ xs) a b = (f x a.0 b.0, all_both P Q R f xs a.1 b.1)

not_number : (k b : ℕ) (q : Packet) → is_number k b q ≡ 0 → q.number ≡ k → ⊥
not_number k b q h e =
    let f : is_number k b q ≡ 1 = ap (λ (t : Bool). cond {A = ℕ} t 1 0) (eq-eqb q.number k e) in
    omega arith

module _ (net : Network) (law : Lawful net) (es : List Endpoints) (gs : List Grant) (bs : Buffers) (inv : Consistent net es gs bs) (g : Grant) (fit : Fit net bs g) where
  under : g.old < length bs
  under = omega (arith, fit.old_under, inv.sized)

  mine : Good net es gs g.old fit.head
  mine =
      let all : AllByRecursion (Good net es gs g.old) (fit.head ∷ fit.rest)
      = subst (λ (xs : List Packet). AllByRecursion (Good net es gs g.old) xs) fit.contents_is (inv.good g.old fit.old_under) in
      all.0

  popped : (f : ℕ → Packet → ℕ) → total_from f 0 (set bs g.old fit.rest) + f g.old fit.head ≡ total_from f 0 bs
  popped f = total_pop f bs g.old fit.head fit.rest under fit.contents_is

  one : (b : ℕ) → is_number fit.head.number b fit.head ≡ 1
  one b = ap (λ (t : Bool). cond {A = ℕ} t 1 0) (eq-eqb fit.head.number fit.head.number refl)

  -- The granted packet is nowhere else, and was not delivered.
  alone : (total_from (is_number fit.head.number) 0 (set bs g.old fit.rest) ≡ 0) × (deliveries_of net fit.head.number gs ≡ 0)
  alone =
      let a = popped (is_number fit.head.number) in
      let b = inv.counted fit.head.number mine.known in
      let c = one g.old in
      (omega arith, omega arith)

  undelivered : (k : ℕ) → g.packet ≡ k → deliveries_of net k gs ≡ 0
  undelivered k s = subst (λ (x : ℕ). deliveries_of net x gs ≡ 0) (sym fit.number_is ∙ s) alone.1

  others : InEach (λ b x. x.number ≡ fit.head.number → ⊥) (buffer_count net) (set bs g.old fit.rest)
  others b h =
      let l = length-set bs g.old fit.rest in
      let s = inv.sized in
      All-weaker (λ x. is_number fit.head.number b x ≡ 0) (λ x. x.number ≡ fit.head.number → ⊥)
      (λ x z. not_number fit.head.number b x z) _
      (total_zero (is_number fit.head.number) (set bs g.old fit.rest) 0 b b (omega arith) (omega arith) alone.0)

  -- The other packets are as good as before.
  rest_good : InEach (Good net es (gs ++ (g ∷ []))) (buffer_count net) (set bs g.old fit.rest)
  rest_good b h =
      all_both (Good net es gs b) (λ x. x.number ≡ fit.head.number → ⊥) (Good net es (gs ++ (g ∷ [])) b)
      (λ x o d. record {
        placed = o.placed;
        known = o.known;
        ends_are = o.ends_are;
        hops_are = o.hops_are ∙ sym (hops_other net gs g x.number (λ e. d (sym e ∙ fit.number_is)));
        position_is = o.position_is ∙ sym (position_other net gs g x.number (get_or es x.number no_endpoints) (λ e. d (sym e ∙ fit.number_is)));
        left = o.left;
      })
      _
      (each_pop (Good net es gs) (buffer_count net) bs g.old fit.head fit.rest under fit.contents_is inv.good b h)
      (others b h)

  from_distance : distance_from net (location net g.old) fit.head.destination ≡ net.distance fit.from fit.head.destination
  from_distance = ap (λ (o : Option ℕ). distance_from net o fit.head.destination) fit.stands

  same_packet : (k : ℕ) → (g.packet ≡ k) ⊎ (g.packet ≡ k → ⊥)
  same_packet k = cases_eq g.packet k

  -- What is not about the granted packet is as before.
  other_work : (k : ℕ) (t : Endpoints) → (fit.head.number ≡ k → ⊥) → work_of net (gs ++ (g ∷ [])) k t ≡ work_of net gs k t
  other_work k t d =
      let n : g.packet ≡ k → ⊥ = λ x. d (sym fit.number_is ∙ x) in
      ap (λ (x : ℕ). cond {A = ℕ} (eqb x 0) (distance_from net (position net k t (gs ++ (g ∷ []))) t.destination + 1) 0) (deliveries_other net gs g k n)
      ∙ ap (λ (o : Option ℕ). cond {A = ℕ} (eqb (deliveries_of net k gs) 0) (distance_from net o t.destination + 1) 0) (position_other net gs g k t n)

  -- The granted packet's work before the grant.
  my_work : work_of net gs fit.head.number (get_or es fit.head.number no_endpoints) ≡ net.distance fit.from fit.head.destination + 1
  my_work =
      ap (λ (b : Bool). cond {A = ℕ} b (distance_from net (position net fit.head.number (get_or es fit.head.number no_endpoints) gs) (get_or es fit.head.number no_endpoints).destination + 1) 0)
      (eq-eqb (deliveries_of net fit.head.number gs) 0 alone.1)
      ∙ ap (λ (o : Option ℕ). distance_from net o (get_or es fit.head.number no_endpoints).destination + 1) (sym mine.position_is ∙ fit.stands)
      ∙ ap (λ (t : Endpoints). net.distance fit.from t.destination + 1) mine.ends_are

  travelled_other : (k : ℕ) → k < length es → (g.packet ≡ k → ⊥) → Travelled net k (get_or es k no_endpoints) (gs ++ (g ∷ []))
  travelled_other k l n = go (inv.travelled k l)
    where
      go : Travelled net k (get_or es k no_endpoints) gs → Travelled net k (get_or es k no_endpoints) (gs ++ (g ∷ []))
      go (inl v) =
          inl (
            v.0,
            position_other net gs g k (get_or es k no_endpoints) n ∙ v.1,
            subst (λ (x : List Grant). Hops net (get_or es k no_endpoints).source x v.0) (sym (grants_of_other gs g k n)) v.2,
          )
      go (inr v) =
          inr (
            (let d = deliveries_other net gs g k n in let p = v.0 in omega arith),
            subst (λ (x : List Grant). Journey net (get_or es k no_endpoints).destination (get_or es k no_endpoints).source x) (sym (grants_of_other gs g k n)) v.1,
          )

  -- The granted packet stood where the grant takes it up, at the end of its hops.
  my_hops : (k : ℕ) → k < length es → g.packet ≡ k → Hops net (get_or es k no_endpoints).source (grants_of k gs) fit.from
  my_hops k l s = go (inv.travelled k l)
    where
      go : Travelled net k (get_or es k no_endpoints) gs → Hops net (get_or es k no_endpoints).source (grants_of k gs) fit.from
      go (inr v) = absurd (let d = undelivered k s in let p = v.0 in let z : ⊥ = omega arith in z)
      go (inl v) =
          let x : position net k (get_or es k no_endpoints) gs ≡ Some fit.from
          = ap (λ (y : ℕ). position net y (get_or es y no_endpoints) gs) (sym s ∙ fit.number_is) ∙ sym mine.position_is ∙ fit.stands in
          let same : v.0 ≡ fit.from = let a = v.1 in cc in
          subst (λ (y : ℕ). Hops net (get_or es k no_endpoints).source (grants_of k gs) y) same v.2

  hop_step : (p : ℕ) → Forwarded net fit.from p g.new fit.head.destination → Consistent net es (gs ++ (g ∷ [])) (move (buffer_count net) bs g)
  unfolding work_left held
  hop_step p h =
      subst (λ (x : Buffers). Consistent net es (gs ++ (g ∷ [])) x) (sym (move_is net bs g inv.sized fit.head fit.rest fit.contents_is))
      (record {
        sized = length-set (set bs g.old fit.rest) g.new _ ∙ length-set bs g.old fit.rest ∙ inv.sized;
        good = each_push (Good net es (gs ++ (g ∷ []))) (buffer_count net) (set bs g.old fit.rest) g.new (hopped fit.head) in_range better rest_good;
        ends_in = inv.ends_in;
        known = All-push (λ x. x.packet < length es) gs g inv.known (let a = mine.known in let b = fit.number_is in omega arith);
        counted = λ k l. counts k l (same_packet k);
        travelled = λ k l. travels k l (same_packet k);
        exact = λ k l d. arrives k l d (same_packet k);
        inside_is =
            let a = popped (λ _ _. 1) in
            let b = total_push (λ _ _. 1) (set bs g.old fit.rest) g.new (hopped fit.head) in_range in
            let c = all_hop net gs g not_out in
            let l = inv.inside_is in
            omega (arith, c.1);
        work_is =
            let a = popped (packet_work net) in
            let b = total_push (packet_work net) (set bs g.old fit.rest) g.new (hopped fit.head) in_range in
            let f = from_distance in
            let t = to_distance in
            let c = ends_change (work_of net (gs ++ (g ∷ []))) (work_of net gs) es 0 fit.head.number fit.head.number (omega arith) mine.known other_work in
            let m = my_work in
            let m' = my_work' in
            let i = inv.work_is in
            omega arith;
        balance =
            let a = popped (packet_work net) in
            let b = total_push (packet_work net) (set bs g.old fit.rest) g.new (hopped fit.head) in_range in
            let c = all_hop net gs g not_out in
            let f = from_distance in
            let t = to_distance in
            let l = inv.balance in
            omega (arith, h.one_nearer, c.0, c.1);
      })
    where
      not_out : g.new ≡ buffer_count net → ⊥
      not_out x = omega (arith, h.under, channels_le net)

      in_range : g.new < length (set bs g.old fit.rest)
      in_range = omega (arith, h.under, channels_le net, inv.sized, length-set bs g.old fit.rest)

      to_distance : distance_from net (location net g.new) fit.head.destination ≡ net.distance h.to fit.head.destination
      to_distance = ap (λ (o : Option ℕ). distance_from net o fit.head.destination) h.leads_to

      my_work' : work_of net (gs ++ (g ∷ [])) fit.head.number (get_or es fit.head.number no_endpoints) ≡ net.distance h.to fit.head.destination + 1
      my_work' =
          ap (λ (b : Bool). cond {A = ℕ} b (distance_from net (position net fit.head.number (get_or es fit.head.number no_endpoints) (gs ++ (g ∷ []))) (get_or es fit.head.number no_endpoints).destination + 1) 0)
          (eq-eqb (deliveries_of net fit.head.number (gs ++ (g ∷ []))) 0 (deliveries_hop net gs g fit.head.number fit.number_is not_out ∙ alone.1))
          ∙ ap (λ (o : Option ℕ). distance_from net o (get_or es fit.head.number no_endpoints).destination + 1)
          (position_hop net gs g fit.head.number (get_or es fit.head.number no_endpoints) fit.number_is not_out ∙ h.leads_to)
          ∙ ap (λ (t : Endpoints). net.distance h.to t.destination + 1) mine.ends_are

      travels : (k : ℕ) → k < length es → (g.packet ≡ k) ⊎ (g.packet ≡ k → ⊥) → Travelled net k (get_or es k no_endpoints) (gs ++ (g ∷ []))
      travels k l (inr n) = travelled_other k l n
      travels k l (inl s) =
          let over : HopOver net g fit.from h.to
          = record {
            leaves = fit.stands;
            joins = h.leads_to;
            linked = ap (λ (x : ℕ). net.link fit.from x) h.port_is ∙ h.linked;
            receives = (h.under, h.upstream_is);
          } in
          inl (
            h.to,
            position_hop net gs g k (get_or es k no_endpoints) s not_out ∙ h.leads_to,
            subst (λ (x : List Grant). Hops net (get_or es k no_endpoints).source x h.to) (sym (grants_of_mine gs g k s)) (hops_on net g (my_hops k l s) over),
          )

      better : Good net es (gs ++ (g ∷ [])) g.new (hopped fit.head)
      better =
          record {
            placed =
                record {
                  at = h.to;
                  stands = h.leads_to;
                  at_node = (link_asked net law fit.from p h.to h.linked).2;
                  bound = mine.placed.bound;
                  by_escape = h.by_escape;
                };
            known = mine.known;
            ends_are = mine.ends_are;
            hops_are = let a = mine.hops_are in let b = hops_mine net gs g fit.head.number fit.number_is not_out in omega arith;
            position_is = sym (position_hop net gs g fit.head.number (get_or es fit.head.number no_endpoints) fit.number_is not_out);
            left = let a = mine.left in let b = from_distance in let c = to_distance in omega (arith, h.one_nearer);
          }

      same_deliveries : (k : ℕ) → (g.packet ≡ k) ⊎ (g.packet ≡ k → ⊥) → deliveries_of net k (gs ++ (g ∷ [])) ≡ deliveries_of net k gs
      same_deliveries k (inl s) = deliveries_hop net gs g k s not_out
      same_deliveries k (inr n) = deliveries_other net gs g k n

      counts : (k : ℕ) → k < length es → (g.packet ≡ k) ⊎ (g.packet ≡ k → ⊥)
          → total_from (is_number k) 0 (enqueue (set bs g.old fit.rest) g.new (hopped fit.head)) + deliveries_of net k (gs ++ (g ∷ [])) ≡ 1
      counts k l c =
          let d = same_deliveries k c in
          let a = popped (is_number k) in
          let b = total_push (is_number k) (set bs g.old fit.rest) g.new (hopped fit.head) in_range in
          let o = inv.counted k l in
          omega arith

      arrives : (k : ℕ) → k < length es → 0 < deliveries_of net k (gs ++ (g ∷ [])) → (g.packet ≡ k) ⊎ (g.packet ≡ k → ⊥)
          → hops_of net k (gs ++ (g ∷ [])) ≡ own_distance net (get_or es k no_endpoints)
      arrives k l d (inl s) =
          let u = undelivered k s in
          let v = deliveries_hop net gs g k s not_out in
          absurd (let z : ⊥ = omega arith in z)
      arrives k l d (inr n) =
          let v = deliveries_other net gs g k n in
          hops_other net gs g k n ∙ inv.exact k l (omega arith)

  out_step : g.new ≡ buffer_count net → fit.head.destination ≡ fit.from → Consistent net es (gs ++ (g ∷ [])) (move (buffer_count net) bs g)
  unfolding work_left held
  out_step e home =
      subst (λ (x : Buffers). Consistent net es (gs ++ (g ∷ [])) x) (sym (move_out net bs g fit.head fit.rest fit.contents_is e))
      (record {
        sized = length-set bs g.old fit.rest ∙ inv.sized;
        good = rest_good;
        ends_in = inv.ends_in;
        known = All-push (λ x. x.packet < length es) gs g inv.known (let a = mine.known in let b = fit.number_is in omega arith);
        counted = λ k h. counts k h (same_packet k);
        travelled = λ k l. travels k l (same_packet k);
        exact = λ k h d. arrives k h d (same_packet k);
        inside_is =
            let a = popped (λ _ _. 1) in
            let c = all_out net gs g e in
            let l = inv.inside_is in
            omega (arith, c.1);
        work_is =
            let a = popped (packet_work net) in
            let f = from_distance in
            let z = no_way in
            let c = ends_change (work_of net (gs ++ (g ∷ []))) (work_of net gs) es 0 fit.head.number fit.head.number (omega arith) mine.known other_work in
            let m = my_work in
            let m' = my_work' in
            let i = inv.work_is in
            omega arith;
        balance =
            let a = popped (packet_work net) in
            let c = all_out net gs g e in
            let f = from_distance in
            let z = no_way in
            let l = inv.balance in
            omega (arith, c.0, c.1);
      })
    where
      my_work' : work_of net (gs ++ (g ∷ [])) fit.head.number (get_or es fit.head.number no_endpoints) ≡ 0
      my_work' =
          let a = deliveries_mine net gs g fit.head.number fit.number_is e in
          ap (λ (b : Bool). cond {A = ℕ} b (distance_from net (position net fit.head.number (get_or es fit.head.number no_endpoints) (gs ++ (g ∷ []))) (get_or es fit.head.number no_endpoints).destination + 1) 0)
          (ne_eqb (deliveries_of net fit.head.number (gs ++ (g ∷ []))) 0 (λ x. omega arith))

      my_ends : (k : ℕ) → g.packet ≡ k → get_or es k no_endpoints ≡ record { source = fit.head.source; destination = fit.head.destination }
      my_ends k s = ap (λ (x : ℕ). get_or es x no_endpoints) (sym s ∙ fit.number_is) ∙ mine.ends_are

      travels : (k : ℕ) → k < length es → (g.packet ≡ k) ⊎ (g.packet ≡ k → ⊥) → Travelled net k (get_or es k no_endpoints) (gs ++ (g ∷ []))
      travels k l (inr n) = travelled_other k l n
      travels k l (inl s) =
          let there : (get_or es k no_endpoints).destination ≡ fit.from = ap (λ (t : Endpoints). t.destination) (my_ends k s) ∙ home in
          let at : DeliveryAt net g fit.from = record { leaves = fit.stands; out = e } in
          let j : Journey net fit.from (get_or es k no_endpoints).source (grants_of k (gs ++ (g ∷ [])))
          = subst (λ (x : List Grant). Journey net fit.from (get_or es k no_endpoints).source x) (sym (grants_of_mine gs g k s)) (hops_end net g (my_hops k l s) at) in
          inr (
            (let d = deliveries_mine net gs g k s e in omega arith),
            subst (λ (x : ℕ). Journey net x (get_or es k no_endpoints).source (grants_of k (gs ++ (g ∷ [])))) (sym there) j,
          )

      counts : (k : ℕ) → k < length es → (g.packet ≡ k) ⊎ (g.packet ≡ k → ⊥) → total_from (is_number k) 0 (set bs g.old fit.rest) + deliveries_of net k (gs ++ (g ∷ [])) ≡ 1
      counts k h (inl s) =
          let d = deliveries_mine net gs g k s e in
          let t : total_from (is_number k) 0 (set bs g.old fit.rest) ≡ 0 = subst (λ (x : ℕ). total_from (is_number x) 0 (set bs g.old fit.rest) ≡ 0) (sym fit.number_is ∙ s) alone.0 in
          let u = undelivered k s in
          omega arith
      counts k h (inr n) =
          let d = deliveries_other net gs g k n in
          let t = popped (is_number k) in
          let z : is_number k g.old fit.head ≡ 0 = ap (λ (t : Bool). cond {A = ℕ} t 1 0) (ne_eqb fit.head.number k (λ x. n (fit.number_is ∙ x))) in
          let c = inv.counted k h in
          omega arith

      no_way : net.distance fit.from fit.head.destination ≡ 0
      no_way = subst (λ (x : ℕ). net.distance x fit.head.destination ≡ 0) home (law.distances.here fit.head.destination mine.placed.bound)

      arrives : (k : ℕ) → k < length es → 0 < deliveries_of net k (gs ++ (g ∷ [])) → (g.packet ≡ k) ⊎ (g.packet ≡ k → ⊥) → hops_of net k (gs ++ (g ∷ [])) ≡ own_distance net (get_or es k no_endpoints)
      arrives k h d (inl s) =
          let a = hops_out net gs g k s e in
          let b : fit.head.hops ≡ hops_of net k gs = mine.hops_are ∙ ap (λ (x : ℕ). hops_of net x gs) (sym fit.number_is ∙ s) in
          let c : own_distance net (get_or es k no_endpoints) ≡ net.distance fit.head.source fit.head.destination = ap (λ (t : Endpoints). own_distance net t) (my_ends k s) in
          let l = mine.left in
          let f = from_distance in
          let z = no_way in
          omega arith
      arrives k h d (inr n) =
          let v = deliveries_other net gs g k n in
          hops_other net gs g k n ∙ inv.exact k h (omega arith)

  pub grant_step : Consistent net es (gs ++ (g ∷ [])) (move (buffer_count net) bs g)
  grant_step = go fit.onward
    where
      go : Onward net fit.from g.new fit.head.destination → Consistent net es (gs ++ (g ∷ [])) (move (buffer_count net) bs g)
      go (inl o) = out_step o.0 o.1
      go (inr h) = hop_step h.0 h.1
