-- One packet taken in keeps the buffers consistent with the history. Assumes nothing.
use Rattle.std.proofs.Common.{◌≡◌, ℕ, ◌+◌, ◌<◌, Bool, false, cond, not, ◌&&◌, eqb, ◌⊎◌, List, [], ◌∷◌, ◌++◌, length, get_or, Some, Option, sym, refl, ap, ◌∙◌, subst, subst₂, inl, inr, arith, length-set}
use Rattle.std.specs.List.{AllByRecursion}
use Rattle.std.proofs.ByRecursion.{All-weaker, All-push}
use Rattle.std.proofs.lemmas.List.{get_or_append_left, get_or_push, length_push}
use Rattle.std.proofs.lemmas.List.Sums.{sum_by_push}
use Rattle.std.proofs.lemmas.Bool.{ne_eqb, eq-eqb, cases_eq}
use Rattle.queue.specs.declared.packet.Packet.{Packet}
use Rattle.network.specs.Network.{Network}
use Rattle.switch.specs.declared.grant.Grant.{Grant}
use Rattle.switch.specs.Places.{buffer_count, injection_buffer, location}
use Rattle.switch.specs.Buffers.{Buffers, enqueue, total_from, distance_from, packet_work, work_left}
use Rattle.switch.specs.Cycle.{delivers}
use Rattle.switch.specs.Calls.{Endpoints}
use Rattle.switch.specs.History.{no_endpoints, own_distance, hops_of, deliveries_of, grants_of, position, work_of}
use Rattle.switch.specs.Invariant.{InEach, Good, Hops, Travelled, Consistent, is_number, held}
use Rattle.switch.specs.Invariant.Hops.{stay}
use Rattle.switch.proofs.Numbering.{location_injection}
use Rattle.switch.proofs.Totals.{each_push, total_push, total_none}
use Rattle.switch.proofs.Tallies.{count_none, position_none, grants_of_none, ends_push}

module _ (net : Network) (es : List Endpoints) (gs : List Grant) (bs : Buffers) (inv : Consistent net es gs bs) (n d : ℕ) (hn : n < net.nodes) (hd : d < net.nodes) where
  abbrev fresh : Packet
  fresh = record { number = length es; source = n; destination = d; hops = 0 }

  abbrev ends : Endpoints
  ends = record { source = n; destination = d }

  longer : length (es ++ (ends ∷ [])) ≡ length es + 1
  longer = length_push es ends

  -- The packets before keep their endpoints,
  same_ends : (k : ℕ) → k < length es → get_or (es ++ (ends ∷ [])) k no_endpoints ≡ get_or es k no_endpoints
  same_ends k h = get_or_append_left es (ends ∷ []) no_endpoints k h

  new_ends : (k : ℕ) → k ≡ length es → get_or (es ++ (ends ∷ [])) k no_endpoints ≡ ends
  new_ends k s = get_or_push es ends no_endpoints k (sym s)

  -- and of the new packet no grant was made.
  not_new : AllByRecursion (λ g. eqb g.packet (length es) ≡ false) gs
  not_new = All-weaker (λ g. g.packet < length es) (λ g. eqb g.packet (length es) ≡ false) (λ g h. ne_eqb g.packet (length es) (λ e. omega arith)) gs inv.known

  none_by : (p : Grant → Bool) → AllByRecursion (λ g. (eqb g.packet (length es) && p g) ≡ false) gs
  none_by p = All-weaker (λ g. eqb g.packet (length es) ≡ false) (λ g. (eqb g.packet (length es) && p g) ≡ false) (λ g h. ap (λ (b : Bool). b && p g) h) gs not_new

  no_hops : hops_of net (length es) gs ≡ 0
  no_hops = count_none (λ g. eqb g.packet (length es) && not (delivers net g)) gs (none_by (λ g. not (delivers net g)))

  no_deliveries : deliveries_of net (length es) gs ≡ 0
  no_deliveries = count_none (λ g. eqb g.packet (length es) && delivers net g) gs (none_by (delivers net))

  at_source : position net (length es) ends gs ≡ Some n
  at_source = position_none net (length es) ends (Some n) gs (none_by (λ g. not (delivers net g)))

  nowhere : total_from (is_number (length es)) 0 bs ≡ 0
  nowhere =
      total_none (is_number (length es)) bs 0
      (λ b h. All-weaker (Good net es gs b) (λ q. is_number (length es) b q ≡ 0)
      (λ q g. ap (λ (t : Bool). cond {A = ℕ} t 1 0) (ne_eqb q.number (length es) (λ e. omega (arith, g.known)))) _
      (inv.good b (omega (arith, inv.sized))))

  in_range : injection_buffer net n < length bs
  unfolding buffer_count
  in_range = omega (arith, inv.sized)

  to_go : distance_from net (location net (injection_buffer net n)) d ≡ net.distance n d
  to_go = ap (λ (o : Option ℕ). distance_from net o d) (location_injection net n hn)

  new_good : Good net (es ++ (ends ∷ [])) gs (injection_buffer net n) fresh
  new_good =
      record {
        placed =
            record {
              at = n;
              stands = location_injection net n hn;
              at_node = hn;
              bound = hd;
              by_escape = λ e h _. absurd (let z : ⊥ = omega arith in z);
            };
        known = omega (arith, longer);
        ends_are = new_ends (length es) refl;
        hops_are = sym no_hops;
        position_is = location_injection net n hn ∙ sym at_source ∙ ap (λ (x : Endpoints). position net (length es) x gs) (sym (new_ends (length es) refl));
        left = let a = to_go in omega arith;
      }

  still_good : InEach (Good net (es ++ (ends ∷ [])) gs) (buffer_count net) bs
  still_good b h =
      All-weaker (Good net es gs b) (Good net (es ++ (ends ∷ [])) gs b)
      (λ q g. record {
        placed = g.placed;
        known = omega (arith, longer, g.known);
        ends_are = same_ends q.number g.known ∙ g.ends_are;
        hops_are = g.hops_are;
        position_is = g.position_is ∙ ap (λ (x : Endpoints). position net q.number x gs) (sym (same_ends q.number g.known));
        left = g.left;
      })
      _ (inv.good b h)

  pub inject_step : Consistent net (es ++ (ends ∷ [])) gs (enqueue bs (injection_buffer net n) fresh)
  unfolding work_left held
  inject_step =
      record {
        sized = length-set bs (injection_buffer net n) _ ∙ inv.sized;
        good = each_push (Good net (es ++ (ends ∷ [])) gs) (buffer_count net) bs (injection_buffer net n) fresh in_range new_good still_good;
        ends_in = All-push (λ x. (x.source < net.nodes) × (x.destination < net.nodes)) es ends inv.ends_in (hn, hd);
        known = All-weaker (λ g. g.packet < length es) (λ g. g.packet < length (es ++ (ends ∷ []))) (λ g h. omega (arith, longer)) gs inv.known;
        counted = λ k h. counts k h (cases_eq k (length es));
        travelled = λ k h. travels k h (cases_eq k (length es));
        exact = λ k h p. arrives k h p (cases_eq k (length es));
        inside_is =
            let b = total_push (λ _ _. 1) bs (injection_buffer net n) fresh in_range in
            let l = inv.inside_is in
            omega (arith, longer);
        work_is =
            let b = total_push (packet_work net) bs (injection_buffer net n) fresh in_range in
            let c = to_go in
            let p = ends_push (work_of net gs) es 0 (length es) ends (omega arith) in
            let m : work_of net gs (length es) ends ≡ net.distance n d + 1
            = ap (λ (b : Bool). cond {A = ℕ} b (distance_from net (position net (length es) ends gs) d + 1) 0) (eq-eqb (deliveries_of net (length es) gs) 0 no_deliveries)
            ∙ ap (λ (o : Option ℕ). distance_from net o d + 1) at_source in
            let i = inv.work_is in
            omega arith;
        balance =
            let a = sum_by_push (λ x. own_distance net x + 1) es ends in
            let b = total_push (packet_work net) bs (injection_buffer net n) fresh in_range in
            let c = to_go in
            let l = inv.balance in
            omega arith;
      }
    where
      before : (k : ℕ) → k < length (es ++ (ends ∷ [])) → (k ≡ length es → ⊥) → k < length es
      before k h x = let l = longer in omega arith

      travels : (k : ℕ) → k < length (es ++ (ends ∷ [])) → (k ≡ length es) ⊎ (k ≡ length es → ⊥) → Travelled net k (get_or (es ++ (ends ∷ [])) k no_endpoints) gs
      travels k h (inr x) = subst (λ (y : Endpoints). Travelled net k y gs) (sym (same_ends k (before k h x))) (inv.travelled k (before k h x))
      travels k h (inl s) =
          let z : grants_of k gs ≡ [] = ap (λ (x : ℕ). grants_of x gs) s ∙ grants_of_none (length es) gs not_new in
          inl (
            n,
            ap (λ (x : Endpoints). position net k x gs) (new_ends k s) ∙ ap (λ (x : ℕ). position net x ends gs) s ∙ at_source,
            subst₂ (λ (x : Endpoints) (y : List Grant). Hops net x.source y n) (sym (new_ends k s)) (sym z) stay,
          )

      counts : (k : ℕ) → k < length (es ++ (ends ∷ [])) → (k ≡ length es) ⊎ (k ≡ length es → ⊥) → total_from (is_number k) 0 (enqueue bs (injection_buffer net n) fresh) + deliveries_of net k gs ≡ 1
      counts k h (inl s) =
          let a = total_push (is_number k) bs (injection_buffer net n) fresh in_range in
          let b : total_from (is_number k) 0 bs ≡ 0 = ap (λ (x : ℕ). total_from (is_number x) 0 bs) s ∙ nowhere in
          let c : deliveries_of net k gs ≡ 0 = ap (λ (x : ℕ). deliveries_of net x gs) s ∙ no_deliveries in
          let e : is_number k (injection_buffer net n) fresh ≡ 1 = ap (λ (t : Bool). cond {A = ℕ} t 1 0) (eq-eqb (length es) k (sym s)) in
          omega arith
      counts k h (inr x) =
          let a = total_push (is_number k) bs (injection_buffer net n) fresh in_range in
          let e : is_number k (injection_buffer net n) fresh ≡ 0 = ap (λ (t : Bool). cond {A = ℕ} t 1 0) (ne_eqb (length es) k (λ y. x (sym y))) in
          let c = inv.counted k (before k h x) in
          omega arith

      arrives : (k : ℕ) → k < length (es ++ (ends ∷ [])) → 0 < deliveries_of net k gs → (k ≡ length es) ⊎ (k ≡ length es → ⊥)
          → hops_of net k gs ≡ own_distance net (get_or (es ++ (ends ∷ [])) k no_endpoints)
      arrives k h p (inl s) =
          let c : deliveries_of net k gs ≡ 0 = ap (λ (x : ℕ). deliveries_of net x gs) s ∙ no_deliveries in
          absurd (let z : ⊥ = omega arith in z)
      arrives k h p (inr x) = inv.exact k (before k h x) p ∙ ap (λ (y : Endpoints). own_distance net y) (sym (same_ends k (before k h x)))
