-- One visit: the arbiter grants one of the requests. Assumes nothing.
use Rattle.std.proofs.Common.{◌≡◌, ℕ, ◌+◌, ◌*◌, ◌<◌, ◌≤◌, false, eqb, ◌≢◌, List, [], ◌∷◌, map, length, get_or, Some, None, Option, IfSome, sym, refl, ap, ◌∙◌, subst, arith}
use lib.ListN.{length-map}
use Rattle.std.proofs.lemmas.List.{get_or-map}
use Rattle.std.proofs.lemmas.Bool.{eqb-false}
use Rattle.network.specs.Network.{Network}
use Rattle.network.specs.Laws.{Lawful}
use Rattle.network.specs.declared.routing.Routing.{Ghosts}
use Rattle.arbiter.specs.declared.entry.Entry.{Entry}
use Rattle.arbiter.specs.Proper.{Proper, buffer_at}
use Rattle.arbiter.specs.Rule.{Rule, Exists, Granted}
use Rattle.switch.specs.declared.grant.Grant.{Grant}
use Rattle.switch.specs.Places.{buffer_count, location}
use Rattle.switch.specs.Cycle.{Visit, link_number, entry_of, chosen, next_arbiter}
use Rattle.switch.proofs.Deciding.{Visitable, proper, chosen_listed}
use Rattle.cycle.specs.declared.visit.Visit.{Visit as VisitOf}
use Rattle.cycle.specs.Starts.{network_in, snapshot, visit_in, request_in, requests_in}
use Rattle.cycle.proofs.Fitting.{buffers_few}
use Rattle.cycle.proofs.Scanning.{request_again}

-- What a visit with these requests leaves: what it answers, one of the first t buffers' requests if there is any, and the
-- arbiter's state.
pub record Visited {Arb : Type 0} (net : Network) (rule : Rule Arb) (t : ℕ) (v : Visit) (before after : Arb) (rs : List Grant) (answer : Option Grant) : Type 0 where
  pub answer_is : answer ≡ chosen net rule v before rs
  pub after_is : after ≡ next_arbiter net rule v before rs
  pub old_under : IfSome answer (λ g. g.old < t)

module _ {R Arb : Type 0} {routing : Ghosts R} (visit : VisitOf R routing) (law : Lawful (network_in visit.start.now)) (rule : Rule Arb) (exists : Exists rule)
    (entries : List Entry) (listed : entries ≡ map entry_of (requests_in visit)) where
  len_is : length (requests_in visit) ≡ length entries
  len_is = sym (ap (λ (es : List Entry). length es) listed ∙ length-map (requests_in visit) entry_of)

  visitable : Visitable (network_in visit.start.now) (visit_in visit)
  visitable =
      let fits = visit.start.now.plan.now.fits.measured in
      (omega (arith, visit.node_within, fits.nodes_is), omega (arith, visit.port_within, fits.ports_is))

  few : buffer_count (network_in visit.start.now) ≤ 2048
  few = let start = visit.start.now in omega (arith, buffers_few (network_in start) start.plan.now.sizes start.plan.now.fits, start.plan.now.fits.measured.buffers_is)

  -- some buffer requests it, and the arbiter is asked
  module _ (a a' : Arb) (answer : Option ℕ) (some : eqb (length entries) 0 ≡ false) (said : Granted rule a a' (visit.node * (visit.start.now.plan.now.sizes.ports + 1) + visit.port) entries answer) where
    filled : length entries ≢ 0
    filled = eqb-false (length entries) 0 some

    is_proper : Proper (link_number (network_in visit.start.now) (visit_in visit)) (map entry_of (requests_in visit))
    is_proper = proper (snapshot visit.start.now) law rule exists few (visit_in visit) visitable visit.granted.now (omega (arith, len_is, filled))

    asked : Granted rule a a' (link_number (network_in visit.start.now) (visit_in visit)) (map entry_of (requests_in visit)) answer
    asked =
        subst (λ (es : List Entry). Granted rule a a' (link_number (network_in visit.start.now) (visit_in visit)) es answer) listed
        (subst (λ (k : ℕ). Granted rule a a' (visit.node * (k + 1) + visit.port) entries answer) visit.start.now.plan.now.fits.measured.ports_is said)

    pub never_refused : answer ≡ None → ⊥
    never_refused e = let k = (asked.proper is_proper).0 in let z : ◌≡◌ {A = ℕ} 0 1 = cc in omega arith

    module _ (place : ℕ) (e : answer ≡ Some place) where
      place_is : place ≡ rule.place a (link_number (network_in visit.start.now) (visit_in visit)) (map entry_of (requests_in visit))
      place_is = let k = (asked.proper is_proper).0 in cc

      pub place_under : place < length entries
      place_under =
          let f = exists a (link_number (network_in visit.start.now) (visit_in visit)) (map entry_of (requests_in visit)) is_proper in
          let l = length-map (requests_in visit) entry_of in
          let k = place_is in
          omega (arith, len_is)

      -- What is known of the buffer at that place.
      pub record Chosen (b : ℕ) : Type 0 where
        pub under : b < visit.start.now.plan.now.sizes.buffers
        pub stands : location (network_in visit.start.now) b ≡ Some visit.node
        pub visited : Visited (network_in visit.start.now) rule visit.start.now.plan.now.sizes.buffers (visit_in visit) a a' (requests_in visit) (request_in visit b)

      pub chosen_at : Chosen (buffer_at entries place)
      chosen_at = go (requests_in visit) refl
        where
          go : (os : List Grant) → requests_in visit ≡ os → Chosen (buffer_at entries place)
          go [] s = absurd (let l : length (requests_in visit) ≡ 0 = ap (λ (xs : List Grant). length xs) s in let z : ⊥ = omega (arith, len_is, filled) in z)
          go (o ∷ os) s =
              let start = visit.start.now in
              let net = network_in start in
              let v = visit_in visit in
              let t = chosen_listed (snapshot start) law rule exists few v visitable visit.granted.now a o os s in
              let q = get_or (o ∷ os) (rule.place a (link_number net v) (map entry_of (o ∷ os))) o in
              let within : place < length (o ∷ os) = omega (arith, place_under, len_is, ap (λ (xs : List Grant). length xs) s) in
              let at : place ≡ rule.place a (link_number net v) (map entry_of (o ∷ os)) = place_is ∙ ap (λ (xs : List Grant). rule.place a (link_number net v) (map entry_of xs)) s in
              let here : buffer_at entries place ≡ q.old =
              ap (λ (es : List Entry). buffer_at es place) (listed ∙ ap (λ (xs : List Grant). map entry_of xs) s)
              ∙ ap (λ (x : Entry). x.buffer) (get_or-map entry_of (o ∷ os) place o _ within)
              ∙ ap (λ (k : ℕ). (get_or (o ∷ os) k o).old) at in
              let again : Some q ≡ request_in visit q.old = request_again (snapshot start) visit.granted.now v q t in
              let under : q.old < start.plan.now.sizes.buffers = omega (arith, t.3, start.plan.now.fits.measured.buffers_is) in
              subst Chosen (sym here) (record {
                under = under;
                stands = t.0.stands;
                visited =
                    record {
                      answer_is = sym again ∙ sym (ap (chosen net rule v a) s);
                      after_is = (asked.proper is_proper).1 ∙ ap (λ (xs : List Grant). rule.next a (link_number net v) (map entry_of xs)) s ∙ sym (ap (next_arbiter net rule v a) s);
                      old_under = subst (λ (x : Option Grant). IfSome x (λ g. g.old < start.plan.now.sizes.buffers)) again under;
                    };
              })
