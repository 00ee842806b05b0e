-- Histories that grow by one event. Assumes nothing.
use Rattle.std.proofs.Common.{◌≡◌, ℕ, ◌+◌, ◌<◌, ◌≤◌, Bool, true, false, cond, not, ◌⊎◌, List, [], ◌∷◌, ◌++◌, length, drop, sym, refl, ap, ◌∙◌, subst, inl, inr, arith}
use Rattle.std.proofs.lemmas.List.{append_assoc, same_from_push}
use Rattle.std.proofs.lemmas.List.Sums.{sum_by-cons, sum_by_push}
use Rattle.network.specs.Network.{Network}
use Rattle.switch.specs.declared.feed_state.FeedState.TheVariants.{Closed}
use Rattle.switch.specs.declared.grant.Grant.{Grant}
use Rattle.switch.specs.Buffers.{work_left}
use Rattle.switch.specs.Cycle.{delivers}
use Rattle.switch.specs.Calls.{SwitchState, Endpoints, Event}
use Rattle.switch.specs.Calls.Event.{injected, cycled, drained, closed}
use Rattle.switch.specs.History.{injections, grants_in, hop_count, delivery_count, is_cycle, is_drain, cycles_in, drains_in, work_in}
use Rattle.switch.specs.Law.{EachCycle}
use Rattle.switch.specs.Invariant.{SinceClose, Closing}

pub injections_append : (h k : List Event) → injections (h ++ k) ≡ injections h ++ injections k
injections_append [] k = refl
injections_append (injected e ∷ h) k = ap {B = List Endpoints} (λ x. e ∷ x) (injections_append h k)
injections_append (cycled gs ∷ h) k = injections_append h k
injections_append (drained ∷ h) k = injections_append h k
injections_append (closed ∷ h) k = injections_append h k

pub grants_append : (h k : List Event) → grants_in (h ++ k) ≡ grants_in h ++ grants_in k
grants_append [] k = refl
grants_append (injected e ∷ h) k = grants_append h k
grants_append (cycled gs ∷ h) k = ap (λ (x : List Grant). gs ++ x) (grants_append h k) ∙ sym (append_assoc gs (grants_in h) (grants_in k))
grants_append (drained ∷ h) k = grants_append h k
grants_append (closed ∷ h) k = grants_append h k

-- Every grant is a hop or a delivery.
pub hops_and_deliveries : (net : Network) (gs : List Grant) → hop_count net gs + delivery_count net gs ≡ length gs
hops_and_deliveries net [] = refl
hops_and_deliveries net (g ∷ gs) =
    let a = sum_by-cons (λ x. cond {A = ℕ} (not (delivers net x)) 1 0) g gs in
    let b = sum_by-cons (λ x. cond {A = ℕ} (delivers net x) 1 0) g gs in
    let c = either (delivers net g) in
    let r = hops_and_deliveries net gs in
    omega arith
  where
    either : (t : Bool) → cond {A = ℕ} (not t) 1 0 + cond {A = ℕ} t 1 0 ≡ 1
    either true = refl
    either false = refl

last_of : (x : Event) (xs : List Event) → (front : List Event) × (y : Event) × (x ∷ xs ≡ front ++ (y ∷ []))
last_of x [] = ([], x, refl)
last_of x (y ∷ ys) = let r = last_of y ys in (x ∷ r.0, r.1, ap {B = List Event} (λ zs. x ∷ zs) r.2)

-- An event at a place of a history that grew by the event e is the last one, or was there before.
module _ (h before : List Event) (e y : Event) where
  pub event_last : h ++ (e ∷ []) ≡ before ++ (y ∷ []) → (h ≡ before) × (e ≡ y)
  event_last q = same_from_push h before e y q

  pub event_before : (x : Event) (after : List Event) → h ++ (e ∷ []) ≡ before ++ (y ∷ x ∷ after)
      → (rest : List Event) × (h ≡ before ++ (y ∷ rest)) × (x ∷ after ≡ rest ++ (e ∷ []))
  event_before x after q =
      let r = last_of x after in
      let f : h ++ (e ∷ []) ≡ (before ++ (y ∷ r.0)) ++ (r.1 ∷ [])
      = q ∙ ap (λ (zs : List Event). before ++ (y ∷ zs)) r.2 ∙ sym (append_assoc before (y ∷ r.0) (r.1 ∷ [])) in
      let p = same_from_push h _ e _ f in
      (r.0, p.0, r.2 ∙ ap (λ (z : Event). r.0 ++ (z ∷ [])) (sym p.1))

no_event : (before after : List Event) (y : Event) → [] ≡ before ++ (y ∷ after) → ⊥
no_event [] after y e = let z : ◌≡◌ {A = ℕ} 0 1 = cc in omega arith
no_event (x ∷ before) after y e = let z : ◌≡◌ {A = ℕ} 0 1 = cc in omega arith

-- Equal lists begin with the same event, and go on alike.
same_first : (e x : Event) (h k : List Event) → e ∷ h ≡ x ∷ k → e ≡ x
same_first e x h k q = ap (λ (ys : List Event). first_or e ys) q
  where
    first_or : Event → List Event → Event
    first_or y [] = y
    first_or y (z ∷ zs) = z

same_rest : (e x : Event) (h k : List Event) → e ∷ h ≡ x ∷ k → h ≡ k
same_rest e x h k q = ap (λ (ys : List Event). drop 1 ys) q

-- What holds of each cycle.
module _ (P : List Event → List Grant → Type 0) where
  pub each_none : EachCycle P []
  each_none before after gs e = absurd (no_event before after (cycled gs) e)

  pub each_push : (h : List Event) (e : Event) → EachCycle P h → ((gs : List Grant) → e ≡ cycled gs → P h gs) → EachCycle P (h ++ (e ∷ []))
  each_push h e m new before [] gs q =
      let s = event_last h before e (cycled gs) q in
      subst (λ (x : List Event). P x gs) s.0 (new gs s.1)
  each_push h e m new before (x ∷ after) gs q =
      let s = event_before h before e (cycled gs) x after q in
      m before s.0 gs s.1

  pub each_cons : (e : Event) (h : List Event) → ((gs : List Grant) → e ≡ cycled gs → P [] gs) → ((before after : List Event) (gs : List Grant) → h ≡ before ++ (cycled gs ∷ after) → P (e ∷ before) gs)
      → EachCycle P (e ∷ h)
  each_cons e h first rest [] after gs q = first gs (same_first e (cycled gs) h after q)
  each_cons e h first rest (x ∷ before) after gs q =
      subst (λ (y : Event). P (y ∷ before) gs) (same_first e x h (before ++ (cycled gs ∷ after)) q) (rest before after gs (same_rest e x h (before ++ (cycled gs ∷ after)) q))

-- What one event does to a closed switch: the work falls with a cycle, unless none is left, and a drain leaves none.
pub record Falls {Arb : Type 0} (net : Network) (s : SwitchState Arb) (e : Event) (t : SwitchState Arb) : Type 0 where
  pub still_closed : t.feed ≡ Closed
  pub no_more : work_left net t.buffers ≤ work_left net s.buffers
  pub falls : (work_left net t.buffers + cond {A = ℕ} (is_cycle e) 1 0 ≤ work_left net s.buffers) ⊎ (work_left net t.buffers ≡ 0)
  pub dry : is_drain e ≡ true → work_left net t.buffers ≡ 0

since_push : {Arb : Type 0} (net : Network) (work : ℕ) (after : List Event) (e : Event) (s t : SwitchState Arb) → SinceClose net work after s → Falls net s e t → SinceClose net work (after ++ (e ∷ [])) t
since_push net work after e s t a f =
    record {
      still_closed = f.still_closed;
      falls = go a.falls f.falls;
      dry = dries (is_drain e) refl;
    }
  where
    go : (work_left net s.buffers + cycles_in after ≤ work) ⊎ (work_left net s.buffers ≡ 0)
        → (work_left net t.buffers + cond {A = ℕ} (is_cycle e) 1 0 ≤ work_left net s.buffers) ⊎ (work_left net t.buffers ≡ 0)
        → (work_left net t.buffers + cycles_in (after ++ (e ∷ [])) ≤ work) ⊎ (work_left net t.buffers ≡ 0)
    go x (inr z) = inr z
    go (inl x) (inl y) = inl (let c = sum_by_push (λ x. cond {A = ℕ} (is_cycle x) 1 0) after e in omega arith)
    go (inr x) (inl y) = inr (omega arith)

    dries : (b : Bool) → is_drain e ≡ b → 0 < drains_in (after ++ (e ∷ [])) → work_left net t.buffers ≡ 0
    dries true x h = f.dry x
    dries false x h =
        let c = sum_by_push (λ x. cond {A = ℕ} (is_drain x) 1 0) after e in
        let d : cond {A = ℕ} (is_drain e) 1 0 ≡ 0 = ap (λ (b : Bool). cond {A = ℕ} b 1 0) x in
        let z = a.dry (omega arith) in
        let m = f.no_more in
        omega arith

pub closing_none : {Arb : Type 0} (net : Network) (s : SwitchState Arb) → Closing net [] s
closing_none net s before after e = absurd (no_event before after closed e)

-- One more event, from the state s to t.
pub closing_push : {Arb : Type 0} (net : Network) (h : List Event) (e : Event) (s t : SwitchState Arb) → Closing net h s → (s.feed ≡ Closed → Falls net s e t)
    → (e ≡ closed → SinceClose net (work_in net h) [] t) → Closing net (h ++ (e ∷ [])) t
closing_push net h e s t m step first before [] q =
    let r = event_last h before e closed q in
    subst (λ (x : List Event). SinceClose net (work_in net x) [] t) r.0 (first r.1)
closing_push net h e s t m step first before (x ∷ after) q =
    let r = event_before h before e closed x after q in
    let a = m before r.0 r.1 in
    subst (λ (zs : List Event). SinceClose net (work_in net before) zs t) (sym r.2) (since_push net (work_in net before) r.0 e s t a (step a.still_closed))

-- A switch that is not closed has no close in its history.
pub never_closed : {Arb : Type 0} (net : Network) (h : List Event) (s t : SwitchState Arb) → Closing net h s → (s.feed ≡ Closed → ⊥) → Closing net h t
never_closed net h s t m n before after e = absurd (n (m before after e).still_closed)
