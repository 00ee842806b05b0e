-- All grants of a cycle, carried out one after another. Assumes nothing.
use Rattle.std.proofs.Common.{◌≡◌, ℕ, suc, ◌+◌, ◌<◌, ◌≤◌, Bool, true, false, ◌≢◌, ◌⊎◌, List, [], ◌∷◌, ◌++◌, length, get_or, set, sym, ap, ◌∙◌, subst, inl, inr, arith, length-append, length-set}
use lib.Seq.{append_snoc}
use Rattle.std.specs.List.{AllByRecursion}
use Rattle.std.proofs.lemmas.List.{get_or-set_same, get_or-set_other, set_past, append-nil, append_assoc}
use Rattle.std.proofs.lemmas.Bool.{cases_eq, cases_lt}
use Rattle.queue.specs.declared.packet.Packet.{Packet}
use Rattle.network.specs.Laws.{Lawful}
use Rattle.switch.specs.declared.grant.Grant.{Grant}
use Rattle.switch.specs.Places.{buffer_count}
use Rattle.switch.specs.Buffers.{Buffers, contents, enqueue}
use Rattle.switch.specs.Cycle.{Snapshot, hopped, move, moves}
use Rattle.switch.specs.Calls.{Endpoints}
use Rattle.switch.specs.Invariant.{Consistent}
use Rattle.switch.proofs.Totals.{move_is}
use Rattle.switch.proofs.Deciding.{Fit, Free, Ready}
use Rattle.switch.proofs.Granting.{grant_step}

-- A packet that joins leaves the front of every buffer.
join_front : (bs : Buffers) (b c : ℕ) (q : Packet) → (more : List Packet) × (contents (enqueue bs b q) c ≡ contents bs c ++ more)
join_front bs b c q = go (cases_eq c b) (cases_lt b (length bs))
  where
    go : (c ≡ b) ⊎ (c ≡ b → ⊥) → (b < length bs) ⊎ (length bs ≤ b) → (more : List Packet) × (contents (enqueue bs b q) c ≡ contents bs c ++ more)
    go (inl s) (inl h) = (
      q ∷ [],
      ap (λ (x : ℕ). contents (enqueue bs b q) x) s ∙ get_or-set_same bs b (contents bs b ++ (q ∷ [])) [] h ∙ ap (λ (x : ℕ). contents bs x ++ (q ∷ [])) (sym s),
    )
    go (inl s) (inr h) = ([], ap (λ (x : Buffers). contents x c) (set_past bs b _ h) ∙ sym (append-nil (contents bs c)))
    go (inr d) h = ([], get_or-set_other bs b c _ [] d ∙ sym (append-nil (contents bs c)))

-- A packet that leaves makes no buffer longer,
pub leave_short : (bs : Buffers) (b c : ℕ) (q : Packet) (qs : List Packet) → contents bs b ≡ q ∷ qs → length (contents (set bs b qs) c) ≤ length (contents bs c)
leave_short bs b c q qs e = go (cases_eq c b) (cases_lt b (length bs))
  where
    go : (c ≡ b) ⊎ (c ≡ b → ⊥) → (b < length bs) ⊎ (length bs ≤ b) → length (contents (set bs b qs) c) ≤ length (contents bs c)
    go (inl s) (inl h) =
        let x : length (contents (set bs b qs) c) ≡ length qs = ap (λ (y : ℕ). length (contents (set bs b qs) y)) s ∙ ap (λ (ys : List Packet). length ys) (get_or-set_same bs b qs [] h) in
        let y : length (contents bs c) ≡ suc (length qs) = ap (λ (y : ℕ). length (contents bs y)) s ∙ ap (λ (ys : List Packet). length ys) e in
        omega arith
    go (inl s) (inr h) = let x : length (contents (set bs b qs) c) ≡ length (contents bs c) = ap (λ (y : Buffers). length (contents y c)) (set_past bs b qs h) in omega arith
    go (inr n) h = let x : length (contents (set bs b qs) c) ≡ length (contents bs c) = ap (λ (ys : List Packet). length ys) (get_or-set_other bs b c qs [] n) in omega arith

-- and one that joins makes one buffer longer, by one, unless it joins past the last.
pub record Joined (bs : Buffers) (b c : ℕ) (q : Packet) : Type 0 where
  pub one_more : length (contents (enqueue bs b q) c) ≤ length (contents bs c) + 1
  pub elsewhere : c ≢ b → length (contents (enqueue bs b q) c) ≡ length (contents bs c)
  pub past_last : length bs ≤ b → length (contents (enqueue bs b q) c) ≡ length (contents bs c)

pub join_short : (bs : Buffers) (b c : ℕ) (q : Packet) → Joined bs b c q
join_short bs b c q = record { one_more = le (cases_eq c b) (cases_lt b (length bs)); elsewhere = other; past_last = past }
  where
    other : (c ≡ b → ⊥) → length (contents (enqueue bs b q) c) ≡ length (contents bs c)
    other n = ap (λ (ys : List Packet). length ys) (get_or-set_other bs b c _ [] n)

    past : length bs ≤ b → length (contents (enqueue bs b q) c) ≡ length (contents bs c)
    past h = ap (λ (y : Buffers). length (contents y c)) (set_past bs b _ h)

    le : (c ≡ b) ⊎ (c ≡ b → ⊥) → (b < length bs) ⊎ (length bs ≤ b) → length (contents (enqueue bs b q) c) ≤ length (contents bs c) + 1
    le (inl s) (inl h) =
        let x : length (contents (enqueue bs b q) c) ≡ length (contents bs b ++ (q ∷ []))
        = ap (λ (y : ℕ). length (contents (enqueue bs b q) y)) s ∙ ap (λ (ys : List Packet). length ys) (get_or-set_same bs b _ [] h) in
        let y = length-append (contents bs b) (q ∷ []) in
        let z : length (contents bs c) ≡ length (contents bs b) = ap (λ (y : ℕ). length (contents bs y)) s in
        omega arith
    le (inl s) (inr h) = let x = past h in omega arith
    le (inr n) h = let x = other n in omega arith

unmarked : (granted : List Bool) (a b : ℕ) → a < length granted → get_or (set granted a true) b false ≡ false → (b ≢ a) × (get_or granted b false ≡ false)
unmarked granted a b h e = go (cases_eq b a)
  where
    go : (b ≡ a) ⊎ (b ≡ a → ⊥) → (b ≢ a) × (get_or granted b false ≡ false)
    go (inl s) = let t : get_or (set granted a true) b false ≡ true = ap (λ (x : ℕ). get_or (set granted a true) x false) s ∙ get_or-set_same granted a true false h in let z : ◌≡◌ {A = ℕ} 0 1 = cc in absurd (let k : ⊥ = omega arith in k)
    go (inr n) = (n, sym (get_or-set_other granted a b true false n) ∙ e)

-- The buffers after some grants of a cycle: those that had no grant begin as at the start, those that were not joined are
-- not longer, and none is longer than the depth.
pub record Moved (start : Snapshot) (granted : List Bool) (joined : List ℕ) (bs : Buffers) : Type 0 where
  pub sized : length bs ≡ buffer_count start.network
  pub flags : length granted ≡ buffer_count start.network
  pub front : (b : ℕ) → get_or granted b false ≡ false → (more : List Packet) × (contents bs b ≡ contents start.buffers b ++ more)
  pub short : (b : ℕ) → AllByRecursion (λ f. b ≢ f) joined → length (contents bs b) ≤ length (contents start.buffers b)
  pub within : (b : ℕ) → length (contents bs b) ≤ start.depth

module _ (start : Snapshot) (granted : List Bool) (joined : List ℕ) (bs : Buffers) (moved : Moved start granted joined bs) (g : Grant) (free : get_or granted g.old false ≡ false) where
  -- The next grant is still fit.
  pub fit_on : Fit start.network start.buffers g → Fit start.network bs g
  fit_on f =
      let m = moved.front g.old free in
      record {
        head = f.head;
        rest = f.rest ++ m.0;
        contents_is = m.1 ∙ ap (λ (xs : List Packet). xs ++ m.0) f.contents_is;
        number_is = f.number_is;
        old_under = f.old_under;
        from = f.from;
        stands = f.stands;
        onward = f.onward;
      }

  pub moved_on : Fit start.network bs g → Free start joined g.new → Moved start (set granted g.old true) (g.new ∷ joined) (move (buffer_count start.network) bs g)
  moved_on f room =
      subst (λ (x : Buffers). Moved start (set granted g.old true) (g.new ∷ joined) x) (sym (move_is start.network bs g moved.sized f.head f.rest f.contents_is))
      (record {
        sized = length-set (set bs g.old f.rest) g.new _ ∙ length-set bs g.old f.rest ∙ moved.sized;
        flags = length-set granted g.old true ∙ moved.flags;
        front = fronts;
        short = shorts;
        within = λ b. withins b (cases_eq b g.new) room;
      })
    where
      fronts : (b : ℕ) → get_or (set granted g.old true) b false ≡ false → (more : List Packet) × (contents (enqueue (set bs g.old f.rest) g.new (hopped f.head)) b ≡ contents start.buffers b ++ more)
      fronts b e =
          let parts = unmarked granted g.old b (let l = moved.flags in let u = f.old_under in omega arith) e in
          let m = moved.front b parts.1 in
          let p = join_front (set bs g.old f.rest) g.new b (hopped f.head) in (
            m.0 ++ p.0,
            p.1
                ∙ ap (λ (xs : List Packet). xs ++ p.0) (get_or-set_other bs g.old b f.rest [] parts.0 ∙ m.1)
                ∙ append_assoc (contents start.buffers b) m.0 p.0,
          )

      shorts : (b : ℕ) → AllByRecursion (λ x. b ≢ x) (g.new ∷ joined) → length (contents (enqueue (set bs g.old f.rest) g.new (hopped f.head)) b) ≤ length (contents start.buffers b)
      shorts b h =
          let a = moved.short b h.1 in
          let c = leave_short bs g.old b f.head f.rest f.contents_is in
          let d = (join_short (set bs g.old f.rest) g.new b (hopped f.head)).elsewhere h.0 in
          omega arith

      withins : (b : ℕ) → (b ≡ g.new) ⊎ (b ≡ g.new → ⊥) → Free start joined g.new → length (contents (enqueue (set bs g.old f.rest) g.new (hopped f.head)) b) ≤ start.depth
      withins b (inr n) r =
          let a = moved.within b in
          let c = leave_short bs g.old b f.head f.rest f.contents_is in
          let d = (join_short (set bs g.old f.rest) g.new b (hopped f.head)).elsewhere n in
          omega arith
      withins b (inl s) (inl t) =
          let a = moved.within b in
          let c = leave_short bs g.old b f.head f.rest f.contents_is in
          let l = length-set bs g.old f.rest in
          let k = moved.sized in
          let d = (join_short (set bs g.old f.rest) g.new b (hopped f.head)).past_last (omega arith) in
          omega arith
      withins b (inl s) (inr r) =
          let a = moved.short g.new r.1 in
          let z : length (contents bs b) ≡ length (contents bs g.new) = ap (λ (x : ℕ). length (contents bs x)) s in
          let c = leave_short bs g.old b f.head f.rest f.contents_is in
          let d = (join_short (set bs g.old f.rest) g.new b (hopped f.head)).one_more in
          let y = r.0 in
          omega arith

module _ (start : Snapshot) (law : Lawful start.network) (es : List Endpoints) where
  -- The grants of a cycle keep the buffers consistent, and within their depth.
  pub moves_step : (gs : List Grant) (granted : List Bool) (joined : List ℕ) (bs : Buffers) (gs₀ : List Grant) → Ready start granted joined gs → Moved start granted joined bs
      → Consistent start.network es gs₀ bs
      → Consistent start.network es (gs₀ ++ gs) (moves (buffer_count start.network) bs gs) × ((b : ℕ) → length (contents (moves (buffer_count start.network) bs gs) b) ≤ start.depth)
  unfolding moves
  moves_step [] granted joined bs gs₀ ready moved inv = (subst (λ (x : List Grant). Consistent start.network es x bs) (sym (append-nil gs₀)) inv, moved.within)
  moves_step (g ∷ gs) granted joined bs gs₀ ready moved inv =
      let r = ready.0 in
      let f = fit_on start granted joined bs moved g r.2 r.0 in
      let m = moves_step gs (set granted g.old true) (g.new ∷ joined) (move (buffer_count start.network) bs g) (gs₀ ++ (g ∷ [])) ready.1
      (moved_on start granted joined bs moved g r.2 f r.3) (grant_step start.network law es gs₀ bs inv g f) in
      (subst (λ (x : List Grant). Consistent start.network es x (moves (buffer_count start.network) (move (buffer_count start.network) bs g) gs)) (append_snoc gs₀ g gs) m.0, m.1)

-- Each grant carries the number of the cycle.
pub ready_numbered : (start : Snapshot) (gs : List Grant) (granted : List Bool) (joined : List ℕ) → Ready start granted joined gs → AllByRecursion (λ g. g.cycle ≡ start.cycle) gs
ready_numbered start [] granted joined ready = tt
ready_numbered start (g ∷ gs) granted joined ready = (ready.0.1, ready_numbered start gs (set granted g.old true) (g.new ∷ joined) ready.1)
