-- The requests of the buffers in a node's chain are those of all buffers. Assumes nothing.
use Rattle.std.proofs.Common.{◌≡◌, ℕ, zero, suc, ◌+◌, ◌-◌, ◌<◌, ◌≤◌, Bool, true, false, not, ◌&&◌, ◌≢◌, List, [], ◌∷◌, ◌++◌, map, length, get_or, Some, None, Option, sym, refl, ap, ◌∙◌, subst, ap₂, arith, length-append}
use lib.Seq.{append_snoc}
use Rattle.std.specs.List.{slice_get}
use Rattle.std.specs.Option.{ForSome}
use Rattle.std.proofs.lemmas.List.{append-nil}
use Rattle.std.proofs.lemmas.Bool.{cond-true, cond-false, eq-eqb, ne_eqb, and_left, and_right, and_from}
use Rattle.queue.specs.declared.packet.Packet.{Packet}
use Rattle.queue.proofs.Lefts.{left_more, left_none}
use Rattle.arbiter.specs.declared.entry.Entry.{Entry}
use Rattle.switch.specs.declared.grant.Grant.{Grant}
use Rattle.switch.specs.Places.{buffer_count, location}
use Rattle.switch.specs.Buffers.{contents}
use Rattle.switch.specs.Cycle.{Snapshot, Visit, stands_at, granting, first_request, request, cons_some, requests_from, requests, next_buffer, entry_of}
use Rattle.switch.proofs.Deciding.{Listed}
use Rattle.cycle.specs.Chains.{FirstFrom}

stands_elsewhere : (o : Option ℕ) (n : ℕ) → o ≢ Some n → stands_at o n ≡ false
stands_elsewhere None n ne = refl
stands_elsewhere (Some m) n ne = ne_eqb m n (λ e. ne (ap (λ (x : ℕ). Some x) e))

module _ (start : Snapshot) (granted : List Bool) (v : Visit) where
  -- the first packet of the queue, if there is one, asks
  first_request_none : (b : ℕ) (qs : List Packet) → None ≡ slice_get qs 0 → first_request start v b qs ≡ None
  first_request_none b qs e = ap (first_request start v b) (left_none qs 0 (sym e))

  first_request_some : (b : ℕ) (q : Packet) (qs : List Packet) → Some q ≡ slice_get qs 0 → first_request start v b qs ≡ granting start b q (next_buffer start v.node v.port q.destination)
  first_request_some b q qs e = ap (first_request start v b) (left_more qs 0 q (sym e))

  module _ (b : ℕ) where
    -- a buffer that stands elsewhere requests nothing
    request_elsewhere : location start.network b ≢ Some v.node → request start granted v b ≡ None
    unfolding request
    request_elsewhere ne =
        cond-false (stands_at (location start.network b) v.node && not (get_or granted b false)) _ _
        (and_left _ _ (stands_elsewhere (location start.network b) v.node ne))

    -- nor does one that has a grant
    pub request_granted : get_or granted b false ≡ true → request start granted v b ≡ None
    unfolding request
    request_granted e =
        cond-false (stands_at (location start.network b) v.node && not (get_or granted b false)) _ _ (and_right _ _ (ap not e))

    module _ (here : location start.network b ≡ Some v.node) (free : get_or granted b false ≡ false) where
      request_here : request start granted v b ≡ first_request start v b (contents start.buffers b)
      unfolding request
      request_here =
          cond-true (stands_at (location start.network b) v.node && not (get_or granted b false)) _ _
          (and_from _ _ (ap (λ (o : Option ℕ). stands_at o v.node) here ∙ eq-eqb v.node v.node refl) (ap not free))

      pub request_empty : None ≡ slice_get (contents start.buffers b) 0 → request start granted v b ≡ None
      request_empty e = request_here ∙ first_request_none b (contents start.buffers b) e

      pub request_first : (q : Packet) (o : Option ℕ) → Some q ≡ slice_get (contents start.buffers b) 0 → o ≡ next_buffer start v.node v.port q.destination
          → request start granted v b ≡ granting start b q o
      request_first q o e k = request_here ∙ first_request_some b q (contents start.buffers b) e ∙ ap (granting start b q) (sym k)

  -- where none of the next k buffers stands at the node, the requests are those of the buffers behind them
  skip_elsewhere : (k j b : ℕ) → ((i : ℕ) → b ≤ i → i < b + k → location start.network i ≢ Some v.node)
      → requests_from start granted v (k + j) b ≡ requests_from start granted v j (b + k)
  unfolding requests_from
  skip_elsewhere zero j b h =
      let e : 0 + j ≡ j = omega arith in
      let f : b ≡ b + 0 = omega arith in
      ap (λ (x : ℕ). requests_from start granted v x b) e ∙ ap (requests_from start granted v j) f
  skip_elsewhere (suc k) j b h =
      let e : suc k + j ≡ suc (k + j) = omega arith in
      let f : suc b + k ≡ b + suc k = omega arith in
      ap (λ (x : ℕ). requests_from start granted v x b) e
      ∙ ap (λ (o : Option Grant). cons_some o (requests_from start granted v (k + j) (suc b))) (request_elsewhere b (h b (omega arith) (omega arith)))
      ∙ skip_elsewhere k j (suc b) (λ i a l. h i (omega arith) (omega arith))
      ∙ ap (requests_from start granted v j) f

  -- the requests of the buffers from b on, and from the next buffer in a chain
  abbrev left_from : ℕ → List Grant
  left_from b = requests_from start granted v (buffer_count start.network - b) b

  abbrev pub left_at : Option ℕ → List Grant
  left_at None = []
  left_at (Some b) = left_from b

  left_skip : (b : ℕ) (o : Option ℕ) → FirstFrom start.network v.node b o → left_from b ≡ left_at o
  unfolding requests_from
  left_skip b None f =
      let t = buffer_count start.network in
      let e : buffer_count start.network - b ≡ (buffer_count start.network - b) + 0 = omega arith in
      ap (λ (x : ℕ). requests_from start granted v x b) e ∙ skip_elsewhere (t - b) 0 b (λ i l h. f.none refl i l (omega arith))
  left_skip b (Some to) f =
      let t = buffer_count start.network in
      let first = f.some to refl in
      let a = first.after in
      let c = first.within in
      let e : buffer_count start.network - b ≡ (to - b) + (buffer_count start.network - to) = omega arith in
      let k : b + (to - b) ≡ to = omega arith in
      ap (λ (x : ℕ). requests_from start granted v x b) e
      ∙ skip_elsewhere (to - b) (t - to) b (λ i l h. first.between i l (omega arith))
      ∙ ap (requests_from start granted v (t - to)) k

  left_next : (b : ℕ) (o : Option ℕ) → b < buffer_count start.network → FirstFrom start.network v.node (suc b) o
      → left_from b ≡ cons_some (request start granted v b) (left_at o)
  unfolding requests_from
  left_next b o h f =
      let e : buffer_count start.network - b ≡ suc (buffer_count start.network - suc b) = omega arith in
      ap (λ (x : ℕ). requests_from start granted v x b) e ∙ ap (cons_some (request start granted v b)) (left_skip (suc b) o f)

  -- What was listed, and what is left from the next buffer in the chain on, are all the requests. The next buffer stands at
  -- the node, and no more were listed than come before it.
  pub record Found (entries : List Entry) (next : Option ℕ) : Type 0 where
    pub all : entries ++ map entry_of (left_at next) ≡ map entry_of (requests start granted v)
    pub under : ForSome next (λ b. b < buffer_count start.network)
    pub here : ForSome next (λ b. location start.network b ≡ Some v.node)
    pub few : ForSome next (λ b. length entries ≤ b)

  pub found_start : (o : Option ℕ) → FirstFrom start.network v.node 0 o → Found [] o
  found_start o f =
      let e : buffer_count start.network - 0 ≡ buffer_count start.network = omega arith in
      record {
        all = ap (map entry_of) (sym (left_skip 0 o f) ∙ ap (λ (x : ℕ). requests_from start granted v x 0) e);
        under = λ b s. (f.some b s).within;
        here = λ b s. (f.some b s).here;
        few = λ b s. omega arith;
      }

  module _ (es : List Entry) (b : ℕ) (last o : Option ℕ) (is : last ≡ Some b) (f : FirstFrom start.network v.node (suc b) o) (before : Found es last) where
    found : Found es (Some b)
    found = subst (Found es) is before

    more_left : (r : Option Grant) → r ≡ request start granted v b → left_from b ≡ cons_some r (left_at o)
    more_left r e = left_next b o (found.under b refl) f ∙ ap (λ (x : Option Grant). cons_some x (left_at o)) (sym e)

    pub found_none : None ≡ request start granted v b → Found es o
    found_none e = record {
      all = ap (λ (gs : List Grant). es ++ map entry_of gs) (sym (more_left None e)) ∙ found.all;
      under = λ c s. (f.some c s).within;
      here = λ c s. (f.some c s).here;
      few = λ c s. omega (arith, (f.some c s).after, found.few b refl);
    }

    pub found_some : (g : Grant) → Some g ≡ request start granted v b → Found (es ++ (entry_of g ∷ [])) o
    found_some g e = record {
      all = append_snoc es (entry_of g) (map entry_of (left_at o)) ∙ ap (λ (gs : List Grant). es ++ map entry_of gs) (sym (more_left (Some g) e)) ∙ found.all;
      under = λ c s. (f.some c s).within;
      here = λ c s. (f.some c s).here;
      few = λ c s. omega (arith, (f.some c s).after, found.few b refl, length-append es (entry_of g ∷ []));
    }

  pub found_end : (es : List Entry) (last : Option ℕ) → last ≡ None → Found es last → es ≡ map entry_of (requests start granted v)
  found_end es last is before = sym (append-nil es) ∙ (subst (Found es) is before).all

  -- What a buffer that is listed requests.
  pub request_again : (g : Grant) → Listed start granted v 0 (buffer_count start.network) g → Some g ≡ request start granted v g.old
  request_again g h =
      let r = h.0 in
      let first : Some r.head ≡ slice_get (contents start.buffers g.old) 0 = sym (ap (λ (qs : List Packet). slice_get qs 0) r.contents_is) in
      let made : record { cycle = start.cycle; packet = r.head.number; old = g.old; new = g.new } ≡ g =
      sym (ap₂ (λ (c n : ℕ). record { cycle = c; packet = n; old = g.old; new = g.new }) r.cycle_is r.number_is) in
      sym (request_first g.old r.stands h.1 r.head (Some g.new) first (sym r.way) ∙ ap (λ (x : Grant). Some x) made)

-- How far the next buffer in a chain is below the number of buffers,
abbrev pub below : ℕ → Option ℕ → ℕ
below t None = 0
below t (Some b) = t - b

-- which falls where the buffers rise.
pub below_falls : (t b : ℕ) (last next : Option ℕ) → last ≡ Some b → b < t → ForSome next (λ x. b < x) → below t next < below t last
below_falls t b last None e h rise = let k : below t last ≡ t - b = ap (below t) e in omega arith
below_falls t b last (Some x) e h rise = let k : below t last ≡ t - b = ap (below t) e in omega (arith, rise x refl)
