-- A pop and a push are a move of the definition. Assumes nothing.
use Rattle.std.proofs.Common.{◌≡◌, ℕ, ◌+◌, ◌*◌, ◌<◌, ◌≤◌, ◌≢◌, List, [], ◌∷◌, ◌++◌, length, get_or, drop, set, Some, None, Result, sym, ap, ◌∙◌, subst, arith}
use Rattle.std.specs.List.{AllByRecursion, slice_get}
use Rattle.std.proofs.lemmas.List.{drop_more, at_drop_more, at_drop_all}
use Rattle.std.proofs.lemmas.Bool.{eq-eqb, ne_eqb}
use Rattle.queue.specs.declared.full.Full.{Full}
use Rattle.queue.specs.declared.packet.Packet.{Packet}
use Rattle.queue.specs.declared.queues.Queues.{Queues}
use Rattle.queue.specs.Contents.{contents as contents_in, Popped, Pushed}
use Rattle.queue.proofs.Buffers.{getD_all_contents}
use Rattle.queue.proofs.Frames.{run_below}
use Rattle.queue.proofs.Lefts.{left_more, left_none}
use Rattle.switch.specs.declared.grant.Grant.{Grant}
use Rattle.switch.specs.Buffers.{Buffers, contents, enqueue}
use Rattle.switch.specs.Cycle.{hopped, forward, move, moves}
use Rattle.cycle.specs.declared.sizes.Sizes.{Sizes}
use Rattle.cycle.specs.Measures.{buffers_in}
use Rattle.cycle.specs.Moves.{Movable, AllMovable, Moved}
use Rattle.cycle.proofs.Lookups.{contents_there}

-- the slots of a buffer are in range
pub slots_in_range : (b t depth n : ℕ) → b < t → t * depth ≤ n → b * depth + depth ≤ n
slots_in_range b t depth n lt le = let r = run_below b t depth lt in omega arith

-- A pop from the buffer of a grant.
module _ (sizes : Sizes) (old mid : Queues) (g : Grant) (movable : Movable sizes (buffers_in sizes old) g) where
  contents_is : contents (buffers_in sizes old) g.old ≡ contents_in old sizes.depth g.old
  contents_is = sym (contents_there sizes old g.old movable.old_under)

  -- the buffer was empty
  pub moved_none : Popped old mid sizes.depth g.old None → Moved sizes old mid g
  unfolding move
  moved_none p =
      let empty : contents_in old sizes.depth g.old ≡ [] = left_none _ 0 (sym p.first) in
      record {
        buffers_are =
            ap (buffers_in sizes) (p.none empty) ∙ sym (ap (forward sizes.buffers (buffers_in sizes old) g) (contents_is ∙ empty));
        sound = p.sound;
      }

  -- the packet q was its first
  module _ (q : Packet) (p : Popped old mid sizes.depth g.old (Some q)) where
    first_is : contents (buffers_in sizes old) g.old ≡ q ∷ drop 1 (contents (buffers_in sizes old) g.old)
    first_is = left_more (contents (buffers_in sizes old) g.old) 0 q (sym (p.first ∙ ap (λ (xs : List Packet). slice_get xs 0) (sym contents_is)))

    left_is : buffers_in sizes mid ≡ set (buffers_in sizes old) g.old (drop 1 (contents (buffers_in sizes old) g.old))
    left_is = p.rest.all sizes.buffers ∙ ap (λ (xs : List Packet). set (buffers_in sizes old) g.old (drop 1 xs)) (sym contents_is)

    pub first_hops : q.hops ≤ 64
    first_hops = (subst (λ (xs : List Packet). AllByRecursion (λ (x : Packet). x.hops ≤ 64) xs) first_is movable.few_hops).0

    -- it is delivered
    pub moved_out : g.new ≡ sizes.buffers → Moved sizes old mid g
    unfolding move
    moved_out e =
        let t = eq-eqb g.new sizes.buffers e in
        record { buffers_are = left_is ∙ sym (ap (forward sizes.buffers (buffers_in sizes old) g) first_is ∙ simp t); sound = p.sound }

    -- it joins its new buffer
    module _ (ne : g.new ≢ sizes.buffers) where
      pub new_under : g.new < sizes.buffers
      new_under = let m = movable.new_under in omega arith

      pub room_left : length (contents_in mid sizes.depth g.new) < sizes.depth
      room_left =
          let r = movable.room new_under in
          let e = ap (λ (xs : List Packet). length xs) (getD_all_contents mid sizes.depth sizes.buffers g.new new_under) in
          let f = ap (λ (bs : Buffers). length (contents bs g.new)) left_is in
          omega arith

      pub moved_on : (r : Packet) → r ≡ hopped q → (new : Queues) (answer : Result (Unit {0}) Full) → Pushed mid new sizes.depth g.new r answer → Moved sizes old new g
      unfolding move
      moved_on r is new answer pushed =
          let t = ne_eqb g.new sizes.buffers ne in
          let here = getD_all_contents mid sizes.depth sizes.buffers g.new new_under in
          record {
            buffers_are =
                (pushed.room room_left).1.all sizes.buffers
                ∙ ap (λ (xs : List Packet). set (buffers_in sizes mid) g.new (xs ++ (r ∷ []))) (sym here)
                ∙ ap (enqueue (buffers_in sizes mid) g.new) is
                ∙ ap (λ (bs : Buffers). enqueue bs g.new (hopped q)) left_is
                ∙ sym (ap (forward sizes.buffers (buffers_in sizes old) g) first_is ∙ simp t);
            sound = pushed.sound;
          }

-- The grants from place i on.
abbrev pub no_grant : Grant
no_grant = record { cycle = 0; packet = 0; old = 0; new = 0 }

pub moves_more : (t : ℕ) (bs : Buffers) (gs : List Grant) (i : ℕ) → i < length gs → moves t bs (drop i gs) ≡ moves t (move t bs (get_or gs i no_grant)) (drop (i + 1) gs)
unfolding moves
moves_more t bs gs i h = at_drop_more (moves t bs) gs i no_grant h

pub movable_more : (sizes : Sizes) (bs : Buffers) (gs : List Grant) (i : ℕ) → i < length gs → AllMovable sizes bs (drop i gs)
    → Movable sizes bs (get_or gs i no_grant) × AllMovable sizes (move sizes.buffers bs (get_or gs i no_grant)) (drop (i + 1) gs)
movable_more sizes bs gs i h m = subst (AllMovable sizes bs) (drop_more gs i no_grant h) m

pub moves_none : (t : ℕ) (bs : Buffers) (gs : List Grant) (i : ℕ) → length gs ≤ i → moves t bs (drop i gs) ≡ bs
unfolding moves
moves_none t bs gs i h = at_drop_all (moves t bs) gs i h
