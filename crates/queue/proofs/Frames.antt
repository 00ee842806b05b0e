-- What the buffers hold after the record and the slots of one of them are put back changed. Assumes nothing.
use Rattle.std.proofs.Common.{◌≡◌, ℕ, suc, ◌+◌, ◌-◌, ◌*◌, ◌<◌, ◌≤◌, ◌≢◌, ◌⊎◌, List, [], ◌++◌, length, get_or, take, drop, set, replicate, sym, ap, ◌∙◌, ap₂, ⊎_elim, mul-le-mul_right, suc-mul, mul-le-mul_left, arith, length-set}
use borrow.Rule.Slice.PartMut.{put_mid}
use Rattle.std.proofs.lemmas.List.{drop-take, length-replicate, get_or-replicate, get_or_past, set-get_or, get_or-set_same, get_or-set_other, take-append-drop}
use Rattle.std.proofs.lemmas.Slice.{take-put_mid_below, drop-put_mid, between-put_mid}
use Rattle.std.proofs.lemmas.Bool.{cases_lt}
use Rattle.queue.specs.declared.packet.Packet.{Packet}
use Rattle.queue.specs.declared.queue.Queue.{Queue}
use Rattle.queue.specs.declared.queues.Queues.{Queues}
use Rattle.queue.specs.Held.{no_queue, held}
use Rattle.queue.specs.Contents.{run_of, contents, all_contents, Sound, Empty}
use Rattle.queue.proofs.Rings.{length_around}
use Rattle.queue.proofs.Buffers.{all_contents_set, contents_from_none}

-- the run of a buffer ends where that of the next begins, or before
pub run_below : (a b depth : ℕ) → a < b → a * depth + depth ≤ b * depth
run_below a b depth h = let m : suc a * depth ≤ b * depth = mul-le-mul_right depth h in omega (arith, m, suc-mul a depth)

-- a buffer has a number below the number of slots
pub buffer_below : (b depth n : ℕ) → 0 < depth → b * depth + depth ≤ n → b < n
buffer_below b depth n some h = let m : b * 1 ≤ b * depth = mul-le-mul_left b some in omega (arith, m)

-- the run that was put back
run_same : {X : Type 0} (b depth : ℕ) (xs ys : List X) → b * depth + depth ≤ length xs → length ys ≡ depth → take depth (drop (b * depth) (put_mid (b * depth) depth xs ys)) ≡ ys
run_same b depth xs ys h l =
    let e : b * depth + depth - b * depth ≡ depth = omega arith in
    ap (λ n. take n (drop (b * depth) (put_mid (b * depth) depth xs ys))) (sym e) ∙ between-put_mid (b * depth) depth xs ys (b * depth + depth) (omega arith) (omega arith)

-- another run
run_other : {X : Type 0} (a b depth : ℕ) (xs ys : List X) → a ≢ b → b * depth + depth ≤ length xs → length ys ≡ depth
    → take depth (drop (a * depth) (put_mid (b * depth) depth xs ys)) ≡ take depth (drop (a * depth) xs)
run_other a b depth xs ys ne h l =
    ⊎_elim
    (λ (lt : a < b).
    let below : a * depth + depth ≤ b * depth = run_below a b depth lt in
    sym (drop-take (a * depth) depth _) ∙ (ap (drop (a * depth)) (take-put_mid_below (b * depth) depth xs ys (a * depth + depth) below (omega arith)) ∙ drop-take (a * depth) depth xs))
    (λ (ge : b ≤ a).
    let above : b * depth + depth ≤ a * depth = run_below b a depth (omega arith) in
    ap (take depth) (drop-put_mid (b * depth) depth xs ys (a * depth) above (omega arith) l))
    (cases_lt a b)

-- a buffer has a record
pub has_record : (queues : Queues) (depth b : ℕ) → Sound queues depth → b * depth + depth ≤ 2048 → b < 2048
has_record queues depth b sound fits = buffer_below b depth 2048 (omega (arith, (sound b).0)) fits

-- What the buffers of a table hold after the record and the run of n slots of the buffer b, which were lent, came back as
-- q and run.
module _ (queues : List Queue) (slots : List Packet) (b depth n : ℕ) (q : Queue) (run : List Packet) where
  abbrev before : Queues
  before = record { queues = queues; slots = slots }

  abbrev after : Queues
  after = record { queues = set queues b q; slots = put_mid (b * depth) n slots run }

  -- the buffer b holds what its queue holds
  pub contents_here : 0 < depth → b * depth + depth ≤ 2048 → length queues ≡ 2048 → length slots ≡ 2048 → n ≡ depth → length run ≡ depth → contents after depth b ≡ held q run
  contents_here some fits records places n_is long =
      let below : b < length queues = (let below = buffer_below b depth 2048 some fits in omega arith) in
      rw n_is (ap₂ held (get_or-set_same queues b q no_queue below) (run_same b depth slots run (omega arith) long))

  -- another holds what it held
  pub contents_other : (a : ℕ) → a ≢ b → b * depth + depth ≤ 2048 → length slots ≡ 2048 → n ≡ depth → length run ≡ depth → contents after depth a ≡ contents before depth a
  contents_other a ne fits places n_is long =
      rw n_is (ap₂ held (get_or-set_other queues b a q no_queue ne) (run_other a b depth slots run ne (omega arith) long))

  -- and so do all
  pub all_contents_after : (t : ℕ) → 0 < depth → b * depth + depth ≤ 2048 → length queues ≡ 2048 → length slots ≡ 2048 → n ≡ depth → length run ≡ depth
      → all_contents after depth t ≡ set (all_contents before depth t) b (held q run)
  all_contents_after t some fits records places n_is long =
      all_contents_set before after depth b (held q run) (contents_here some fits records places n_is long) (λ a ne. contents_other a ne fits places n_is long) t

-- a record and a run that come back as they were leave the table as it was
pub unchanged : (queues : List Queue) (slots : List Packet) (b start n : ℕ) → (set queues b (get_or queues b no_queue) ≡ queues) × (put_mid start n slots (take n (drop start slots)) ≡ slots)
unchanged queues slots b start n =
    (set-get_or queues b no_queue, ap (λ xs. take start slots ++ xs) (take-append-drop n (drop start slots)) ∙ take-append-drop start slots)

-- a record is the one that came back, or the one that was there
pub queue_of_set : (queues : List Queue) (b a : ℕ) (q : Queue) → (get_or (set queues b q) a no_queue ≡ q) ⊎ (get_or (set queues b q) a no_queue ≡ get_or queues a no_queue)
queue_of_set queues b a q = grind (arith, get_or-set_same, get_or-set_other, get_or_past, length-set)

-- the record of one buffer among those of empty queues
empty_queue : (n b : ℕ) → get_or (replicate n no_queue) b no_queue ≡ no_queue
empty_queue n b = grind (arith, get_or-replicate, get_or_past, length-replicate)

-- a table whose records are those of empty queues
pub empty : (n : ℕ) (slots : List Packet) → Empty (record { queues = replicate n no_queue; slots = slots })
empty n slots =
    let queues : Queues = record { queues = replicate n no_queue; slots = slots } in
    let none : (depth b : ℕ) → contents queues depth b ≡ [] = λ depth b. ap (λ q. held q (run_of queues depth b)) (empty_queue n b) in
    record {
      none = none;
      all = λ depth t. contents_from_none queues depth 0 (none depth) t;
      sound = λ depth some b. rw (empty_queue n b) (some, omega arith);
    }

-- what a call on a buffer wants
pub ruleset lending = (contents_here, contents_other, all_contents_after, unchanged, queue_of_set, length_around)
