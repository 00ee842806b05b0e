-- What all buffers of a table hold, as a list. Assumes nothing.
use Rattle.std.proofs.Common.{◌≡◌, ℕ, zero, suc, ◌+◌, ◌<◌, ◌≤◌, ◌≢◌, List, [], ◌∷◌, length, get_or, set, replicate, sym, refl, ap, ◌∙◌, ap₂, add-zero, zero-add, arith, length-set}
use Rattle.std.proofs.lemmas.List.{ext_get_or, get_or-set_same, get_or-set_other}
use Rattle.queue.specs.declared.packet.Packet.{Packet}
use Rattle.queue.specs.declared.queues.Queues.{Queues}
use Rattle.queue.specs.Contents.{contents, contents_from, all_contents, queue_of, run_of, Sound}
use Rattle.queue.proofs.Rings.{length_around}

-- a buffer holds as many packets as its record says
pub length_contents : (queues : Queues) (depth b : ℕ) → length (contents queues depth b) ≡ (queue_of queues b).count
length_contents queues depth b = length_around (run_of queues depth b) (queue_of queues b).first (queue_of queues b).count

-- a buffer holds no more packets than it has slots
pub contents_within : (queues : Queues) (depth b : ℕ) → Sound queues depth → length (contents queues depth b) ≤ depth
contents_within queues depth b sound = rw length_contents (sound b).1

length_contents_from : (queues : Queues) (depth b n : ℕ) → length (contents_from queues depth b n) ≡ n
unfolding contents_from
length_contents_from queues depth b zero = refl
length_contents_from queues depth b (suc n) = ap suc (length_contents_from queues depth (suc b) n)

getD_contents_from : (queues : Queues) (depth b n k : ℕ) → k < n → get_or (contents_from queues depth b n) k [] ≡ contents queues depth (b + k)
unfolding contents_from
getD_contents_from queues depth b zero k h = absurd (omega arith)
getD_contents_from queues depth b (suc n) zero h = ap (contents queues depth) (sym (add-zero b))
getD_contents_from queues depth b (suc n) (suc k) h =
    let e : suc b + k ≡ b + suc k = omega arith in
    getD_contents_from queues depth (suc b) n k (omega arith) ∙ ap (contents queues depth) e

-- there are as many lists as buffers
pub length_all_contents : (queues : Queues) (depth t : ℕ) → length (all_contents queues depth t) ≡ t
length_all_contents queues depth t = length_contents_from queues depth 0 t

-- what one of the buffers holds
pub getD_all_contents : (queues : Queues) (depth t b : ℕ) → b < t → get_or (all_contents queues depth t) b [] ≡ contents queues depth b
getD_all_contents queues depth t b h = getD_contents_from queues depth 0 t b h ∙ ap (contents queues depth) (zero-add b)

-- one buffer has changed
pub all_contents_set : (old new : Queues) (depth b : ℕ) (packets : List Packet) → contents new depth b ≡ packets → ((a : ℕ) → a ≢ b → contents new depth a ≡ contents old depth a)
    → (t : ℕ) → all_contents new depth t ≡ set (all_contents old depth t) b packets
all_contents_set old new depth b packets here others t =
    let was : length (all_contents old depth t) ≡ t = length_all_contents old depth t in
    let is : length (all_contents new depth t) ≡ t = length_all_contents new depth t in
    ext_get_or [] (all_contents new depth t) (set (all_contents old depth t) b packets) (is ∙ sym (length-set (all_contents old depth t) b packets ∙ was))
    (λ a h. grind (arith, getD_all_contents, get_or-set_same, get_or-set_other, others))

-- every buffer is empty
pub contents_from_none : (queues : Queues) (depth b : ℕ) → ((a : ℕ) → contents queues depth a ≡ []) → (n : ℕ) → contents_from queues depth b n ≡ replicate n []
unfolding contents_from
contents_from_none queues depth b none zero = refl
contents_from_none queues depth b none (suc n) = ap₂ (λ x xs. x ∷ xs) (none b) (contents_from_none queues depth (suc b) none n)
