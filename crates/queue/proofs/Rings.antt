-- What a queue holds after a packet is appended or taken out. Assumes nothing.
use Rattle.std.proofs.Common.{◌≡◌, ℕ, zero, suc, ◌+◌, ◌-◌, ◌<◌, ◌≤◌, ◌≢◌, List, [], ◌∷◌, ◌++◌, length, get_or, set, Some, None, sym, refl, ap, ◌∙◌, add-zero, add-suc, suc-add, arith, length-set}
use Rattle.std.specs.List.{slice_get}
use Rattle.std.proofs.lemmas.List.{get_or-set_same, get_or-set_other}
use Rattle.std.proofs.lemmas.Option.{slice_get_past}
use Rattle.std.proofs.lemmas.Bool.Decides.{nat_tests}
use Rattle.queue.specs.declared.packet.Packet.{Packet}
use Rattle.queue.specs.Held.{no_packet, wrapped, around}

-- a place of the run is a slot
wrapped_below : (len x : ℕ) → x < len → wrapped len x ≡ x
wrapped_below len x h = grind (arith, nat_tests)

-- a place less than twice the length of the run wraps into the run
wrapped_within : (len x : ℕ) → x < len + len → wrapped len x < len
wrapped_within len x h = grind (arith, nat_tests)

-- two places of a run less than its length apart are two slots
apart : (len i k n : ℕ) → i < len → k < n → n < len → wrapped len (i + k) ≢ wrapped len (i + n)
apart len i k n hi hk hn e = grind (arith, nat_tests)

-- one packet more at the end
around_more : (run : List Packet) (i n : ℕ) → around run i (suc n) ≡ around run i n ++ (get_or run (wrapped (length run) (i + n)) no_packet ∷ [])
around_more run i zero = rw add-zero
around_more run i (suc n) = ap (λ xs. get_or run (wrapped (length run) i) no_packet ∷ xs) (around_more run (suc i) n ∙ rw (suc-add, add-suc))

-- a write to another slot
around_set : (run : List Packet) (i n j : ℕ) (p : Packet) → ((k : ℕ) → k < n → wrapped (length run) (i + k) ≢ j) → around (set run j p) i n ≡ around run i n
around_set run i zero j p h = refl
around_set run i (suc n) j p h =
    let here : wrapped (length run) i ≢ j = (rw add-zero at (h 0 (omega arith))) in
    let rest : around (set run j p) (suc i) n ≡ around run (suc i) n = around_set run (suc i) n j p (λ k lt. (rw (add-suc, ← suc-add) at (h (suc k) (omega arith)))) in
    let first : get_or (set run j p) (wrapped (length run) i) no_packet ≡ get_or run (wrapped (length run) i) no_packet = get_or-set_other run j (wrapped (length run) i) p no_packet here in
    rw (length-set, first, rest)

-- a packet written into the slot after the last
pub append_holds : (run : List Packet) (i n back : ℕ) (p : Packet) → i < length run → n < length run → back ≡ wrapped (length run) (i + n) → around (set run back p) i (n + 1) ≡ around run i n ++ (p ∷ [])
append_holds run i n back p hi hn e = grind (arith, around_set, around_more, apart, wrapped_within, get_or-set_same, length-set)

-- past the end of the run are the slots from its start on
around_past : (run : List Packet) (j n : ℕ) → j + n ≤ length run → around run (length run + j) n ≡ around run j n
around_past run j zero h = refl
around_past run j (suc n) h =
    let slot : wrapped (length run) (length run + j) ≡ wrapped (length run) j = grind (arith, nat_tests) in
    let rest : around run (suc (length run + j)) n ≡ around run (suc j) n = (rw add-suc at (around_past run (suc j) n (omega arith))) in
    rw (slot, rest)

-- the places of a run are the same after its end as before
around_wrapped : (run : List Packet) (i n : ℕ) → i ≤ length run → n ≤ length run → around run (wrapped (length run) i) n ≡ around run i n
around_wrapped run i n hi hn =
    let past = around_past run 0 n in
    grind (arith, past, nat_tests)

-- the first packet taken out
pub remove_holds : (run : List Packet) (i n first next : ℕ) → i < length run → 0 < n → n ≤ length run → first ≡ i → next ≡ wrapped (length run) (i + 1)
    → around run i n ≡ get_or run first no_packet ∷ around run next (n - 1)
remove_holds run i zero first next hi some hn e f = absurd (omega arith)
remove_holds run i (suc n) first next hi some hn e f = grind (arith, wrapped_below, around_wrapped)

-- a queue holds as many packets as its record says
pub length_around : (run : List Packet) (i n : ℕ) → length (around run i n) ≡ n
length_around run i zero = refl
length_around run i (suc n) = ap suc (length_around run (suc i) n)

-- the packet at a place of a queue
pub nth_around : (run : List Packet) (i n k slot : ℕ) → k < n → slot ≡ wrapped (length run) (i + k) → slice_get (around run i n) k ≡ Some (get_or run slot no_packet)
nth_around run i zero k slot h e = absurd (omega arith)
nth_around run i (suc n) zero slot h e = rw (e, add-zero)
nth_around run i (suc n) (suc k) slot h e = nth_around run (suc i) n k slot (omega arith) (e ∙ rw (suc-add, add-suc))

-- no packet is at a place past the last
pub nth_around_past : (run : List Packet) (i n k : ℕ) → n ≤ k → None ≡ slice_get (around run i n) k
nth_around_past run i n k h = sym (slice_get_past (around run i n) k (rw length_around h))
