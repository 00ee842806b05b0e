-- The work of the packets of a buffer, and of all buffers. Assumes nothing.
use Rattle.std.proofs.Common.{◌≡◌, ℕ, zero, suc, ◌+◌, ◌*◌, ◌≤◌, List, [], ◌∷◌, length, Some, None, sum_by, Option, refl, ap, ◌∙◌, add-one, arith}
use Rattle.std.specs.List.{range_with_len}
use Rattle.std.proofs.lemmas.List.Sums.{sum_by-cons}
use Rattle.queue.specs.declared.packet.Packet.{Packet}
use Rattle.queue.specs.declared.queues.Queues.{Queues}
use Rattle.queue.specs.Contents.{contents, contents_from}
use Rattle.queue.proofs.Buffers.{contents_within}
use Rattle.network.specs.Network.{Network}
use Rattle.network.specs.Laws.{Bounds}
use Rattle.network.proofs.Consequences.{bounds_of}
use Rattle.table.specs.TableLaws.{table_lawful}
use Rattle.switch.specs.Places.{location}
use Rattle.switch.specs.Buffers.{distance_from, total_from, packet_work, work_left}
use Rattle.fabric.specs.declared.fabric.Fabric.{Fabric}
use Rattle.fabric.specs.Fabrics.{network_in, depth_in, state_of}

-- The sum over the buffers, one after another.
total_is : (f : ℕ → Packet → ℕ) (queues : Queues) (depth i n : ℕ) → sum_by (λ b. sum_by (f b) (contents queues depth b)) (range_with_len i n) ≡ total_from f i (contents_from queues depth i n)
unfolding contents_from
total_is f queues depth i zero = refl
total_is f queues depth i (suc n) =
    sum_by-cons (λ b. sum_by (f b) (contents queues depth b)) i (range_with_len (i + 1) n)
    ∙ ap (λ (x : ℕ). sum_by (f i) (contents queues depth i) + x)
    (ap (λ (j : ℕ). sum_by (λ b. sum_by (f b) (contents queues depth b)) (range_with_len j n)) (add-one i) ∙ total_is f queues depth (suc i) n)

-- Each packet leaves little work.
distance_few : (net : Network) → Bounds net → (at : Option ℕ) (d : ℕ) → distance_from net at d ≤ 64
distance_few net bounds None d = omega arith
distance_few net bounds (Some n) d = bounds.distance_bound n d

packets_few : (net : Network) → Bounds net → (b : ℕ) (qs : List Packet) → sum_by (packet_work net b) qs ≤ 65 * length qs
packets_few net bounds b [] = omega arith
packets_few net bounds b (q ∷ qs) =
    let a = sum_by-cons (packet_work net b) q qs in
    let d = distance_few net bounds (location net b) q.destination in
    let r = packets_few net bounds b qs in
    omega arith

module _ {R A : Type 0} (f : Fabric R A) where
  -- The work of the packets of a buffer,
  abbrev pub work_at : ℕ → ℕ
  work_at b = sum_by (packet_work (network_in f) b) (contents f.body.queues (depth_in f) b)

  pub buffer_few : (b : ℕ) → work_at b ≤ 260
  buffer_few b =
      let w = packets_few (network_in f) (bounds_of (network_in f) (table_lawful f.table)) b (contents f.body.queues (depth_in f) b) in
      let l = contents_within f.body.queues (depth_in f) b f.sound in
      let s = f.fits.shallow in
      omega arith

  -- and of all.
  buffers_few_from : (i n : ℕ) → sum_by work_at (range_with_len i n) ≤ 260 * n
  buffers_few_from i zero = omega arith
  buffers_few_from i (suc n) =
      let a = sum_by-cons work_at i (range_with_len (i + 1) n) in
      let b = buffer_few i in
      let r = buffers_few_from (i + 1) n in
      omega arith

  pub all_few : (n : ℕ) → sum_by work_at (range_with_len 0 n) ≤ 260 * n
  all_few = buffers_few_from 0

  pub all_work : sum_by work_at (range_with_len 0 f.body.sizes.buffers) ≡ work_left (network_in f) (state_of f).buffers
  unfolding work_left
  all_work = total_is (packet_work (network_in f)) f.body.queues (depth_in f) 0 f.body.sizes.buffers
