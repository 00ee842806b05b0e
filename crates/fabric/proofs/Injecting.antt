-- The questions of an inject, and what a performed one leaves. Assumes nothing.
use Rattle.std.proofs.Common.{◌≡◌, ℕ, ◌+◌, ◌-◌, ◌*◌, ◌<◌, ◌≤◌, List, [], ◌∷◌, ◌++◌, length, set, None, sym, ap, ◌∙◌, arith}
use Rattle.std.proofs.lemmas.Bool.Decides.{nat_tests}
use Rattle.queue.specs.declared.packet.Packet.{Packet}
use Rattle.queue.specs.Contents.{contents}
use Rattle.queue.proofs.Buffers.{getD_all_contents}
use Rattle.network.proofs.Consequences.{bounds_of}
use Rattle.table.specs.TableLaws.{table_lawful}
use Rattle.switch.specs.Places.{buffer_count, injection_buffer}
use Rattle.switch.specs.Buffers.{contents as contents_of}
use Rattle.switch.specs.Calls.{with_packet}
use Rattle.switch.specs.Calls.Call.{inject}
use Rattle.cycle.specs.Measures.{buffers_in}
use Rattle.cycle.proofs.Moves.{slots_in_range}
use Rattle.fabric.specs.declared.body.Body.{Body}
use Rattle.fabric.specs.declared.fabric.Fabric.{Fabric}
use Rattle.fabric.specs.Bodies.{state_in, TakenIn}
use Rattle.fabric.specs.Fabrics.{network_in, depth_in, state_of}
use Rattle.fabric.proofs.Calling.{asked}

module _ {R A : Type 0} (f : Fabric R A) where
  -- The sizes are those of the network.
  pub nodes_are : f.body.sizes.nodes ≡ (network_in f).nodes
  nodes_are = f.fits.measured.nodes_is

  pub nodes_few : (network_in f).nodes ≤ 64
  nodes_few = (bounds_of (network_in f) (table_lawful f.table)).nodes_bound

  pub nodes_within : f.body.sizes.nodes ≤ f.body.sizes.buffers
  unfolding buffer_count
  nodes_within = let e = f.fits.measured.buffers_is in let n = nodes_are in omega arith

  -- The injection buffer of a node.
  pub buffer_is : (n : ℕ) → f.body.sizes.buffers - f.body.sizes.nodes + n ≡ injection_buffer (network_in f) n
  unfolding buffer_count
  buffer_is n = let e = f.fits.measured.buffers_is in let k = nodes_are in omega arith

  pub buffer_under : (n : ℕ) → n < f.body.sizes.nodes → f.body.sizes.buffers - f.body.sizes.nodes + n < f.body.sizes.buffers
  buffer_under n h = let e = nodes_within in omega arith

  pub slots_under : (n : ℕ) → n < f.body.sizes.nodes → (f.body.sizes.buffers - f.body.sizes.nodes + n) * depth_in f + depth_in f ≤ 2048
  slots_under n h = slots_in_range (f.body.sizes.buffers - f.body.sizes.nodes + n) f.body.sizes.buffers (depth_in f) 2048 (buffer_under n h) f.fits.slots

  -- What it holds.
  pub held_at : (n : ℕ) → n < f.body.sizes.nodes
      → contents_of (state_of f).buffers (injection_buffer (network_in f) n) ≡ contents f.body.queues (depth_in f) (f.body.sizes.buffers - f.body.sizes.nodes + n)
  held_at n h =
      ap (λ (b : ℕ). contents_of (state_of f).buffers b) (sym (buffer_is n))
      ∙ getD_all_contents f.body.queues (depth_in f) f.body.sizes.buffers (f.body.sizes.buffers - f.body.sizes.nodes + n) (buffer_under n h)

  module _ (n d : ℕ) where
    -- What the questions give where none fails.
    pub record Injectable : Type 0 where
      pub source_in : n < f.body.sizes.nodes
      pub destination_in : d < f.body.sizes.nodes
      pub under_limit : f.body.taken < 60000
      pub room : length (contents f.body.queues (depth_in f) (f.body.sizes.buffers - f.body.sizes.nodes + n)) < depth_in f

    pub injectable : asked f (inject n d) ≡ None → Injectable
    injectable none =
        let e = nodes_are in
        let h : n < f.body.sizes.nodes = grind (arith, nat_tests) in
        let held = held_at n h in
        record { source_in = h; destination_in = grind (arith, nat_tests); under_limit = grind (arith, nat_tests); room = grind (arith, nat_tests) }

    -- The state with the packet taken in.
    pub injected_state : n < f.body.sizes.nodes → (new : Body) → TakenIn (f.body.sizes.buffers - f.body.sizes.nodes + n) n d f.body new
        → state_in f.arbiter new ≡ with_packet (network_in f) n d (state_of f)
    injected_state h new t =
        λ i. record {
          buffers =
              (ap (λ x. buffers_in x new.queues) t.sizes_is
              ∙ t.changed.all f.body.sizes.buffers
              ∙ ap (λ (xs : List Packet). set (state_of f).buffers (f.body.sizes.buffers - f.body.sizes.nodes + n) (xs ++ (record { number = f.body.taken; source = n; destination = d; hops = 0 } ∷ []))) (sym (held_at n h))
              ∙ ap (λ (b : ℕ). set (state_of f).buffers b (contents_of (state_of f).buffers (injection_buffer (network_in f) n) ++ (record { number = f.body.taken; source = n; destination = d; hops = 0 } ∷ []))) (buffer_is n)) i;
          taken = t.taken_is i;
          delivered = t.delivered_is i;
          hops = t.hops_is i;
          cycles = t.cycles_is i;
          feed = t.feed_is i;
          arbiter = f.arbiter;
        }
