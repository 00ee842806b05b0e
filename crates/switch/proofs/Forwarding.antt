-- Where a granted packet goes: it is delivered at its destination, or hops over a link one nearer, with room at the far
-- end, and into an escape channel only by escape. Assumes nothing.
use Rattle.std.proofs.Common.{◌≡◌, ℕ, ◌+◌, ◌<◌, Bool, true, false, cond, ◌&&◌, eqb, ◌⊎◌, length, Some, None, Option, sym, refl, ap, ◌∙◌, subst, inl, inr, arith}
use Rattle.std.proofs.lemmas.Bool.{ltb-true, eqb-true, and_parts}
use Rattle.network.specs.declared.hop.Hop.{Hop}
use Rattle.network.specs.Network.{Network}
use Rattle.network.specs.Laws.{Lawful}
use Rattle.network.proofs.Consequences.{link_asked, hop_nearer}
use Rattle.switch.specs.Places.{channel_count, buffer_count, channel_buffer, upstream, port_of, location}
use Rattle.switch.specs.Buffers.{contents}
use Rattle.switch.specs.Cycle.{Snapshot, has_room, is_nearer, by_escape, next_buffer}
use Rattle.switch.specs.Invariant.{ByEscape}
use Rattle.switch.proofs.Numbering.{buffer_upstream, buffer_port, buffer_channel, buffer_under, location_buffer}

-- By port p from n, a packet for d may join buffer c.
pub record Forwarded (net : Network) (n p c d : ℕ) : Type 0 where
  pub to : ℕ
  pub under : c < channel_count net
  pub leads_to : location net c ≡ Some to
  pub linked : net.link n p ≡ Some to
  pub one_nearer : net.distance to d + 1 ≡ net.distance n d
  pub by_escape : ByEscape net c d
  pub upstream_is : upstream net c ≡ n
  pub port_is : port_of net c ≡ p

abbrev pub Goes : Snapshot → ℕ → ℕ → ℕ → ℕ → Type 0
Goes start n p c d =
    ((c ≡ buffer_count start.network) × (d ≡ n)) ⊎ (Forwarded start.network n p c d × (length (contents start.buffers c) < start.depth))

module _ (start : Snapshot) (law : Lawful start.network) (n p d c : ℕ) where
  -- What is joined by a channel e of the link.
  by_channel : (e m : ℕ) → e < start.network.classes + 1 → start.network.link n p ≡ Some m → start.network.distance m d + 1 ≡ start.network.distance n d
      → ByEscape start.network (channel_buffer start.network n p e) d → has_room start (channel_buffer start.network n p e) ≡ true
      → channel_buffer start.network n p e ≡ c → Goes start n p c d
  by_channel e m he l one by room same =
      let net = start.network in
      let k = link_asked net law n p m l in
      inr (subst (λ (x : ℕ). Forwarded net n p x d × (length (contents start.buffers x) < start.depth)) same (
        record {
          to = m;
          under = buffer_under net n p e k.0 k.1 he;
          leads_to = location_buffer net n p e k.0 k.1 he ∙ l;
          linked = l;
          one_nearer = one;
          by_escape = by;
          upstream_is = buffer_upstream net n p e k.1 he;
          port_is = buffer_port net n p e k.1 he;
        },
        ltb-true _ _ room,
      ))

  goes_near : (o : Option ℕ) → start.network.link n p ≡ o → is_nearer start.network n d o ≡ true → has_room start (channel_buffer start.network n p 0) ≡ true
      → channel_buffer start.network n p 0 ≡ c → Goes start n p c d
  goes_near None l t room same = let z : ◌≡◌ {A = ℕ} 0 1 = cc in absurd (let k : ⊥ = omega arith in k)
  goes_near (Some m) l t room same =
      let net = start.network in
      by_channel 0 m (omega arith) l (eqb-true (net.distance m d + 1) (net.distance n d) t)
      (λ e _ ch. let k = buffer_channel net n p 0 (omega arith) in absurd (let z : ⊥ = omega arith in z)) room same

  goes_escape : (o : Option Hop) → start.network.escape n d ≡ o → by_escape start n p o ≡ Some c → Goes start n p c d
  goes_escape None e h = let z : ◌≡◌ {A = ℕ} 0 1 = cc in absurd (let k : ⊥ = omega arith in k)
  goes_escape (Some a) e h = go (eqb a.port p && has_room start (channel_buffer start.network n p (a.class + 1))) refl h
    where
      go : (b : Bool) → (eqb a.port p && has_room start (channel_buffer start.network n p (a.class + 1))) ≡ b
          → cond b (Some (channel_buffer start.network n p (a.class + 1))) None ≡ Some c → Goes start n p c d
      go false t k = let z : ◌≡◌ {A = ℕ} 0 1 = cc in absurd (let k : ⊥ = omega arith in k)
      go true t k =
          let net = start.network in
          let parts = and_parts _ _ t in
          let same_port = eqb-true a.port p parts.0 in
          let l = hop_nearer net law n d a e in
          let he : a.class + 1 < net.classes + 1 = omega (arith, l.class_in) in
          let lk : net.link n p ≡ Some a.next = let f = l.along in cc in
          let hp = (link_asked net law n p a.next lk).1 in
          by_channel (a.class + 1) a.next he lk l.less
          (λ x _ ch. (
            a,
            ap (λ (y : ℕ). net.escape y d) (buffer_upstream net n p (a.class + 1) hp he) ∙ e,
            same_port ∙ sym (buffer_port net n p (a.class + 1) hp he),
            (let k = buffer_channel net n p (a.class + 1) he in omega arith),
          ))
          parts.1 (cc)

  -- Where the next buffer leads.
  pub goes : next_buffer start n p d ≡ Some c → Goes start n p c d
  unfolding next_buffer
  goes h = first (eqb p start.network.ports) h
    where
      home : (b : Bool) → eqb d n ≡ b → cond b (Some (buffer_count start.network)) None ≡ Some c → Goes start n p c d
      home true t k = inl ((cc), eqb-true d n t)
      home false t k = let z : ◌≡◌ {A = ℕ} 0 1 = cc in absurd (let k : ⊥ = omega arith in k)

      third : (b : Bool) → (is_nearer start.network n d (start.network.link n p) && has_room start (channel_buffer start.network n p 0)) ≡ b
          → cond b (Some (channel_buffer start.network n p 0)) (by_escape start n p (start.network.escape n d)) ≡ Some c → Goes start n p c d
      third true t k = let parts = and_parts _ _ t in goes_near (start.network.link n p) refl parts.0 parts.1 (cc)
      third false t k = goes_escape (start.network.escape n d) refl k

      first : (b : Bool)
          → cond b (cond (eqb d n) (Some (buffer_count start.network)) None)
          (cond (is_nearer start.network n d (start.network.link n p) && has_room start (channel_buffer start.network n p 0))
          (Some (channel_buffer start.network n p 0)) (by_escape start n p (start.network.escape n d))) ≡ Some c
          → Goes start n p c d
      first true k = home (eqb d n) refl k
      first false k = third (is_nearer start.network n d (start.network.link n p) && has_room start (channel_buffer start.network n p 0)) refl k
