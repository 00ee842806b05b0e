-- Walks, and following escape, in a lawful network. Assumes nothing.
use Rattle.std.proofs.Common.{◌≡◌, ℕ, ◌<◌, ◌≤◌, List, [], ◌∷◌, length, Some, None, sym, subst, arith}
use Rattle.std.specs.Option.{option_map}
use Rattle.network.specs.declared.hop.Hop.{Hop}
use Rattle.network.specs.declared.route_step.RouteStep.{RouteStep}
use Rattle.network.specs.Network.{Network}
use Rattle.network.specs.Laws.{Lawful}
use Rattle.network.specs.Walks.{Walk, stay, along}
use Rattle.network.specs.Routes.{step_by, Following, stops, hops, Above, Rising, Arrives}
use Rattle.network.proofs.Options.{mapped_some, mapped_none}
use Rattle.network.proofs.Consequences.{link_asked, hop_nearer, hop_node, hop_rises, stop_zero}

module _ (net : Network) (law : Lawful net) where
  -- every walk has at least as many links as the distance
  pub walk_long : {n d k : ℕ} → d < net.nodes → Walk net n d k → net.distance n d ≤ k
  walk_long {n} b stay = omega (arith, law.distances.here n b)
  walk_long {n} {d} {k} b (along {m = m} p l w) =
      let s = link_asked net law n p m l in
      omega (arith, law.steps n p m d s.0 s.1 b l, walk_long b w)

  -- following escape ends at the destination,
  ends : {d n m : ℕ} {ss : List RouteStep} → n < net.nodes → d < net.nodes → Following net d n ss m → m ≡ d
  ends {d} {n} a b (stops e) = law.distances.apart n d a b (stop_zero net law n d e)
  ends {d} {n} a b (hops h e f) = ends (hop_node net law n d h e) b f

  -- after as many steps as the distance,
  count : {d n m : ℕ} {ss : List RouteStep} → Following net d n ss m → length ss ≡ net.distance n d
  count {d} {n} (stops e) = sym (stop_zero net law n d e)
  count {d} {n} (hops h e f) = omega (arith, count f, (hop_nearer net law n d h e).less)

  -- over links,
  walked : {d n m : ℕ} {ss : List RouteStep} → Following net d n ss m → Walk net n m (length ss)
  walked (stops e) = stay
  walked {d} {n} (hops h e f) = along h.port (hop_nearer net law n d h e).along (walked f)

  -- with rising ranks.
  above : {d m : ℕ} {ss : List RouteStep} (n : ℕ) (h : Hop) → net.escape n d ≡ Some h → Following net d h.next ss m → Above (net.rank n h.port h.class) ss
  above n h e (stops z) = tt
  above {d} n h e (hops k f g) = (hop_rises net law n d h k e f, above h.next k f g)

  rising : {d n m : ℕ} {ss : List RouteStep} → Following net d n ss m → Rising ss
  rising (stops e) = tt
  rising {d} {n} (hops h e f) = above n h e f

  pub following_arrives : {d n m : ℕ} {ss : List RouteStep} → n < net.nodes → d < net.nodes → Following net d n ss m → Arrives net n d ss
  following_arrives {d} {n} {m} {ss} a b f =
      let e = ends a b f in
      record {
        following = subst (Following net d n ss) e f;
        count = count f;
        rising = rising f;
        walked = subst (λ x. Walk net n x (length ss)) e (walked f);
        shortest = λ k w. walk_long b w;
      }

module _ (net : Network) (d n : ℕ) where
  -- the steps so far and one more
  pub following_more : (m : ℕ) (ts : List RouteStep) (s : RouteStep) → option_map (step_by net n) (net.escape n d) ≡ Some s → Following net d s.next ts m → Following net d n (s ∷ ts) m
  following_more m ts s e f =
      let w = mapped_some (step_by net n) (net.escape n d) s e in
      subst (λ x. Following net d n (x ∷ ts) m) (sym w.2) (hops w.0 w.1 (subst (λ (x : RouteStep). Following net d x.next ts m) w.2 f))

  -- and none more
  pub following_none : option_map (step_by net n) (net.escape n d) ≡ None → Following net d n [] n
  following_none e = stops (mapped_none (step_by net n) (net.escape n d) e)
