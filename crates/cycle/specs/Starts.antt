-- What a cycle and a visit decide from in memory, as the definition of a cycle takes it. Assumes nothing.
use Rattle.std.specs.Prelude.{ℕ, List, Option}
use Rattle.network.specs.Network.{Network}
use Rattle.network.specs.declared.routing.Routing.{Ghosts}
use Rattle.switch.specs.declared.grant.Grant.{Grant}
use Rattle.switch.specs.Cycle.{Snapshot, Visit, request, requests}
use Rattle.cycle.specs.declared.start.Start.{Start}
use Rattle.cycle.specs.declared.visit.Visit.{Visit as VisitOf}
use Rattle.cycle.specs.Measures.{start_of, visit_of}
use Rattle.cycle.specs.Plans.{network_of}

module _ {R : Type 0} {routing : Ghosts R} where
  -- The network that the routing means, and the snapshot.
  abbrev pub network_in : Start R routing → Network
  network_in start = network_of start.plan.now

  abbrev pub snapshot : Start R routing → Snapshot
  snapshot start = start_of (network_in start) start.plan.now.sizes start.cycle start.queues.now

  -- The visit, what a buffer requests at it, and all requests.
  abbrev pub visit_in : VisitOf R routing → Visit
  visit_in visit = visit_of visit.node visit.port

  abbrev pub request_in : VisitOf R routing → ℕ → Option Grant
  request_in visit b = request (snapshot visit.start.now) visit.granted.now (visit_in visit) b

  abbrev pub requests_in : VisitOf R routing → List Grant
  requests_in visit = requests (snapshot visit.start.now) visit.granted.now (visit_in visit)
