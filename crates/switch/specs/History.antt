-- What a history tells. Assumes nothing.
use Rattle.std.specs.Prelude.{ℕ, suc, ◌+◌, ◌-◌, Bool, true, false, cond, not, ◌&&◌, List, [], ◌∷◌, ◌++◌, length, Some, fold, count_by, filter, Option, ◌==◌, slice_index_or}
use Rattle.network.specs.Network.{Network}
use Rattle.switch.specs.declared.grant.Grant.{Grant}
use Rattle.switch.specs.declared.report.Report.{Report}
use Rattle.switch.specs.Places.{location}
use Rattle.switch.specs.Buffers.{distance_from}
use Rattle.switch.specs.Cycle.{delivers}
use Rattle.switch.specs.Calls.{Endpoints, Event}
use Rattle.switch.specs.Calls.Event.{injected, cycled, drained, closed}

-- The packets taken in, in order: packet k is at place k.
abbrev pub injections : List Event → List Endpoints
injections [] = []
injections (injected e ∷ h) = e ∷ injections h
injections (cycled gs ∷ h) = injections h
injections (drained ∷ h) = injections h
injections (closed ∷ h) = injections h

-- The grants, in order.
abbrev pub grants_in : List Event → List Grant
grants_in [] = []
grants_in (injected e ∷ h) = grants_in h
grants_in (cycled gs ∷ h) = gs ++ grants_in h
grants_in (drained ∷ h) = grants_in h
grants_in (closed ∷ h) = grants_in h

abbrev pub is_cycle : Event → Bool
is_cycle (injected e) = false
is_cycle (cycled gs) = true
is_cycle drained = false
is_cycle closed = false

abbrev pub is_drain : Event → Bool
is_drain (injected e) = false
is_drain (cycled gs) = false
is_drain drained = true
is_drain closed = false

abbrev pub cycles_in : List Event → ℕ
cycles_in h = count_by is_cycle h

abbrev pub drains_in : List Event → ℕ
drains_in h = count_by is_drain h

-- What is read past the last packet.
abbrev pub no_endpoints : Endpoints
no_endpoints = record { source = 0; destination = 0 }

-- The source and the destination of packet k, and the distance between them.
abbrev pub endpoints : List Event → ℕ → Endpoints
endpoints h k = slice_index_or (injections h) k no_endpoints

abbrev pub own_distance : Network → Endpoints → ℕ
own_distance net e = net.distance e.source e.destination

-- The hops and the deliveries among some grants,
abbrev pub hop_count : Network → List Grant → ℕ
hop_count net gs = count_by (λ g. not (delivers net g)) gs

abbrev pub delivery_count : Network → List Grant → ℕ
delivery_count net gs = count_by (delivers net) gs

-- those of packet k,
abbrev pub hops_of : Network → ℕ → List Grant → ℕ
hops_of net k gs = count_by (λ g. (g.packet == k) && not (delivers net g)) gs

abbrev pub deliveries_of : Network → ℕ → List Grant → ℕ
deliveries_of net k gs = count_by (λ g. (g.packet == k) && delivers net g) gs

-- and its grants themselves, in order.
abbrev pub grants_of : ℕ → List Grant → List Grant
grants_of k gs = filter (λ g. g.packet == k) gs

-- How many packets were taken in and not delivered.
abbrev pub inside_in : Network → List Event → ℕ
inside_in net h = length (injections h) - delivery_count net (grants_in h)

-- Where packet k stands after the grants: at its source, and then where its last hop led.
abbrev pub position : Network → ℕ → Endpoints → List Grant → Option ℕ
position net k e gs =
    fold (λ (at : Option ℕ) (g : Grant). cond (g.packet == k && not (delivers net g)) (location net g.new) at) (Some e.source) gs

-- The work that packet k leaves: none once it was delivered, before that its distance to go and one.
abbrev pub work_of : Network → List Grant → ℕ → Endpoints → ℕ
work_of net gs k e = cond (deliveries_of net k gs == 0) (distance_from net (position net k e gs) e.destination + 1) 0

-- The sum of f over the packets, where the first has the number i.
abbrev pub sum_from : (ℕ → Endpoints → ℕ) → ℕ → List Endpoints → ℕ
sum_from f i [] = 0
sum_from f i (e ∷ es) = f i e + sum_from f (suc i) es

-- The work left.
unfoldable pub work_in : Network → List Event → ℕ
work_in net h = sum_from (work_of net (grants_in h)) 0 (injections h)

-- The report that the history gives.
abbrev pub report_in : Network → List Event → Report
report_in net h = record {
  taken = length (injections h);
  delivered = delivery_count net (grants_in h);
  hops = hop_count net (grants_in h);
  cycles = cycles_in h;
  inside = inside_in net h;
}
