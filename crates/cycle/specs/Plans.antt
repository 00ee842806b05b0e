-- The network of a plan. Assumes nothing.
use Rattle.network.specs.Network.{Network}
use Rattle.network.specs.declared.routing.Routing.{Ghosts}
use Rattle.cycle.specs.declared.plan.Plan.{Plan}

-- The network that the routing means.
abbrev pub network_of : {R : Type 0} {routing : Ghosts R} → Plan R routing → Network
network_of {R} {routing} plan = routing.meaning plan.routing.now
