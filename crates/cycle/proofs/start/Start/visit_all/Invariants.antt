-- What stands in the trace, and what the visits that are left decide, are all the decisions.
use Rattle.std.proofs.Common.{List}
use Rattle.switch.specs.declared.grant.Grant.{Grant}
use Rattle.switch.specs.Cycle.{Decisions}
use Rattle.cycle.specs.Starts.{snapshot}
use Rattle.cycle.specs.Decided.{all_decisions}
use Rattle.cycle.proofs.Decisions.{Deciding, from_node, from_port}
use Rattle.cycle.proofs.start.Start.visit_all.Given as goal

abbrev pub invariant-loop-node : goal.invariant-loop-node
invariant-loop-node g l =
    Deciding (snapshot l.self) g.A.Arbiter.rule (all_decisions (snapshot l.self) g.A.Arbiter.rule l.initial.arbiter) l.initial.trace l.trace l.count l.granted l.arbiter (from_node l.self.plan.now.sizes l.node)

-- what held when the node was entered holds of the ports that are left
abbrev pub invariant-loop-port : goal.invariant-loop-port
invariant-loop-port g l =
    (all : Decisions g.row.A.Denot) (old : List Grant)
    → Deciding (snapshot l.self) g.A.Arbiter.rule all old l.initial.trace l.initial.count l.initial.granted l.initial.arbiter (from_port l.self.plan.now.sizes l.node 0)
    → Deciding (snapshot l.self) g.A.Arbiter.rule all old l.trace l.count l.granted l.arbiter (from_port l.self.plan.now.sizes l.node l.port)
