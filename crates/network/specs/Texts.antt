-- How a step is written. Assumes nothing.
use Rattle.std.specs.Prelude.{ℕ, List, ◌++◌, codes, decimal}
use Rattle.network.specs.declared.route_step.RouteStep.{RouteStep}

-- its five numbers in decimal, with a space between
abbrev pub step_text : RouteStep → List ℕ
step_text s = decimal s.node ++ (codes " " ++ (decimal s.port ++ (codes " " ++ (decimal s.class ++ (codes " " ++ (decimal s.rank ++ (codes " " ++ decimal s.next)))))))
