use Rattle.std.proofs.Common.{◌≡◌, ◌+◌, drop}
use Rattle.std.specs.Prelude.{sum_by}
use Rattle.circuit_spec.specs.Steps.{cost_of}
use Rattle.hop_check.proofs.weighing.total_cost.Given as goal

abbrev pub invariant-loop-hop : goal.invariant-loop-hop
invariant-loop-hop l = l.total + sum_by (cost_of l.inventory) (drop l.hop-index l.hops) ≡ sum_by (cost_of l.inventory) l.hops
