use Rattle.std.proofs.Common.{length}
use Rattle.circuit_spec.specs.Network.{ports}
use Rattle.circuit_spec.specs.declared.hops.Request.{Request}
use Rattle.kept_table.specs.Gathering.{IsGathered}
use Rattle.kept_table.proofs.gathering.link_sets.Given as goal

abbrev pub invariant-loop-number : goal.invariant-loop-number
invariant-loop-number l = (r : Request) → IsGathered l.inventory r (length (ports l.inventory)) l.number 0 l.gathered
