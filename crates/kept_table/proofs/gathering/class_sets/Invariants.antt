use Rattle.circuit_spec.specs.declared.hops.Request.{Request}
use Rattle.kept_table.specs.Gathering.{IsGathered}
use Rattle.kept_table.proofs.gathering.class_sets.Given as goal

abbrev pub invariant-loop-port : goal.invariant-loop-port
invariant-loop-port l = (r : Request) → IsGathered l.inventory r l.port 0 0 l.gathered
