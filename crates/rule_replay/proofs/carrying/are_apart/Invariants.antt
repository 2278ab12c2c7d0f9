use Rattle.std.proofs.Common.{◌≡◌, [], take}
use Rattle.circuit_spec.specs.Flags.{flags_after}
use Rattle.table_replay.specs.Walked.{AreUnset}
use Rattle.rule_replay.proofs.carrying.are_apart.Given as goal

abbrev pub invariant-loop-place : goal.invariant-loop-place
invariant-loop-place l = record {
  met : l.met.keys ≡ take l.place-index l.places;
  apart : AreUnset (flags_after [] (take l.place-index l.places));
}
