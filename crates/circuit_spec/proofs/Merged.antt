-- Files that merge have no id twice.
use Rattle.std.proofs.Common.{◌≡◌, [], ◌++◌}
use Rattle.circuit_spec.specs.Faults.{duplicate_ids, duplicate_topologies, merge_faults, wrong_kinds}
use Rattle.circuit_spec.specs.Network.{Topology}
use Rattle.circuit_spec.proofs.Lists.{both_empty}

pub ids_once : (T : Topology) → merge_faults T ≡ [] → duplicate_ids T ≡ []
ids_once T merged = (both_empty (duplicate_topologies T) (duplicate_ids T) (both_empty (duplicate_topologies T ++ duplicate_ids T) (wrong_kinds T) merged).0).1
