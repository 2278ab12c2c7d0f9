use Rattle.circuit_spec.proofs.Generation.{segments_keep_rules}
use Rattle.circuit_spec.proofs.laws.rules_make_segments_alone.Goals as goal

pub returns : goal.returns
returns c = segments_keep_rules
