use Rattle.std.proofs.Common.{[]}
use Rattle.circuit_spec.specs.Segments.{unit_in}
use Rattle.circuit_spec.proofs.NextUnit.{one_next}
use Rattle.table_replay.proofs.One.{one_forwarding}
use Rattle.table_replay.proofs.laws.forwarding_is_one.Goals as goal

pub returns : goal.returns
returns c T rules start target hops others ending other x y = one_forwarding T rules target (one_next T) hops others [] (unit_in start []) ending other x y
