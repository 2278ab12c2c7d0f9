use Rattle.circuit_spec.proofs.OneRequestFault.{one_request_fault, known_has_none}
use Rattle.circuit_spec.proofs.laws.request_fault_is_one.Goals as goal

pub returns-clause-one : goal.returns-clause-one
returns-clause-one c = one_request_fault

pub returns-clause-none : goal.returns-clause-none
returns-clause-none c = known_has_none
