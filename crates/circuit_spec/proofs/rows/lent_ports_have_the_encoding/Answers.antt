use Rattle.std.proofs.Common.{inl, inr, [], codes, refl}
use Rattle.circuit_spec.specs.Network.{Port, ports}
use Rattle.circuit_spec.specs.Rows.{request_any}
use Rattle.circuit_spec.specs.ServiceRows.{crossing, lending}
use Rattle.circuit_spec.proofs.Alone.{NoAliases}
use Rattle.circuit_spec.proofs.OneHop.{one_hop}
use Rattle.circuit_spec.proofs.Plain.{read_port}
use Rattle.circuit_spec.proofs.Stuck.{cut_off}
use Rattle.circuit_spec.proofs.rows.lent_ports_have_the_encoding.Goals as goal

abbrev a : Port
a = read_port (codes "a") (codes "eth") [] [] []

abbrev b : Port
b = read_port (codes "b") (codes "eth") [] [] []

none : NoAliases (ports lending)
none = (refl, (refl, (refl, (refl, tt))))

pub returns-clause-circuit : goal.returns-clause-circuit
returns-clause-circuit c =
    one_hop lending (request_any (codes "a") (codes "b")) (crossing (codes "a") (codes "b")) a b _ none
    refl refl refl refl refl refl refl tt refl tt (λ stack. (refl, refl, refl, inr refl, refl))

pub returns-clause-other : goal.returns-clause-other
returns-clause-other c = cut_off lending (request_any (codes "x") (codes "y")) none (inl refl) refl
