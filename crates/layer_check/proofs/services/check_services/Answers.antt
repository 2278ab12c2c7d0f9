use Rattle.std.proofs.Common.{arith}
use Rattle.circuit_spec.specs.Network.{Placed}
use Rattle.circuit_spec.specs.Faults.{switch_at, switch_faults}
use Rattle.layer_check.specs.Elements.{switch_faults_of}
use Rattle.layer_check.proofs.OfElements.{found_element, more_elements, no_element}
use Rattle.layer_check.proofs.services.check_services.Goals as goal

pub returns-in-Err-clause-fault : goal.returns-in-Err-clause-fault
returns-in-Err-clause-fault c =
    let T = c.args.inventory.now in
    found_element T (λ (p : Placed). switch_at p.element) (switch_faults T) c.loop-number.number c.in-Err.fault (omega arith) c.loop-number.invariant c.in-Err.ensures.fault

pub loop-number-preserved : goal.loop-number-preserved
loop-number-preserved c =
    let T = c.args.inventory.now in
    more_elements T (switch_faults_of T) c.loop-number.number (omega arith) c.loop-number.invariant c.in_default.ensures.none

pub returns-clause-none : goal.returns-clause-none
returns-clause-none c =
    let T = c.args.inventory.now in
    no_element T (λ (p : Placed). switch_at p.element) (switch_faults T) c.loop-number.number (omega arith) c.loop-number.invariant
