use Rattle.std.proofs.Common.{length}
use Rattle.circuit_spec.specs.Network.{ports}
use Rattle.circuit_spec.specs.Faults.{ClassesFit}
use Rattle.layer_check.specs.Found.{IsAliasFault, IsClassFault}
use Rattle.layer_check.proofs.Answering.{err_then, ok_then}
use Rattle.layer_check.proofs.Fitting.{classes_fit, fits_after_all, least_class_fault, unfit_leads}
use Rattle.layer_check.proofs.classes.check_classes.Goals as goal

pub check_class-requires : goal.check_class-requires
check_class-requires c = unfit_leads c.args.inventory.now c.in-Some.class (length (ports c.args.inventory.now)) c.in-Some.ensures

pub returns-in-Some-clause-fit : goal.returns-in-Some-clause-fit
returns-in-Some-clause-fit c =
    let T = c.args.inventory.now in
    ok_then c.check_class.result _ (ClassesFit T) (fits_after_all T c.in-Some.class (length (ports T)) (ClassesFit T) c.in-Some.ensures) c.check_class.ensures.fits

pub returns-in-Some-clause-fault : goal.returns-in-Some-clause-fault
returns-in-Some-clause-fault c =
    let T = c.args.inventory.now in
    err_then c.check_class.result (IsClassFault T c.in-Some.class.0) (IsAliasFault T) (λ f. least_class_fault T c.in-Some.class f c.is_merged.ensures c.in-Some.ensures) c.check_class.ensures.fault

pub returns-in-None-clause-fit : goal.returns-in-None-clause-fit
returns-in-None-clause-fit c = classes_fit c.args.inventory.now c.is_merged.ensures c.in-None.ensures
