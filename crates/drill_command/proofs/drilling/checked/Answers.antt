use Rattle.std.proofs.Common.{subst}
use Rattle.verdict.specs.Faults.{TellsFirst}
use Rattle.verdict.proofs.OneFault.{no_certificate}
use Rattle.drill_command.proofs.drilling.checked.Goals as goal

pub unreachable-requires : goal.unreachable-requires
unreachable-requires c =
    let inventory = c.args.inventory.now in
    let answer = c.args.answer.now in
    no_certificate inventory answer c.in-Err-NotValid.field-0-1 c.in-Err-NotValid.field-0-0
    (subst (TellsFirst inventory answer) c.in-Err-NotValid.field-0-is c.in-Err-NotValid.ensures.fault) c.requires.certified
