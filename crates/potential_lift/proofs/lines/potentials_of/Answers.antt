use Rattle.std.proofs.Common.{subst}
use Rattle.std.proofs.lemmas.Result.{IfOk-weaker}
use Rattle.segment_grammar.specs.Pots.{IsRising}
use Rattle.answer_spec.specs.Potentials.{ArePotentials}
use Rattle.potential_lift.specs.Lines.{AreLinesOf}
use Rattle.potential_lift.proofs.Listed.{listed}
use Rattle.potential_lift.proofs.lines.potentials_of.Goals as goal

pub returns-clause-potentials : goal.returns-clause-potentials
returns-clause-potentials c = λ T r machine pots.
    let rising = subst IsRising c.as_slice.ensures.value c.as_slice.ensures.rising in
    IfOk-weaker c.lines_of.result (AreLinesOf c.args.built.now c.as_slice.result.now) (ArePotentials T r)
    (λ lines are. listed T r c.args.built.now machine c.args.pots.now pots lines (subst (λ ps. AreLinesOf c.args.built.now ps lines) c.as_slice.ensures.value are) rising) c.lines_of.ensures
