use Rattle.adapt_machine.specs.declared.MachineStep.{MachineStep}
use Rattle.segment_grammar.specs.Index.{IsPushFrom}
use Rattle.pair_check.specs.Rules.{IsListedRoot}
use Rattle.pair_check.proofs.Rows.{row_below, row_tested}
use Rattle.pair_check.proofs.opening.is_opened.Goals as goal

pub all_enter_roots-requires-clause-below : goal.all_enter_roots-requires-clause-below
all_enter_roots-requires-clause-below c =
    row_below c.args.machine.now.steps (IsPushFrom c.args.pair.state) c.pushes.result.now (c.pushes.ensures c.args.machine.now c.requires.indexed)

pub returns : goal.returns
returns c = row_tested c.args.machine.now.steps (IsPushFrom c.args.pair.state) c.pushes.result.now (c.pushes.ensures c.args.machine.now c.requires.indexed)
    (λ (t : MachineStep). IsListedRoot c.args.pots.now t.to) c.all_enter_roots.result c.all_enter_roots.ensures
