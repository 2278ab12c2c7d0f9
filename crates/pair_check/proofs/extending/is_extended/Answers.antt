use Rattle.ml_base.specs.Weight.{capped_total}
use Rattle.adapt_machine.specs.declared.MachineStep.{MachineStep}
use Rattle.segment_grammar.specs.Index.{IsFlatFrom}
use Rattle.pair_check.specs.Rules.{IsListedWithin, step_weight}
use Rattle.pair_check.proofs.Rows.{row_below, row_tested}
use Rattle.pair_check.proofs.extending.is_extended.Goals as goal

pub all_lead_on-requires : goal.all_lead_on-requires
all_lead_on-requires c = row_below c.args.machine.now.steps (IsFlatFrom c.args.pair.state) c.flats.result.now (c.flats.ensures c.args.machine.now c.requires.indexed)

pub returns : goal.returns
returns c = row_tested c.args.machine.now.steps (IsFlatFrom c.args.pair.state) c.flats.result.now (c.flats.ensures c.args.machine.now c.requires.indexed)
    (λ (t : MachineStep). IsListedWithin c.args.noted.now.pots.now c.args.pair.root t.to (capped_total c.args.pair.weight (step_weight t))) c.all_lead_on.result c.all_lead_on.ensures
