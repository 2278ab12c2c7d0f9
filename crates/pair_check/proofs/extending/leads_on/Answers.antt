use Rattle.std.proofs.Common.{◌∙◌, ap}
use Rattle.ml_base.specs.Weight.{capped_total}
use Rattle.pair_check.proofs.Listed.{leads}
use Rattle.pair_check.proofs.extending.leads_on.Goals as goal

pub returns : goal.returns
returns c =
    leads c.args.machine.now.steps c.args.noted.now.pots.now c.args.step c.step-taken.result c.step-taken.ensures.found c.is_listed_within.result c.args.root c.args.weight c.plus-most.result
    (c.plus-most.ensures ∙ ap (capped_total c.args.weight) c.known.ensures) c.is_listed_within.ensures
