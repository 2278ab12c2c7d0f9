use Rattle.std.proofs.Common.{sym, subst}
use Rattle.std.specs.Prelude.{MatchResult}
use Rattle.std.proofs.lemmas.Result.{err_from_is_err_and}
use Rattle.verdict.specs.declared.rules.Rule.TheVariants as rule
use Rattle.verdict.specs.Faults.{TellsFirst}
use Rattle.verdict.specs.Rules.{PassWithin}
use Rattle.hop_check.proofs.Told.{all_pass, carried_passes, flagged_passes, flags_counted, told}
use Rattle.hop_check.proofs.checking.check_hops.Goals as goal

pub returns-in_err-check_arrival : goal.returns-in_err-check_arrival
returns-in_err-check_arrival c =
    let T = c.args.inventory.now in
    let a = c.args.answer.now in
    let e = err_from_is_err_and c.from_residual-in_err-check_arrival.result c.from_residual-in_err-check_arrival.ensures.1 in
    let tells = told T a rule.Arrives c.in_err-check_arrival.field-0.0 (carried_passes T a c.in_ok-check_ends.ensures c.in_ok-replay.ensures.decides) c.in_err-check_arrival.ensures in
    subst (λ r. MatchResult r (λ x. PassWithin T a rule.Ends rule.Ruled) (TellsFirst T a)) (sym e.1) (subst (TellsFirst T a) (sym e.2) tells)

pub check_flags-requires-clause-counted : goal.check_flags-requires-clause-counted
check_flags-requires-clause-counted c = flags_counted c.args.answer.now.outcome c.args.answer.now c.requires.formed.body

pub returns-in_err-check_rules : goal.returns-in_err-check_rules
returns-in_err-check_rules c =
    let T = c.args.inventory.now in
    let a = c.args.answer.now in
    let e = err_from_is_err_and c.from_residual-in_err-check_rules.result c.from_residual-in_err-check_rules.ensures.1 in
    let before = flagged_passes T a c.in_ok-check_ends.ensures c.in_ok-replay.ensures.decides c.in_ok-check_arrival.ensures c.in_ok-check_weight.ensures c.in_ok-check_flags.ensures in
    let tells = told T a rule.Ruled c.in_err-check_rules.field-0.0 before (c.in_err-check_rules.ensures T) in
    subst (λ r. MatchResult r (λ x. PassWithin T a rule.Ends rule.Ruled) (TellsFirst T a)) (sym e.1) (subst (TellsFirst T a) (sym e.2) tells)

pub returns : goal.returns
returns c =
    let T = c.args.inventory.now in
    all_pass T c.args.answer.now c.in_ok-check_ends.ensures c.in_ok-replay.ensures.decides c.in_ok-check_arrival.ensures c.in_ok-check_weight.ensures c.in_ok-check_flags.ensures (c.in_ok-check_rules.ensures T)
