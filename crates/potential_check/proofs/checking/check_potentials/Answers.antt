use Rattle.std.proofs.Common.{subst, sym}
use Rattle.std.proofs.lemmas.Result.{err_from_is_err_and}
use Rattle.adapt_machine.specs.Machine.{MachineValue}
use Rattle.segment_grammar.proofs.Rising.{accepted, refuted}
use Rattle.pair_check.specs.Least.{IsLeastOf}
use Rattle.pair_check.specs.Rules.{ArePairsWithin, IsFaultOf, KeepsRules}
use Rattle.potential_check.proofs.Telling.{all_pass, disagrees, in_order, told, unplaced, within}
use Rattle.potential_check.proofs.checking.check_potentials.Goals as goal

pub pairs_of-requires-clause-rising : goal.pairs_of-requires-clause-rising
pairs_of-requires-clause-rising c = c.requires.machine.1.built.rise

pub pairs_of-requires-clause-in_order : goal.pairs_of-requires-clause-in_order
pairs_of-requires-clause-in_order c = in_order c.args.answer.now c.requires.formed

pub returns-in_err-pots-clause-err : goal.returns-in_err-pots-clause-err
returns-in_err-pots-clause-err c = λ T machine.
    let p = err_from_is_err_and c.from_residual.result c.from_residual.ensures.1 in
    rw (p.1, p.2) (unplaced T c.args.answer.now c.args.built.now machine c.in_err-pots.field-0.0 c.in_err-pots.ensures.err)

pub check_pairs-requires : goal.check_pairs-requires
check_pairs-requires c =
    subst (λ (m : MachineValue). ArePairsWithin m.states c.in_ok-pots.pots) (sym c.machine.ensures)
    (within c.requires.machine.0 c.args.answer.now c.args.built.now c.requires.machine.1 c.in_ok-pots.pots c.in_ok-pots.ensures.ok)

pub returns-in_err-check_pairs-clause-err : goal.returns-in_err-check_pairs-clause-err
returns-in_err-check_pairs-clause-err c = λ T machine.
    let p = err_from_is_err_and c.from_residual-in_err-check_pairs.result c.from_residual-in_err-check_pairs.ensures.1 in
    let fault = c.in_err-check_pairs.field-0.0 in
    let is = subst (λ (m : MachineValue). IsFaultOf m.steps c.args.built.now.starts c.in_ok-pots.pots fault) c.machine.ensures
    (subst (λ starts. IsFaultOf c.machine.result.now.steps starts c.in_ok-pots.pots fault) c.starts.ensures c.in_err-check_pairs.ensures.err) in
    rw (p.1, p.2) (told T c.args.answer.now c.args.built.now machine c.in_ok-pots.pots c.in_ok-pots.ensures.ok fault is)

pub returns-then-not-is_outcome_of-clause-err : goal.returns-then-not-is_outcome_of-clause-err
returns-then-not-is_outcome_of-clause-err c = λ T machine.
    let keeps = subst (λ (m : MachineValue). KeepsRules m.steps c.args.built.now.starts c.in_ok-pots.pots) c.machine.ensures
    (subst (λ starts. KeepsRules c.machine.result.now.steps starts c.in_ok-pots.pots) c.starts.ensures c.in_ok-check_pairs.ensures.ok) in
    let least = subst (λ targets. IsLeastOf targets c.in_ok-pots.pots c.least_listed-least.result) c.targets.ensures c.least_listed-least.ensures in
    disagrees T c.args.answer.now c.args.built.now machine c.in_ok-pots.pots c.in_ok-pots.ensures.ok keeps c.least_listed-least.result least
    (refuted _ c.is_outcome_of.ensures c.if-not-is_outcome_of.true)

pub returns-clause-ok : goal.returns-clause-ok
returns-clause-ok c = λ T machine.
    let keeps = subst (λ (m : MachineValue). KeepsRules m.steps c.args.built.now.starts c.in_ok-pots.pots) c.machine.ensures
    (subst (λ starts. KeepsRules c.machine.result.now.steps starts c.in_ok-pots.pots) c.starts.ensures c.in_ok-check_pairs.ensures.ok) in
    let least = subst (λ targets. IsLeastOf targets c.in_ok-pots.pots c.least_listed-least.result) c.targets.ensures c.least_listed-least.ensures in
    all_pass T c.args.answer.now c.args.built.now machine c.in_ok-pots.pots c.in_ok-pots.ensures.ok keeps c.least_listed-least.result least
    (accepted _ c.is_outcome_of.ensures c.if-not-is_outcome_of.false)
