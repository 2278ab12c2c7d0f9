use Rattle.std.proofs.Common.{◌<◌, List, sym, subst, Contains}
use Rattle.std.specs.Result.{IfOk}
use Rattle.ml_base.specs.declared.numbers.StateNo.{StateNo}
use Rattle.adapt_machine.specs.Machine.{MachineValue}
use Rattle.circuit_spec.specs.declared.hops.TheConstants.{HOP_LIMIT}
use Rattle.k_cheapest.specs.declared.found.KFound.{KFound}
use Rattle.k_cheapest.specs.KLists.{IsKList}
use Rattle.k_solver.proofs.solving.best_of.Goals as goal

pub k_best-requires-clause-starts : goal.k_best-requires-clause-starts
k_best-requires-clause-starts c = λ a listed.
    subst (λ (m : MachineValue). a.0 < m.states) (sym c.machine-machine.ensures) (c.requires a (subst (λ states. Contains states a) c.starts-starts.ensures listed))

pub returns : goal.returns
returns c =
    subst (λ (m : MachineValue). IfOk c.k_best.result (λ (f : KFound). IsKList m.steps c.args.built.now.starts c.args.built.now.targets c.args.k HOP_LIMIT f.walks f.end)) c.machine-machine.ensures
    (subst (λ (states : List StateNo). IfOk c.k_best.result (λ (f : KFound). IsKList c.machine-machine.result.now.steps states c.args.built.now.targets c.args.k HOP_LIMIT f.walks f.end)) c.starts-starts.ensures
    (subst (λ (states : List StateNo). IfOk c.k_best.result (λ (f : KFound). IsKList c.machine-machine.result.now.steps c.starts-starts.result.now states c.args.k HOP_LIMIT f.walks f.end)) c.targets-targets.ensures
    c.k_best.ensures))
