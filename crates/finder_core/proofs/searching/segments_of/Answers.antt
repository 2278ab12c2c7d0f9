use Rattle.std.proofs.Common.{◌<◌, sym, subst, Contains}
use Rattle.std.specs.Result.{IfOk}
use Rattle.adapt_machine.specs.Machine.{MachineValue}
use Rattle.knuth_search.specs.Settled.{IsSettledOf}
use Rattle.finder_core.proofs.searching.segments_of.Goals as goal

pub search-requires-clause-starts : goal.search-requires-clause-starts
search-requires-clause-starts c = λ a listed.
    subst (λ (m : MachineValue). a.0 < m.states) (sym c.machine-machine.ensures) (c.requires a (subst (λ states. Contains states a) c.starts-starts.ensures listed))

pub returns : goal.returns
returns c =
    subst (λ (m : MachineValue). IfOk c.search.result (IsSettledOf m c.args.built.now.starts)) c.machine-machine.ensures
    (subst (λ states. IfOk c.search.result (IsSettledOf c.machine-machine.result.now states)) c.starts-starts.ensures c.search.ensures)
