use Rattle.knuth_search.specs.Settled.{potentials_of, derivs_of}
use Rattle.knuth_search.proofs.Gathering.{IsGathering}
use Rattle.knuth_search.proofs.settled.gather.Given as goal

abbrev pub invariant-loop-place : goal.invariant-loop-place
invariant-loop-place l = IsGathering l.fn.table.task l.items.items l.place (potentials_of l.settled) (derivs_of l.settled)
