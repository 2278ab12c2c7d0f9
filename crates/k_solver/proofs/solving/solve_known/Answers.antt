use Rattle.std.proofs.Common.{sym, subst}
use Rattle.finder_core.proofs.Outcome.{starts_within}
use Rattle.k_solver.specs.Walks.{AreWalksOf, AreWithin}
use Rattle.k_solver.proofs.Listed.{answered, within}
use Rattle.k_solver.proofs.solving.solve_known.Goals as goal

pub best_of-requires : goal.best_of-requires
best_of-requires c = starts_within c.args.inventory.now c.args.request.now c.in_ok-built.built c.requires.sound c.in_ok-built.ensures

pub list_walks-requires-clause-within : goal.list_walks-requires-clause-within
list_walks-requires-clause-within c = subst (AreWithin c.in_ok-built.built) (sym c.as_slice.ensures)
    (within c.args.inventory.now c.args.request.now c.in_ok-built.built c.requires.sound c.in_ok-built.ensures c.args.k c.in_ok-found.found.walks c.in_ok-found.found.end c.in_ok-found.ensures)

pub returns : goal.returns
returns c = answered c.args.inventory.now c.args.request.now c.in_ok-built.built c.requires.sound c.in_ok-built.ensures c.args.k c.in_ok-found.found.walks c.in_ok-walks.walks c.in_ok-found.found.end c.in_ok-found.ensures
    (subst (λ found. AreWalksOf c.args.inventory.now c.in_ok-built.built found c.in_ok-walks.walks) c.as_slice.ensures c.in_ok-walks.ensures)
    c.requires.known c.in_ok-request.request c.in_ok-request.ensures
