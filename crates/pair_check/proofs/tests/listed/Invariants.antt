use Rattle.pair_check.specs.Rules.{ArePairsWithin}
use Rattle.pair_check.proofs.tests.listed.Given as goal

abbrev pub invariant-loop-pair : goal.invariant-loop-pair
invariant-loop-pair l = ArePairsWithin 4 l.pots
