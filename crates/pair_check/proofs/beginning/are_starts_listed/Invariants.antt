use Rattle.std.proofs.Common.{take}
use Rattle.std.specs.List.{All}
use Rattle.ml_base.specs.declared.numbers.Root.TheVariants.{Request}
use Rattle.pair_check.specs.Rules.{IsListedAtZero}
use Rattle.pair_check.proofs.beginning.are_starts_listed.Given as goal

abbrev pub invariant-loop-start : goal.invariant-loop-start
invariant-loop-start l = All (IsListedAtZero l.pots Request) (take l.start-index l.starts)
