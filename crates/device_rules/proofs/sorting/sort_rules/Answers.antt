use Rattle.std.proofs.Common.{rules}
use Rattle.std.specs.Ordering.{is_lt}
use Rattle.std.proofs.lemmas.Fn.{always_returns_same}
use Rattle.std.proofs.lemmas.List.MinMax.{ranks_by}
use Rattle.device_rules.specs.Numbering.{rule_cmp}
use Rattle.device_rules.proofs.Ranked.{rule_total}
use Rattle.device_rules.proofs.sorting.sort_rules.Goals as goal

pub returns-in-Ok-clause-sorted : goal.returns-in-Ok-clause-sorted
returns-in-Ok-clause-sorted c = c.in-Ok.ensures.sorted (λ a b. is_lt (rule_cmp a b)) (ranks_by rule_total (λ r. r)) (always_returns_same _ _ _ (λ a r q k. search rules))
