use Rattle.std.proofs.Common.{ℕ, ◌<◌}
use Rattle.layer_check.specs.Comparing.{differs_from}
use Rattle.layer_check.specs.Classes.{IsMemberThat}
use Rattle.layer_check.proofs.members.first_other_member.Given as goal

abbrev pub invariant-loop-number : goal.invariant-loop-number
invariant-loop-number l = (n : ℕ) → n < l.number → ¬ IsMemberThat l.inventory (differs_from l.reference) l.class.0 n
