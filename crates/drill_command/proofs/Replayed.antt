-- A replay of the rules of an exact answer.
use Rattle.std.proofs.Common.{◌≡◌, sym, ap, subst, refl, length}
use Rattle.circuit_spec.specs.declared.hops.Outcome.{Outcome}
use Rattle.circuit_spec.specs.declared.hops.Outcome.TheVariants.{Found, NoWalk, Past, Long}
use Rattle.circuit_spec.specs.Network.{Topology}
use Rattle.line_text.specs.Lines.{text_of}
use Rattle.answer_spec.specs.declared.answer.Answer.{Answer}
use Rattle.answer_spec.specs.Exact.{IsExactAnswer}
use Rattle.answer_spec.specs.WellFormed.{IsWellFormed}
use Rattle.answer_text.specs.Spelling.{lines_of}
use Rattle.rule_replay.specs.declared.replayed.Replayed.{Replayed as WhatIsTold}
use Rattle.rule_replay.specs.declared.replayed.Replayed.TheVariants.{Carried, NotCarried}
use Rattle.rule_replay.specs.declared.replayed.ReplayCause.TheVariants as cause
use Rattle.rule_replay.specs.Laws.{are_unset}
use Rattle.rule_replay.specs.Replaying.{IsFound, IsReplayed}
use Rattle.rule_replay.proofs.Forwarded.{exact_carried, one_text}
use Rattle.rule_replay.proofs.Single.{replayed_one}
use Rattle.drill_command.specs.Lines.{replay_line, told_line}

-- one thing is told of the document of the answer
is_told : (T : Topology) (a : Answer) (told other : WhatIsTold) → IsReplayed T (text_of (lines_of a)) told → IsReplayed T (text_of (lines_of a)) other → told_line told ≡ told_line other
is_told T a told other p q = ap told_line (replayed_one T one_text (text_of (lines_of a)) told other p q)

-- with no walk there is nothing to carry
nothing_told : (T : Topology) (a : Answer) (told : WhatIsTold) → (IsFound a.outcome → ⊥) → IsWellFormed a → IsReplayed T (text_of (lines_of a)) told → told_line told ≡ told_line (NotCarried 0 cause.Outcome)
nothing_told T a told none well p = is_told T a told (NotCarried 0 cause.Outcome) p (refl, (a, (well, refl), none))

told_by : (T : Topology) (a : Answer) (told : WhatIsTold) (outcome : Outcome) → a.outcome ≡ outcome → IsExactAnswer T a → IsWellFormed a → IsReplayed T (text_of (lines_of a)) told → told_line told ≡ replay_line outcome a
told_by T a told (Found cost hops) e exact well p = is_told T a told (Carried (length a.hops) (are_unset a.flags)) p (exact_carried T a exact well (subst IsFound (sym e) tt))
told_by T a told NoWalk e exact well p = nothing_told T a told (λ found. subst IsFound e found) well p
told_by T a told Past e exact well p = nothing_told T a told (λ found. subst IsFound e found) well p
told_by T a told (Long cost hops) e exact well p = nothing_told T a told (λ found. subst IsFound e found) well p

-- what is told of an exact answer is what its summary says
pub told_of_exact : (T : Topology) (a : Answer) (told : WhatIsTold) → IsExactAnswer T a → IsWellFormed a → IsReplayed T (text_of (lines_of a)) told → told_line told ≡ replay_line a.outcome a
told_of_exact T a told exact well p = told_by T a told a.outcome refl exact well p
