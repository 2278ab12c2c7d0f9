use Rattle.std.proofs.Common.{ℕ, subst}
use Rattle.std.proofs.lemmas.List.{take_more}
use Rattle.label_sets.specs.Ranges.{has, IsSetOf}
use Rattle.label_atoms.specs.Spans.{ranges_of}
use Rattle.label_atoms.proofs.Grouped.{sets_push}
use Rattle.label_atoms.proofs.groups.sets_of.Goals as goal

pub loop-name-preserved : goal.loop-name-preserved
loop-name-preserved c =
    rw (take_more c.args.names.now c.loop-name.name-index 0 c.loop-name-test.true, c.in_ok-push.ensures.ok)
    (sets_push c.args.ranges.now _ c.loop-name.atoms _ _ c.loop-name.invariant
    (subst (λ (k : ℕ). IsSetOf (has (ranges_of c.args.ranges.now k)) c.in_ok-atom.atom) c.from.ensures c.in_ok-atom.ensures))
