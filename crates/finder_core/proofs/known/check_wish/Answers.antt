use Rattle.std.proofs.Common.{sym, ◌∙◌, subst}
use Rattle.circuit_spec.specs.Faults.{IsKnownEnd}
use Rattle.circuit_spec.specs.Requests.{IsMissedAt}
use Rattle.finder_core.proofs.Refused.{label_known, label_missed}
use Rattle.finder_core.proofs.known.check_wish.Goals as goal

pub returns-then-has_label-clause-ok : goal.returns-then-has_label-clause-ok
returns-then-has_label-clause-ok c = subst (λ w. IsKnownEnd c.args.inventory.now c.args.id.now w) (sym c.in-Value.is)
    (label_known c.args.inventory.now c.args.id.now c.args.class.0 c.in-Value.label c.labels_of.result.now c.requires.class (c.labels_of.ensures c.requires.sound.classes) (sym c.has_label.ensures ∙ c.if-has_label.true))

pub returns-clause-err : goal.returns-clause-err
returns-clause-err c = (
  subst (λ w. IsMissedAt c.args.inventory.now c.args.id.now w c.in-Value.label) (sym c.in-Value.is)
      (label_missed c.args.inventory.now c.args.id.now c.args.class.0 c.in-Value.label c.labels_of.result.now c.requires.class (c.labels_of.ensures c.requires.sound.classes) (sym c.has_label.ensures ∙ c.if-has_label.false)),
  c.in_ok-id.ensures,
)
