use Rattle.std.proofs.Common.{◌∙◌, ap}
use Rattle.machine_build.specs.Ways.{carries, takes}
use Rattle.machine_build.proofs.Skipped.{none_to_end, none_to_next}
use Rattle.machine_build.proofs.passing.next_taken.Goals as goal

pub returns-in-Some-next_label-clause-passed : goal.returns-in-Some-next_label-clause-passed
returns-in-Some-next_label-clause-passed c = λ k place at low high.
    ap (λ e. takes e place.label) c.in-Link.is ∙ ap (λ l. carries l place.label) c.in-Of.is
    ∙ none_to_next c.args.places.now.places c.requires.rise c.args.state c.args.end c.requires.alike c.in-Of.set c.in-Of.labeltype c.place.result.now c.place.ensures c.in-Some.label c.in-Some.is c.in-Some-next_label.next c.state_from.result
    (λ l a b. c.in-Some-next_label.ensures l a b) c.state_from.ensures k place at low high

pub returns-in-None-clause-passed : goal.returns-in-None-clause-passed
returns-in-None-clause-passed c = λ k place at low high.
    ap (λ e. takes e place.label) c.in-Link.is ∙ ap (λ l. carries l place.label) c.in-Of.is
    ∙ none_to_end c.args.places.now.places c.requires.rise c.args.state c.args.end c.requires.alike c.in-Of.set c.in-Of.labeltype c.place.result.now c.place.ensures c.in-Some.label c.in-Some.is
    (λ l a. c.in-None.ensures l a) k place at low high
