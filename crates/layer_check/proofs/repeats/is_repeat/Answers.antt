use Rattle.std.proofs.Common.{◌∙◌, refl, sym}
use Rattle.std.specs.Option.{option_copied}
use Rattle.layer_check.proofs.Repeating.{repeat}
use Rattle.circuit_spec.proofs.Types.{same_type_true}
use Rattle.layer_check.proofs.repeats.is_repeat.Goals as goal

pub returns : goal.returns
returns c = λ is.
    let same = sym c.as_ref.ensures.value ∙ same_type_true (option_copied c.as_ref.result) (option_copied c.as_ref-2.result) (sym c.same_type.ensures ∙ is) ∙ c.as_ref-2.ensures.value in
    repeat c.args.inventory.now c.args.number c.in-Some.other c.in-Some-service_at.service.now c.in-Some-service_at-2.earlier.now (c.in-Some.ensures c.in-Some.other refl) c.in-Some-service_at.ensures c.in-Some-service_at-2.ensures same
