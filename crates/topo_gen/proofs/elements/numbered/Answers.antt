use Rattle.std.proofs.Common.{◌≡◌, ◌+◌, ◌∷◌, ◌++◌, [], None, ◌∙◌, ap, sym, arith, length, length-append}
use Rattle.topo_gen.proofs.Entries.{entries_from-more, length-entries_from}
use Rattle.topo_gen.proofs.elements.numbered.Goals as goal

pub overflow_add-number : goal.overflow_add-number
overflow_add-number c =
    let counted = ap length c.loop-element.invariant.so_far ∙ length-entries_from 1 c.loop-element.yielded in
    let step : c.loop-element.element-iterator.rest.items ≡ c.in-Some.element ∷ c.next.new.self.rest.items = c.in-Some.ensures.steps.0 in
    let whole : c.into_iter-element-iterator.result.rest.items ≡ c.args.elements.items = c.into_iter-element-iterator.ensures.into_iter_gives.0 in
    omega (arith, c.len-number.ensures, counted, c.loop-element.invariant.left, ap length step, ap length whole, c.requires)

pub loop-element-preserved : goal.loop-element-preserved
loop-element-preserved c =
    let counted = ap length c.loop-element.invariant.so_far ∙ length-entries_from 1 c.loop-element.yielded in
    let step : c.loop-element.element-iterator.rest.items ≡ c.in-Some.element ∷ c.next.new.self.rest.items = c.in-Some.ensures.steps.0 in
    let more = entries_from-more 1 (c.len-number.result + 1) c.loop-element.yielded c.in-Some.element (omega (arith, counted, c.len-number.ensures)) in
    record {
      so_far = c.in_ok-push.ensures.ok ∙ ap (λ entries. entries ++ record { number = c.len-number.result + 1; element = c.in-Some.element; lifetime = None } ∷ []) c.loop-element.invariant.so_far ∙ sym more;
      left = omega (arith, c.loop-element.invariant.left, ap length step, length-append c.loop-element.yielded (c.in-Some.element ∷ []));
    }
