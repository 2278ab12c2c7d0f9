use Rattle.std.proofs.lemmas.Result.{err_from_is_err_and}
use Rattle.ml_base.proofs.Lists.{next_item}
use Rattle.serde_json.specs.View.{items_view}
use Rattle.nml_elements.specs.MemberReading.{ids_at}
use Rattle.nml_elements.proofs.IdLoop.{goes_on, ends, is_done}
use Rattle.nml_elements.proofs.member_reading.ids_of.Goals as goal

pub returns-in_err-id : goal.returns-in_err-id
returns-in_err-id c =
    let p = err_from_is_err_and c.from_residual.result c.from_residual.ensures.1 in
    rw (p.1, p.2) (ends c.in_err-id.field-0.0 c.loop-value.ids c.args.values.now c.loop-value.value-index c.value-item.result (ids_at (items_view c.args.values.now))
    (next_item _ _ _ c.value-item.is c.loop-value-test.true) c.in_err-id.ensures c.loop-value.invariant)

pub loop-value-preserved : goal.loop-value-preserved
loop-value-preserved c =
    rw c.in_ok-push.ensures.ok (goes_on c.loop-value.ids c.args.values.now c.loop-value.value-index c.value-item.result c.in_ok-id.id (ids_at (items_view c.args.values.now))
    (next_item _ _ _ c.value-item.is c.loop-value-test.true) c.in_ok-id.ensures c.loop-value.invariant)

pub returns : goal.returns
returns c = is_done c.loop-value.ids c.args.values.now c.loop-value.value-index (ids_at (items_view c.args.values.now)) c.loop-value-test.false c.loop-value.invariant
