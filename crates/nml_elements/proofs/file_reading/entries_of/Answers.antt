use Rattle.std.proofs.lemmas.Result.{err_from_is_err_and}
use Rattle.std.proofs.Common.{arith, ◌+◌}
use Rattle.ml_base.proofs.Lists.{next_item}
use Rattle.serde_json.specs.View.{items_view}
use Rattle.nml_elements.specs.FileReading.{entries_at}
use Rattle.nml_elements.proofs.EntryLoop.{goes_on, ends, is_done}
use Rattle.nml_elements.proofs.file_reading.entries_of.Goals as goal

pub returns-in_err-found : goal.returns-in_err-found
returns-in_err-found c =
    let p = err_from_is_err_and c.from_residual.result c.from_residual.ensures.1 in
    rw (p.1, p.2) (ends c.in_err-found.field-0.0 c.loop-value.entries c.args.values.now c.loop-value.value-index (c.loop-value.number + 1) c.value-item.result
    (entries_at 1 (items_view c.args.values.now)) (next_item _ _ _ c.value-item.is c.loop-value-test.true) c.in_err-found.ensures c.loop-value.invariant.so_far)

pub loop-value-preserved : goal.loop-value-preserved
loop-value-preserved c = record {
  counted = omega arith;
  so_far = rw c.in_ok-add.ensures (goes_on c.loop-value.entries c.args.values.now c.loop-value.value-index (c.loop-value.number + 1) c.value-item.result c.in_ok-found.found
      (entries_at 1 (items_view c.args.values.now)) (next_item _ _ _ c.value-item.is c.loop-value-test.true) c.in_ok-found.ensures c.loop-value.invariant.so_far);
}

pub returns : goal.returns
returns c = is_done c.loop-value.entries c.args.values.now c.loop-value.value-index (c.loop-value.number + 1) (entries_at 1 (items_view c.args.values.now)) c.loop-value-test.false c.loop-value.invariant.so_far
