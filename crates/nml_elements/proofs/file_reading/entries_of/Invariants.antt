use Rattle.std.proofs.Common.{◌≡◌, ◌+◌, drop}
use Rattle.serde_json.specs.View.{items_view}
use Rattle.nml_elements.specs.FileReading.{entries_at}
use Rattle.nml_elements.proofs.EntryLoop.{with_front}
use Rattle.nml_elements.proofs.file_reading.entries_of.Given as goal

abbrev pub invariant-loop-value : goal.invariant-loop-value
invariant-loop-value l = record {
  counted : l.number ≡ l.value-index;
  so_far : with_front l.entries (entries_at (l.number + 1) (items_view (drop l.value-index l.values))) ≡ entries_at 1 (items_view l.values);
}
