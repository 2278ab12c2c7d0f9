use Rattle.std.proofs.Common.{◌≡◌, drop}
use Rattle.serde_json.specs.View.{items_view}
use Rattle.nml_elements.specs.MemberReading.{ids_at}
use Rattle.nml_elements.proofs.IdLoop.{with_front}
use Rattle.nml_elements.proofs.member_reading.ids_of.Given as goal

abbrev pub invariant-loop-value : goal.invariant-loop-value
invariant-loop-value l = with_front l.ids (ids_at (items_view (drop l.value-index l.values))) ≡ ids_at (items_view l.values)
