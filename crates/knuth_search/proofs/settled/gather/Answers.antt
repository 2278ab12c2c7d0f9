use Rattle.std.proofs.Common.{◌≡◌, length, slice_get, Some, arith, subst}
use Rattle.std.specs.List.{All}
use Rattle.std.proofs.lemmas.List.Sorted.{All-permutation}
use Rattle.knuth_search.specs.Tables.{IsKept}
use Rattle.knuth_search.specs.Gathered.{Repeats, Lists}
use Rattle.knuth_search.specs.Settled.{potentials_of, derivs_of}
use Rattle.knuth_search.proofs.Gathering.{IsGathering, above_last, gathering_turn, gathering_ended, item_of}
use Rattle.knuth_search.proofs.settled.gather.Goals as goal

pub list_at-requires-clause-above : goal.list_at-requires-clause-above
list_at-requires-clause-above c d at fresh =
    let kept : All (IsKept c.args.table.task) c.in_order-items.result.items = All-permutation (IsKept c.args.table.task) c.into_items.result.items c.in_order-items.result.items c.in_order-items.ensures.same c.into_items.ensures.kept in
    above_last c.args.table.task c.in_order-items.result.items c.in_order-items.ensures.order kept c.loop-place.place (potentials_of c.loop-place.settled) (derivs_of c.loop-place.settled) c.loop-place.invariant d
    (subst (λ l. slice_get l c.loop-place.place ≡ Some d) c.as_slice.ensures.value at) (subst (λ l. Repeats l c.loop-place.place → ⊥) c.as_slice.ensures.value fresh)

pub loop-place-preserved : goal.loop-place-preserved
loop-place-preserved c =
    let kept : All (IsKept c.args.table.task) c.in_order-items.result.items = All-permutation (IsKept c.args.table.task) c.into_items.result.items c.in_order-items.result.items c.in_order-items.ensures.same c.into_items.ensures.kept in
    gathering_turn c.args.table.task c.in_order-items.result.items c.in_order-items.ensures.order kept c.loop-place.place c.loop-place.settled c.list_at.new.settled c.loop-place.invariant
    (subst (λ l. Lists l c.loop-place.place c.loop-place.settled c.list_at.new.settled) c.as_slice.ensures.value c.in_ok-list_at.ensures)

pub returns : goal.returns
returns c =
    let kept : All (IsKept c.args.table.task) c.in_order-items.result.items = All-permutation (IsKept c.args.table.task) c.into_items.result.items c.in_order-items.result.items c.in_order-items.ensures.same c.into_items.ensures.kept in
    let whole : c.loop-place.place ≡ length c.in_order-items.result.items = omega arith in
    gathering_ended c.args.table.task c.in_order-items.result.items c.in_order-items.ensures.order kept c.args.table.pots
    (item_of c.into_items.result.items c.in_order-items.result.items c.args.table.pots c.into_items.ensures.pots c.in_order-items.ensures.same) (potentials_of c.loop-place.settled) (derivs_of c.loop-place.settled)
    (subst (λ n. IsGathering c.args.table.task c.in_order-items.result.items n (potentials_of c.loop-place.settled) (derivs_of c.loop-place.settled)) whole c.loop-place.invariant)
