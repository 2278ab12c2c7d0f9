use Rattle.std.proofs.Common.{◌++◌, ◌∷◌, [], List, map, slice_set, refl, sym, subst}
use Rattle.std.specs.Rc.{rc_str_bytes}
use Rattle.ml_base.proofs.Lists.{some_at}
use Rattle.kept_table.specs.declared.gathered.TypeTests.{TypeTests}
use Rattle.kept_table.specs.Gathering.{AddsSet, AreByType}
use Rattle.kept_table.proofs.Adding.{by_type_set, set_added}
use Rattle.kept_table.proofs.gathered.Gathered.with_set.Goals as goal

pub invariant_of-result : goal.invariant_of-result
invariant_of-result c =
    let mid = c.place_of.new.tests.items in
    let at = some_at mid c.in_ok-place.place c.in_ok-place.ensures.within in
    subst (AreByType (map rc_str_bytes c.place_of.new.types.keys)) (sym (c.in_ok-push_set.ensures at.0 at.1))
    (by_type_set (map rc_str_bytes c.place_of.new.types.keys) c.self.inside.tests.items mid c.args.labeltype.now c.in_ok-place.place at.0 (record at.0 { sets = at.0.sets ++ c.args.set ∷ [] }) c.in_ok-place.ensures at.1 refl)

pub returns : goal.returns
returns c =
    let mid = c.place_of.new.tests.items in
    let at = some_at mid c.in_ok-place.place c.in_ok-place.ensures.within in
    subst (AddsSet c.args.self c.args.labeltype.now c.args.set) (sym (c.in_ok-push_set.ensures at.0 at.1))
    (subst (λ (old : List TypeTests). AddsSet old c.args.labeltype.now c.args.set (slice_set mid c.in_ok-place.place (record at.0 { sets = at.0.sets ++ c.args.set ∷ [] }))) c.self.view_is
    (set_added (map rc_str_bytes c.place_of.new.types.keys) c.self.inside.tests.items mid c.args.labeltype.now c.in_ok-place.place at.0 c.args.set c.in_ok-place.ensures at.1))
