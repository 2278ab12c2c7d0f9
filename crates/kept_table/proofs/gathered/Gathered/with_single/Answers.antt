use Rattle.std.proofs.Common.{◌++◌, ◌∷◌, [], List, map, slice_set, refl, sym, subst}
use Rattle.std.specs.Rc.{rc_str_bytes}
use Rattle.ml_base.proofs.Lists.{some_at}
use Rattle.kept_table.specs.declared.gathered.TypeTests.{TypeTests}
use Rattle.kept_table.specs.Gathering.{AddsSingle, AreByType}
use Rattle.kept_table.proofs.Adding.{by_type_set, single_added}
use Rattle.kept_table.proofs.gathered.Gathered.with_single.Goals as goal

pub invariant_of-result : goal.invariant_of-result
invariant_of-result c =
    let mid = c.place_of.new.tests.items in
    let at = some_at mid c.in_ok-place.place c.in_ok-place.ensures.within in
    subst (AreByType (map rc_str_bytes c.place_of.new.types.keys)) (sym (c.in_ok-push_single.ensures at.0 at.1))
    (by_type_set (map rc_str_bytes c.place_of.new.types.keys) c.self.inside.tests.items mid c.args.labeltype.now c.in_ok-place.place at.0 (record at.0 { singles = at.0.singles ++ c.args.label ∷ [] }) c.in_ok-place.ensures at.1 refl)

pub returns : goal.returns
returns c =
    let mid = c.place_of.new.tests.items in
    let at = some_at mid c.in_ok-place.place c.in_ok-place.ensures.within in
    subst (AddsSingle c.args.self c.args.labeltype.now c.args.label) (sym (c.in_ok-push_single.ensures at.0 at.1))
    (subst (λ (old : List TypeTests). AddsSingle old c.args.labeltype.now c.args.label (slice_set mid c.in_ok-place.place (record at.0 { singles = at.0.singles ++ c.args.label ∷ [] }))) c.self.view_is
    (single_added (map rc_str_bytes c.place_of.new.types.keys) c.self.inside.tests.items mid c.args.labeltype.now c.in_ok-place.place at.0 c.args.label c.in_ok-place.ensures at.1))
