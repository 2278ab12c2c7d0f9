use Rattle.std.proofs.Common.{◌∙◌, ap, List, [], ◌∷◌, ℕ, ◌++◌, None}
use Rattle.indexmap.proofs.MapLemmas.{OnOk-map}
use Rattle.kept_table.specs.Table.{labels_in}
use Rattle.open_places.specs.Gathering.{IsPlaceOf, within_ranges}
use Rattle.open_places.proofs.Named.{adds_behind, first_port, named_id, only_place, places_at}
use Rattle.open_places.proofs.gathering.add_class.Goals as goal

pub returns-in-Unlabelled : goal.returns-in-Unlabelled
returns-in-Unlabelled c =
    let T = c.args.inventory.now in
    let m = c.requires.first in
    let first = first_port T c.args.class.0 m in
    let named = named_id _ c.args.class.0 m.first c.name-name.result.now first.at c.name-name.ensures in
    let are = c.labels_of.ensures c.requires.sound.classes m.first m.first first.at first.is_class in
    OnOk-map c.add_place.result _ _
    (λ e. adds_behind (IsPlaceOf T c.args.kept.now c.args.class.0) c.args.places.now.items (record { class = c.name-name.result.now; label = None } ∷ []) c.add_place.new.places.items e
    (only_place T c.args.kept.now c.args.class.0 m.first c.name-name.result.now c.labels_of.result.now first named are c.in-Unlabelled.is))
    c.add_place.ensures

pub returns-in-Of : goal.returns-in-Of
returns-in-Of c =
    let T = c.args.inventory.now in
    let m = c.requires.first in
    let first = first_port T c.args.class.0 m in
    let named = named_id _ c.args.class.0 m.first c.name-name.result.now first.at c.name-name.ensures in
    let are = c.labels_of.ensures c.requires.sound.classes m.first m.first first.at first.is_class in
    OnOk-map c.add_ranges.result _ _
    (λ e. adds_behind (IsPlaceOf T c.args.kept.now c.args.class.0) c.args.places.now.items (within_ranges c.name-name.result.now (labels_in c.args.kept.now c.in-Of.labeltype) c.in-Of.set) c.add_ranges.new.places.items
    (e ∙ ap (λ (labels : List ℕ). c.args.places.now.items ++ within_ranges c.name-name.result.now labels c.ranges-in-Of.result.now) c.labels.ensures.value ∙ ap (λ (ranges : List (ℕ × ℕ)). c.args.places.now.items ++ within_ranges c.name-name.result.now (labels_in c.args.kept.now c.in-Of.labeltype) ranges) c.ranges-in-Of.ensures.ranges)
    (places_at T c.args.kept.now c.args.class.0 m.first c.name-name.result.now c.in-Of.labeltype c.in-Of.set c.labels_of.result.now first named are c.in-Of.is))
    c.add_ranges.ensures
