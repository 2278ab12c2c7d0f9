use Rattle.std.proofs.Common.{◌≡◌, ◌∙◌, ◌<◌, List, length, map, None, Some, refl, sym, ap, arith}
use Rattle.std.specs.Prelude.{slice_get}
use Rattle.std.specs.Rc.{rc_str_bytes}
use Rattle.std.proofs.lemmas.List.{length-map}
use Rattle.std.proofs.lemmas.Option.{slice_get_read}
use Rattle.circuit_spec.specs.Network.{Name}
use Rattle.nml_inventory.specs.Numbers.{number_in}
use Rattle.nml_inventory.proofs.Names.{same_names, position_by}
use Rattle.kept_table.specs.Table.{KeptOfType, labels_in}
use Rattle.kept_table.proofs.Lookup.{row_type, labels_some, labels_none}
use Rattle.kept_table.proofs.table.KeptTable.labels.Goals as goal

pub returns-in-Some-clause-value : goal.returns-in-Some-clause-value
returns-in-Some-clause-value c =
    let rows = c.self.inside.rows.items in
    let keys = c.self.inside.types.keys in
    let t : Name = c.text.result.now in
    let long : length keys ≡ length rows = sym (length-map keys rc_str_bytes) ∙ ap length c.self.invariant.types_are ∙ length-map rows row_type in
    let within : c.in-Some.place < length rows = omega (arith, long, c.in-Some.ensures.within) in
    let number : number_in (map row_type rows) t ≡ Some c.in-Some.place =
    sym (c.in-Some.ensures.index
    ∙ position_by rc_str_bytes _ t (λ x. same_names t (rc_str_bytes x)) keys
    ∙ ap (λ (ids : List Name). number_in ids t) c.self.invariant.types_are) in
    let read : slice_get rows c.in-Some.place ≡ Some c.index.result.now = slice_get_read rows (length rows) c.in-Some.place c.index.result.now refl within c.index.ensures in
    c.labels.ensures
    ∙ sym (labels_some rows t c.in-Some.place c.index.result.now number read)
    ∙ ap (λ (table : List KeptOfType). labels_in table t) c.self.view_is
    ∙ ap (labels_in c.args.self.now) c.text.ensures.text

pub returns-in-None-clause-value : goal.returns-in-None-clause-value
returns-in-None-clause-value c =
    let rows = c.self.inside.rows.items in
    let keys = c.self.inside.types.keys in
    let t : Name = c.text.result.now in
    let number : number_in (map row_type rows) t ≡ None =
    sym (c.in-None.ensures.index
    ∙ position_by rc_str_bytes _ t (λ x. same_names t (rc_str_bytes x)) keys
    ∙ ap (λ (ids : List Name). number_in ids t) c.self.invariant.types_are) in
    sym (labels_none rows t number)
    ∙ ap (λ (table : List KeptOfType). labels_in table t) c.self.view_is
    ∙ ap (labels_in c.args.self.now) c.text.ensures.text
