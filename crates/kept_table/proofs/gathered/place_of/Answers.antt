use Rattle.std.proofs.Common.{◌≡◌, ◌∙◌, ◌∷◌, ◌++◌, [], true, false, List, length, map, sym, ap, subst, arith}
use Rattle.std.specs.List.{list_any, position_or_len}
use Rattle.std.specs.Rc.{rc_str_bytes}
use Rattle.std.specs.Str.{bytes_eq}
use Rattle.std.proofs.lemmas.Bool.{cond-false, cond-true, not-true, not-false}
use Rattle.std.proofs.lemmas.List.{length-map, map-append}
use Rattle.circuit_spec.specs.Network.{Name, names}
use Rattle.nml_inventory.specs.Numbers.{is_name}
use Rattle.nml_inventory.proofs.Names.{place_by, same_names}
use Rattle.kept_table.specs.Gathering.{HasPlace}
use Rattle.kept_table.proofs.Placing.{any_by, place_new, place_there}
use Rattle.kept_table.proofs.gathered.place_of.Goals as goal

pub returns-then-not-put : goal.returns-then-not-put
returns-then-not-put c =
    let old = c.args.types.now.keys in
    let new = c.insert_full.new.self.keys in
    let key = c.in_ok-key.key in
    let t : Name = rc_str_bytes key in
    let there : list_any (λ x. bytes_eq t (rc_str_bytes x)) old ≡ true = not-false _ (sym c.in-Ok.ensures.added ∙ not-true _ c.if-not-put.true) in
    let same : new ≡ old = c.in-Ok.ensures.keys ∙ cond-true _ old _ there in
    subst (λ (ids : List Name). HasPlace ids c.args.tests.now.items c.args.tests.now.items c.args.labeltype.now c.in-Ok.put.0) (sym (ap (map rc_str_bytes) same))
    (place_there (map rc_str_bytes old) c.args.tests.now.items c.args.labeltype.now c.in-Ok.put.0 c.requires
    (sym (any_by rc_str_bytes _ t (λ x. same_names t (rc_str_bytes x)) old ∙ ap (names (map rc_str_bytes old)) c.in_ok-key.ensures) ∙ there)
    (c.in-Ok.ensures.index ∙ place_by rc_str_bytes _ t (λ x. same_names t (rc_str_bytes x)) old ∙ ap (λ (id : Name). position_or_len (is_name id) (map rc_str_bytes old)) c.in_ok-key.ensures)
    (omega (arith, c.in-Ok.ensures.within, length-map old rc_str_bytes, ap length same)))

pub returns : goal.returns
returns c =
    let old = c.args.types.now.keys in
    let new = c.insert_full.new.self.keys in
    let key = c.in_ok-key.key in
    let t : Name = rc_str_bytes key in
    let none : list_any (λ x. bytes_eq t (rc_str_bytes x)) old ≡ false = not-true _ (sym c.in-Ok.ensures.added ∙ not-false _ c.if-not-put.false) in
    let behind : new ≡ old ++ key ∷ [] = c.in-Ok.ensures.keys ∙ cond-false _ old _ none in
    place_new (map rc_str_bytes old) (map rc_str_bytes new) c.args.tests.now.items c.push_type.new.tests.items c.args.labeltype.now c.in-Ok.put.0 c.requires
    (ap (map rc_str_bytes) behind ∙ map-append rc_str_bytes old (key ∷ []) ∙ ap (λ (id : Name). map rc_str_bytes old ++ id ∷ []) c.in_ok-key.ensures)
    (sym (any_by rc_str_bytes _ t (λ x. same_names t (rc_str_bytes x)) old ∙ ap (names (map rc_str_bytes old)) c.in_ok-key.ensures) ∙ none)
    (c.in-Ok.ensures.index ∙ place_by rc_str_bytes _ t (λ x. same_names t (rc_str_bytes x)) old ∙ ap (λ (id : Name). position_or_len (is_name id) (map rc_str_bytes old)) c.in_ok-key.ensures)
    (omega (arith, c.in-Ok.ensures.within, length-map new rc_str_bytes))
    c.in_ok-push_type.ensures
