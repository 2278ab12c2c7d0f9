use Rattle.std.proofs.Common.{◌≡◌, ◌∙◌, ℕ, List, ap, map, subst}
use Rattle.std.specs.Prelude.{IfOk}
use Rattle.alias_merge.specs.Rising.{turned}
use Rattle.circuit_spec.specs.Network.{Name, Placed, elements_of, id_of}
use Rattle.circuit_spec.proofs.Merged.{ids_once}
use Rattle.nml_inventory.specs.declared.arcs.Listing.TheVariants.{Lending}
use Rattle.nml_inventory.specs.Tables.{in_element, pairs_named}
use Rattle.nml_inventory.proofs.PortNumbers.{distinct_elements}
use Rattle.nml_inventory.proofs.Tabling.{naming_from, naming_to, naming_rows}
use Rattle.nml_inventory.proofs.relations.lending_nodes.Goals as goal

pub rising_groups-requires-clause-from : goal.rising_groups-requires-clause-from
rising_groups-requires-clause-from c =
    let T = c.args.numbered.now in
    let named : Placed → List Name = λ e. in_element Lending e.element in
    let key : Placed → Name = λ e. id_of e.element in
    let back : c.deref-2.result.now ≡ map turned (pairs_named (map key (elements_of T)) named (elements_of T)) =
    c.deref-2.ensures.value ∙ c.in-Ok.ensures ∙ ap (map turned) (c.deref.ensures.value ∙ c.in_ok-arcs.ensures ∙ ap (λ (ids : List Name). pairs_named ids named (elements_of T)) c.element_ids.ensures.ids) in
    let once = distinct_elements T (ids_once T c.is_merged.ensures) in
    naming_from key (elements_of T) once named (elements_of T) c.deref-2.result.now c.elements-count.result back c.elements-count.ensures

pub rising_groups-requires-clause-to : goal.rising_groups-requires-clause-to
rising_groups-requires-clause-to c =
    let T = c.args.numbered.now in
    let named : Placed → List Name = λ e. in_element Lending e.element in
    let key : Placed → Name = λ e. id_of e.element in
    let back : c.deref-2.result.now ≡ map turned (pairs_named (map key (elements_of T)) named (elements_of T)) =
    c.deref-2.ensures.value ∙ c.in-Ok.ensures ∙ ap (map turned) (c.deref.ensures.value ∙ c.in_ok-arcs.ensures ∙ ap (λ (ids : List Name). pairs_named ids named (elements_of T)) c.element_ids.ensures.ids) in
    let once = distinct_elements T (ids_once T c.is_merged.ensures) in
    naming_to key (elements_of T) once named (elements_of T) c.deref-2.result.now c.elements-count.result back c.elements-count.ensures

pub returns : goal.returns
returns c =
    let T = c.args.numbered.now in
    let named : Placed → List Name = λ e. in_element Lending e.element in
    let key : Placed → Name = λ e. id_of e.element in
    let back : c.deref-2.result.now ≡ map turned (pairs_named (map key (elements_of T)) named (elements_of T)) =
    c.deref-2.ensures.value ∙ c.in-Ok.ensures ∙ ap (map turned) (c.deref.ensures.value ∙ c.in_ok-arcs.ensures ∙ ap (λ (ids : List Name). pairs_named ids named (elements_of T)) c.element_ids.ensures.ids) in
    let once = distinct_elements T (ids_once T c.is_merged.ensures) in
    subst (λ (gs : List (List ℕ)). IfOk c.rising_groups.result (λ nodes. nodes ≡ gs))
    (naming_rows key (elements_of T) once named (elements_of T) c.deref-2.result.now c.elements-count.result c.elements-count.result back c.elements-count.ensures c.elements-count.ensures)
    c.rising_groups.ensures
