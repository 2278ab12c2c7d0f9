use Rattle.std.proofs.Common.{◌≡◌, ◌∙◌, ℕ, List, ap, map, length, subst}
use Rattle.std.specs.Prelude.{IfOk}
use Rattle.alias_merge.proofs.Sorting.{rising_long}
use Rattle.circuit_spec.specs.Network.{Name, Placed, elements_of, ports}
use Rattle.circuit_spec.proofs.Merged.{ids_once}
use Rattle.nml_inventory.specs.Tables.{in_element, pairs_named}
use Rattle.nml_inventory.proofs.ClassNumbers.{port_id}
use Rattle.nml_inventory.proofs.PortNumbers.{distinct_ports}
use Rattle.nml_inventory.proofs.Tabling.{listed_from, listed_to, listed_rows}
use Rattle.nml_inventory.proofs.relations.listed_ports.Goals as goal

pub rising_groups-requires-clause-from : goal.rising_groups-requires-clause-from
rising_groups-requires-clause-from c =
    let T = c.args.numbered.now in
    let named : Placed → List Name = λ e. in_element c.args.listing e.element in
    let arcs : c.deref.result.now ≡ pairs_named (map port_id (ports T)) named (elements_of T) =
    c.deref.ensures.value ∙ c.in_ok-arcs.ensures ∙ ap (λ (ids : List Name). pairs_named ids named (elements_of T)) c.port_ids.ensures.ids in
    listed_from port_id (ports T) (distinct_ports T (ids_once T c.is_merged.ensures)) named (elements_of T) c.deref.result.now c.elements-count.result arcs c.elements-count.ensures

pub rising_groups-requires-clause-to : goal.rising_groups-requires-clause-to
rising_groups-requires-clause-to c =
    let T = c.args.numbered.now in
    let named : Placed → List Name = λ e. in_element c.args.listing e.element in
    let arcs : c.deref.result.now ≡ pairs_named (map port_id (ports T)) named (elements_of T) =
    c.deref.ensures.value ∙ c.in_ok-arcs.ensures ∙ ap (λ (ids : List Name). pairs_named ids named (elements_of T)) c.port_ids.ensures.ids in
    listed_to port_id (ports T) (distinct_ports T (ids_once T c.is_merged.ensures)) named (elements_of T) c.deref.result.now c.ports.result arcs c.ports.ensures

pub new-requires : goal.new-requires
new-requires c = ap length c.in_ok-groups.ensures ∙ rising_long c.ports.result c.deref.result.now c.elements-count.result

pub returns : goal.returns
returns c =
    let T = c.args.numbered.now in
    let named : Placed → List Name = λ e. in_element c.args.listing e.element in
    let arcs : c.deref.result.now ≡ pairs_named (map port_id (ports T)) named (elements_of T) =
    c.deref.ensures.value ∙ c.in_ok-arcs.ensures ∙ ap (λ (ids : List Name). pairs_named ids named (elements_of T)) c.port_ids.ensures.ids in
    subst (λ (gs : List (List ℕ)). IfOk c.new.result (λ relation. relation ≡ gs))
    (c.in_ok-groups.ensures ∙ listed_rows port_id (ports T) (distinct_ports T (ids_once T c.is_merged.ensures)) named (elements_of T) c.deref.result.now c.elements-count.result c.ports.result arcs c.elements-count.ensures c.ports.ensures)
    c.new.ensures
