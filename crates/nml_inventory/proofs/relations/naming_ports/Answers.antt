use Rattle.std.proofs.Common.{◌≡◌, ◌∙◌, ℕ, List, ap, map, length, subst}
use Rattle.std.specs.Prelude.{IfOk}
use Rattle.alias_merge.specs.Rising.{turned}
use Rattle.alias_merge.proofs.Sorting.{rising_long}
use Rattle.circuit_spec.specs.Network.{Placed, elements_of, id_of, ports}
use Rattle.circuit_spec.proofs.Merged.{ids_once}
use Rattle.nml_inventory.specs.Tables.{in_port, pairs_named}
use Rattle.nml_inventory.proofs.PortNumbers.{distinct_elements}
use Rattle.nml_inventory.proofs.Tabling.{naming_from, naming_to, naming_rows}
use Rattle.nml_inventory.proofs.relations.naming_ports.Goals as goal

pub rising_groups-requires-clause-from : goal.rising_groups-requires-clause-from
rising_groups-requires-clause-from c =
    let T = c.args.numbered.now in
    let back : c.deref-2.result.now ≡ map turned (pairs_named (map (λ (e : Placed). id_of e.element) (elements_of T)) (in_port c.args.member) (ports T)) =
    c.deref-2.ensures.value ∙ c.in-Ok.ensures ∙ ap (map turned) (c.deref.ensures.value ∙ c.in_ok-arcs.ensures) in
    naming_from (λ (e : Placed). id_of e.element) (elements_of T) (distinct_elements T (ids_once T c.is_merged.ensures)) (in_port c.args.member) (ports T) c.deref-2.result.now c.elements-count.result back c.elements-count.ensures

pub rising_groups-requires-clause-to : goal.rising_groups-requires-clause-to
rising_groups-requires-clause-to c =
    let T = c.args.numbered.now in
    let back : c.deref-2.result.now ≡ map turned (pairs_named (map (λ (e : Placed). id_of e.element) (elements_of T)) (in_port c.args.member) (ports T)) =
    c.deref-2.ensures.value ∙ c.in-Ok.ensures ∙ ap (map turned) (c.deref.ensures.value ∙ c.in_ok-arcs.ensures) in
    naming_to (λ (e : Placed). id_of e.element) (elements_of T) (distinct_elements T (ids_once T c.is_merged.ensures)) (in_port c.args.member) (ports T) c.deref-2.result.now c.ports.result back c.ports.ensures

pub new-requires : goal.new-requires
new-requires c = ap length c.in_ok-groups.ensures ∙ rising_long c.ports.result c.deref-2.result.now c.elements-count.result

pub returns : goal.returns
returns c =
    let T = c.args.numbered.now in
    let back : c.deref-2.result.now ≡ map turned (pairs_named (map (λ (e : Placed). id_of e.element) (elements_of T)) (in_port c.args.member) (ports T)) =
    c.deref-2.ensures.value ∙ c.in-Ok.ensures ∙ ap (map turned) (c.deref.ensures.value ∙ c.in_ok-arcs.ensures) in
    subst (λ (gs : List (List ℕ)). IfOk c.new.result (λ relation. relation ≡ gs))
    (c.in_ok-groups.ensures ∙ naming_rows (λ (e : Placed). id_of e.element) (elements_of T) (distinct_elements T (ids_once T c.is_merged.ensures)) (in_port c.args.member) (ports T) c.deref-2.result.now c.elements-count.result c.ports.result back c.elements-count.ensures c.ports.ensures)
    c.new.ensures
