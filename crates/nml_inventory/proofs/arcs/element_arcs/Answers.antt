use Rattle.std.proofs.Common.{refl, map}
use Rattle.std.specs.Rc.{rc_str_bytes}
use Rattle.circuit_spec.specs.Network.{Placed, elements_of}
use Rattle.nml_inventory.specs.Tables.{in_element}
use Rattle.nml_inventory.proofs.Lending.{placed_of}
use Rattle.nml_inventory.proofs.Tabling.{named_more}
use Rattle.std.specs.Prelude.{option_map, slice_get, List}
use Rattle.circuit_spec.specs.Network.{Name}
use Rattle.std.proofs.Common.{◌∙◌, sym, ap}
use Rattle.nml_elements.specs.declared.elements.Element.{Element}
use Rattle.nml_inventory.proofs.arcs.element_arcs.Goals as goal

pub loop-number-preserved : goal.loop-number-preserved
loop-number-preserved c =
    let T = c.args.numbered.now in
    let ids : List Name = map rc_str_bytes c.args.ids.now.keys in
    let n = c.loop-number.number in
    let x = placed_of T n c.at.result.now (slice_get (elements_of T) n) refl (ap (λ k. option_map (λ (y : Placed). y.element) (slice_get (elements_of T) k)) (sym c.from.ensures) ∙ c.at.ensures) in
    named_more ids ids (λ (e : Placed). in_element c.args.listing e.element) (elements_of T) n x.0 c.loop-number.arcs.items c.add_pairs.new.pairs.items c.listed_in-listed.result.now refl x.1
    (c.listed_in-listed.ensures ∙ ap (λ (e : Element). in_element c.args.listing e) (sym x.2)) c.loop-number.invariant c.in_ok-add_pairs.ensures
