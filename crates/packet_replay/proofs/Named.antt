-- What look-ups by ids give: elements, ports and their classes.
use Rattle.std.proofs.Common.{◌≡◌, ℕ, Option, None, Some, refl, sym, ◌∙◌, ap, subst}
use Rattle.std.specs.Prelude.{slice_get, option_map}
use Rattle.std.specs.Option.{option_and_then}
use Rattle.ml_base.specs.declared.numbers.PortNo.{PortNo}
use Rattle.ml_base.proofs.Lists.{one_of_some, same_at}
use Rattle.nml_elements.specs.declared.elements.Element.{Element}
use Rattle.circuit_spec.specs.declared.hops.Hop.{Hop}
use Rattle.circuit_spec.specs.Network.{Name, Topology, Placed, Port, IsClass, elements_of, element_named, id_of, ports}
use Rattle.nml_inventory.specs.Aliases.{IsClassNumber}
use Rattle.nml_inventory.specs.Numbers.{element_number, port_number}
use Rattle.nml_inventory.proofs.Names.{find_number}
use Rattle.nml_inventory.proofs.PortNumbers.{number_found}
use Rattle.nml_inventory.proofs.ClassNumbers.{no_class}
use Rattle.packet_replay.specs.declared.numbers.End.{End}
use Rattle.packet_replay.specs.Conditions.{IsWay, Way}
use Rattle.packet_replay.specs.Numbered.{AreNumbers, IsEnd}

-- what stands at a number
pub element_is : (T : Topology) (n : ℕ) (placed : Placed) (e : Element) → slice_get (elements_of T) n ≡ Some placed → option_map (λ (p : Placed). p.element) (slice_get (elements_of T) n) ≡ Some e → e ≡ placed.element
element_is T n placed e at is = sym (one_of_some (sym (ap (option_map (λ (p : Placed). p.element)) at) ∙ is))

-- Elements

-- the element of a number, and of the id that has this number
pub element_of_number : (T : Topology) (id : Name) (n : ℕ) → element_number T id ≡ Some n → (placed : Placed) × (slice_get (elements_of T) n ≡ Some placed) × (element_named T id ≡ Some placed)
element_of_number T id n at =
    let key : Placed → Name = λ p. id_of p.element in
    let found = number_found key (elements_of T) n id at in
    (found.0, found.1, find_number key (elements_of T) id ∙ ap (option_and_then (λ (k : ℕ). slice_get (elements_of T) k)) at ∙ found.1)

-- no element has the id
pub no_element : (T : Topology) (id : Name) → element_number T id ≡ None → element_named T id ≡ None
no_element T id none =
    find_number (λ (p : Placed). id_of p.element) (elements_of T) id ∙ ap (option_and_then (λ (k : ℕ). slice_get (elements_of T) k)) none

-- Ports

abbrev as_port : ℕ → PortNo
as_port n = record { 0 = n }

port_numbered : (T : Topology) (id : Name) (port : PortNo) (o : Option ℕ) → port_number T id ≡ o → Some port ≡ option_map as_port o → port_number T id ≡ Some port.0
port_numbered T id port None at e = absurd (cc)
port_numbered T id port (Some n) at e = at ∙ ap Some (sym (ap (λ (p : PortNo). p.0) (one_of_some e)))

port_unnumbered : (T : Topology) (id : Name) (o : Option ℕ) → port_number T id ≡ o → None ≡ option_map as_port o → port_number T id ≡ None
port_unnumbered T id None at e = at
port_unnumbered T id (Some n) at e = absurd (cc)

-- the port of an id and its class
pub end_found : (T : Topology) (text id : Name) (port class : PortNo) → text ≡ id → Some port ≡ option_map as_port (port_number T text) → IsClassNumber T port.0 class.0
    → (first : Port) × IsEnd T id first (record { port = port; class = class })
end_found T text id port class same e c =
    let at : port_number T id ≡ Some port.0 = subst (λ i. port_number T i ≡ Some port.0) same (port_numbered T text port (port_number T text) refl e) in
    let p = number_found (λ (p : Port). p.id) (ports T) port.0 id at in
    let one : c.port ≡ p.0 = same_at (ports T) port.0 c.port p.0 c.is_port p.1 in (
      c.first,
      record {
        port = p.0;
        port_at = p.1;
        same_id = p.2;
        class_at = c.is_first;
        is_class = subst (λ i. IsClass T i c.first) (ap (λ (x : Port). x.id) one ∙ p.2) c.is_class;
      },
    )

-- no port has the id
pub no_end : (T : Topology) (text id : Name) → text ≡ id → None ≡ option_map as_port (port_number T text) → (class : Port) → IsClass T id class → ⊥
no_end T text id same e = no_class T id (subst (λ i. port_number T i ≡ None) same (port_unnumbered T text (port_number T text) refl e))

-- A hop

-- its element is not there
pub no_way : (T : Topology) (h : Hop) (text : Name) → text ≡ h.element → None ≡ element_number T text → (way : Way) → IsWay T h way → ⊥
no_way T h text same e way is =
    let none : element_named T h.element ≡ None = no_element T h.element (ap (element_number T) (sym same) ∙ sym e) in
    let some = is.element in
    cc

-- its element and its ports are there
pub way_found : (T : Topology) (h : Hop) (text : Name) (n : ℕ) (from to : End) → text ≡ h.element → Some n ≡ element_number T text
    → (first : Port) × IsEnd T h.from first from → (first : Port) × IsEnd T h.to first to
    → (way : Way) × AreNumbers T h way (record { element = n; from = from; to = to })
way_found T h text n from to same e leaves enters =
    let placed = element_of_number T h.element n (ap (element_number T) (sym same) ∙ sym e) in
    let way : Way = record { placed = placed.0; from = leaves.0; to = enters.0 } in (
      way,
      record {
        is_way = record { element = placed.2; from = leaves.1.is_class; to = enters.1.is_class };
        element_at = placed.1;
        from = leaves.1;
        to = enters.1;
      },
    )
