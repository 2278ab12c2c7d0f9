-- The element of a port's id.
use Rattle.std.proofs.Common.{◌≡◌, ℕ, List, [], Option, None, Some, refl, sym, ◌∙◌, ap, subst}
use Rattle.std.specs.Prelude.{slice_get, option_map}
use Rattle.ml_base.proofs.Lists.{one_of_some, no_item, kept_from}
use Rattle.nml_elements.specs.declared.elements.Domain.{Domain}
use Rattle.nml_elements.specs.declared.elements.Element.{Element}
use Rattle.nml_elements.specs.declared.elements.Element.TheVariants as element
use Rattle.circuit_spec.specs.Network.{Name, Topology, Placed, Port, elements_of, ports, port_at, id_of}
use Rattle.circuit_spec.specs.Faults.{Located, located, duplicate_ids, merge_faults, repeats_after, type_of}
use Rattle.circuit_spec.proofs.Merged.{ids_once}
use Rattle.nml_inventory.specs.Numbers.{element_number}
use Rattle.nml_inventory.proofs.Stands.{ids_are}
use Rattle.nml_inventory.proofs.Distinct.{AreDistinct, distinct_from}
use Rattle.nml_inventory.proofs.PortNumbers.{distinct_mapped, mapped_distinct, number_by}
use Rattle.layer_check.specs.Comparing.{element_type}

abbrev pub placed_id : Placed → Name
placed_id p = id_of p.element

distinct_elements : (T : Topology) → duplicate_ids T ≡ [] → AreDistinct placed_id (elements_of T)
distinct_elements T none =
    let key : Located → Name = λ l. id_of l.element in
    let repeats : repeats_after key [] (located T) ≡ [] = no_item _ (repeats_after key [] (located T)) none in
    let ids = distinct_mapped key (located T) (distinct_from key [] (located T) repeats) in
    mapped_distinct placed_id (elements_of T) (subst (λ (xs : List Name). AreDistinct (λ (x : Name). x) xs) (sym (ids_are T)) ids)

abbrev port_in : Placed → Option Port
port_in p = port_at p.domain p.element

same_id : (d : Domain) (e : Element) (y : Port) → port_at d e ≡ Some y → y.id ≡ id_of e
same_id d (element.Port x) y h = ap (λ (p : Port). p.id) (one_of_some (sym h))
same_id d (element.Node x) y h = cc
same_id d (element.Link x) y h = cc
same_id d (element.Switching x) y h = cc
same_id d (element.Adaptation x) y h = cc
same_id d (element.Deadaptation x) y h = cc
same_id d (element.Conversion x) y h = cc

-- an element that is a port has its label type
pub type_kept : (d : Domain) (e : Element) (y : Port) → port_at d e ≡ Some y → element_type e ≡ type_of y
type_kept d (element.Port x) y h = ap type_of (one_of_some h)
type_kept d (element.Node x) y h = cc
type_kept d (element.Link x) y h = cc
type_kept d (element.Switching x) y h = cc
type_kept d (element.Adaptation x) y h = cc
type_kept d (element.Deadaptation x) y h = cc
type_kept d (element.Conversion x) y h = cc

-- the element of the id of the port of a number
pub record IsKnownPort (T : Topology) (n : ℕ) (name : Name) : Type 0 where
  pub port : Port
  pub at : slice_get (ports T) n ≡ Some port
  pub number : ℕ
  pub placed : Placed
  pub numbered : element_number T name ≡ Some number
  pub stands : slice_get (elements_of T) number ≡ Some placed
  pub typed : element_type placed.element ≡ type_of port

known_by : (T : Topology) (n : ℕ) (name : Name) (o : Option Port) → merge_faults T ≡ [] → slice_get (ports T) n ≡ o → option_map (λ (p : Port). p.id) o ≡ Some name → IsKnownPort T n name
known_by T n name None merged at named = cc
known_by T n name (Some p) merged at named =
    let k = kept_from port_in (elements_of T) n p at in
    let id : id_of k.1.element ≡ name = sym (same_id k.1.domain k.1.element p k.3) ∙ one_of_some named in
    let number : element_number T (id_of k.1.element) ≡ Some k.0 = number_by placed_id (elements_of T) k.0 k.1 (distinct_elements T (ids_once T merged)) k.2 (element_number T (id_of k.1.element)) refl in
    record {
      port = p;
      at = at;
      number = k.0;
      placed = k.1;
      numbered = ap (element_number T) (sym id) ∙ number;
      stands = k.2;
      typed = type_kept k.1.domain k.1.element p k.3;
    }

pub known_port : (T : Topology) (n : ℕ) (name : Name) → merge_faults T ≡ [] → option_map (λ (p : Port). p.id) (slice_get (ports T) n) ≡ Some name → IsKnownPort T n name
known_port T n name merged named = known_by T n name (slice_get (ports T) n) merged refl named

pub number_there : (T : Topology) (n : ℕ) (name text : Name) (o : Option ℕ) (k : IsKnownPort T n name) → text ≡ name → o ≡ element_number T text → o ≡ Some k.number
number_there T n name text o k same is = is ∙ ap (element_number T) same ∙ k.numbered

pub placed_there : (T : Topology) (n : ℕ) (name : Name) (number : ℕ) (o : Option Element) (k : IsKnownPort T n name) → Some number ≡ Some k.number → o ≡ option_map (λ (p : Placed). p.element) (slice_get (elements_of T) number) → o ≡ Some k.placed.element
placed_there T n name number o k same is =
    is ∙ ap (λ m. option_map (λ (p : Placed). p.element) (slice_get (elements_of T) m)) (one_of_some same) ∙ ap (option_map (λ (p : Placed). p.element)) k.stands

pub type_there : (T : Topology) (n : ℕ) (name : Name) (e : Element) (t : Option Name) (k : IsKnownPort T n name) → Some e ≡ Some k.placed.element → t ≡ element_type e → option_map type_of (slice_get (ports T) n) ≡ Some t
type_there T n name e t k same is = ap (option_map type_of) k.at ∙ ap Some (sym k.typed ∙ ap element_type (sym (one_of_some same)) ∙ sym is)
