-- A port has one class number, and its id one element.
use Rattle.std.proofs.Common.{◌≡◌, ℕ, suc, inl, inr, List, [], ◌∷◌, Some, sym, ◌∙◌, ap, subst}
use Rattle.std.specs.Prelude.{slice_get}
use Rattle.ml_base.proofs.Lists.{one_of_some}
use Rattle.circuit_spec.specs.Network.{Topology, Port, First, IsClass, Linked, ports}
use Rattle.circuit_spec.specs.Faults.{merge_faults}
use Rattle.circuit_spec.proofs.ClassLemmas.{First-unique, linked_back, class_of_itself, class_of_linked}
use Rattle.circuit_spec.proofs.Among.{among_first}
use Rattle.circuit_spec.proofs.Merged.{ids_once}
use Rattle.nml_inventory.specs.Aliases.{IsClassNumber}
use Rattle.nml_inventory.proofs.Distinct.{same_place}
use Rattle.nml_inventory.proofs.ClassNumbers.{port_id}
use Rattle.nml_inventory.proofs.PortNumbers.{distinct_ports}

-- the first port of a class number is linked to the port
pub member_linked : (T : Topology) (n c : ℕ) (m : IsClassNumber T n c) → Linked T m.first.id m.port.id
member_linked T n c m = linked_back T m.port.id m.first.id (among_first (λ (q : Port). Linked T m.port.id q.id) (ports T) m.first m.is_class).1

-- the number of the port that names a class is its own class number
pub class_leads : (T : Topology) (n c : ℕ) → IsClassNumber T n c → IsClassNumber T c c
class_leads T n c m = record {
  port = m.first;
  first = m.first;
  is_port = m.is_first;
  is_first = m.is_first;
  is_class = class_of_itself T m.port.id m.first m.is_class;
}

same_first : (T : Topology) (n c d : ℕ) (x : IsClassNumber T n c) (y : IsClassNumber T n d) → x.first ≡ y.first
same_first T n c d x y =
    let same : x.port ≡ y.port = one_of_some (sym x.is_port ∙ y.is_port) in
    First-unique (λ (q : Port). Linked T y.port.id q.id) (ports T) x.first y.first (subst (λ (p : Port). IsClass T p.id x.first) same x.is_class) y.is_class

-- a port has one class number
pub class_once : (T : Topology) (n c d : ℕ) → merge_faults T ≡ [] → IsClassNumber T n c → IsClassNumber T n d → c ≡ d
class_once T n c d merged x y =
    same_place port_id (ports T) c d x.first y.first (distinct_ports T (ids_once T merged)) x.is_first y.is_first (ap port_id (same_first T n c d x y))

-- a port that is linked to the first port of a class is of the class
pub linked_member : (T : Topology) (n c : ℕ) (q : Port) (m : IsClassNumber T c c) → slice_get (ports T) n ≡ Some q → Linked T m.first.id q.id → IsClassNumber T n c
linked_member T n c q m at linked =
    let same : m.port ≡ m.first = one_of_some (sym m.is_port ∙ m.is_first) in
    record {
      port = q;
      first = m.first;
      is_port = at;
      is_first = m.is_first;
      is_class = class_of_linked T m.first.id q.id m.first linked (subst (λ (p : Port). IsClass T p.id m.first) same m.is_class);
    }

-- where the first item of a list stands
pub first_stands : {A : Type 0} (P : A → Type 0) (xs : List A) (x : A) → First P xs x → (k : ℕ) × (slice_get xs k ≡ Some x) × P x
first_stands P [] x h = absurd h
first_stands P (y ∷ ys) x (inl (p, e)) = (0, ap Some (sym e), subst P (sym e) p)
first_stands P (y ∷ ys) x (inr (other, later)) = let f = first_stands P ys x later in (suc f.0, f.1, f.2)
