-- Ids that are not there twice: elements and ports by their ids.
use Rattle.std.proofs.Common.{◌≡◌, ℕ, zero, suc, List, [], ◌∷◌, true, false, cond, Some, sym, ◌∙◌, ap}
use Rattle.std.specs.Prelude.{slice_get}
use Rattle.std.specs.List.{find}
use Rattle.std.specs.Str.{bytes_eq}
use Rattle.std.proofs.lemmas.Slice.Eq.{bytes_eq-Decides}
use Rattle.ml_base.proofs.Lists.{one_of_some, place_among}
use Rattle.circuit_spec.specs.Network.{Name, Topology, Placed, Port, elements_of, element_named, id_of, ports}
use Rattle.circuit_spec.specs.Faults.{duplicate_ids}
use Rattle.circuit_spec.proofs.Among.{among_find}
use Rattle.nml_inventory.proofs.Distinct.{AreDistinct, apart_at, other_name, same_place}
use Rattle.nml_inventory.proofs.PortNumbers.{distinct_elements, distinct_ports}

found_at : {A : Type 0} (key : A → Name) (xs : List A) (i : ℕ) (x : A) → AreDistinct key xs → slice_get xs i ≡ Some x → find (λ y. bytes_eq (key y) (key x)) xs ≡ Some x
found_at key [] i x d at = cc
found_at key (y ∷ ys) zero x d at =
    let same : y ≡ x = one_of_some at in
    let here : bytes_eq (key y) (key x) ≡ true = (bytes_eq-Decides (key y) (key x)).1 (ap key same) in
    ap (λ b. cond b (Some y) (find (λ z. bytes_eq (key z) (key x)) ys)) here ∙ ap Some same
found_at key (y ∷ ys) (suc i) x d at =
    let other : bytes_eq (key y) (key x) ≡ false = other_name (key y) (key x) (apart_at key (key y) ys i x d.0 at) in
    ap (λ b. cond b (Some y) (find (λ z. bytes_eq (key z) (key x)) ys)) other ∙ found_at key ys i x d.1 at

-- an element is found by its id
pub element_found : (T : Topology) (n : ℕ) (p : Placed) → duplicate_ids T ≡ [] → slice_get (elements_of T) n ≡ Some p → element_named T (id_of p.element) ≡ Some p
element_found T n p none at = found_at (λ (x : Placed). id_of x.element) (elements_of T) n p (distinct_elements T none) at

-- what is found by an id has a number
pub element_numbered : (T : Topology) (id : Name) (p : Placed) → element_named T id ≡ Some p → (n : ℕ) × (slice_get (elements_of T) n ≡ Some p)
element_numbered T id p found = place_among (elements_of T) p (among_find (λ x. bytes_eq (id_of x.element) id) (elements_of T) p found).0

pub element_id : (T : Topology) (id : Name) (p : Placed) → element_named T id ≡ Some p → id ≡ id_of p.element
element_id T id p found = sym ((bytes_eq-Decides (id_of p.element) id).0 (among_find (λ x. bytes_eq (id_of x.element) id) (elements_of T) p found).1)

-- an element has one number, and a port
pub one_element : (T : Topology) (i j : ℕ) (p q : Placed) → duplicate_ids T ≡ [] → slice_get (elements_of T) i ≡ Some p → slice_get (elements_of T) j ≡ Some q → id_of p.element ≡ id_of q.element → i ≡ j
one_element T i j p q none ati atj same = same_place (λ (x : Placed). id_of x.element) (elements_of T) i j p q (distinct_elements T none) ati atj same

pub one_number : (T : Topology) (i j : ℕ) (p q : Port) → duplicate_ids T ≡ [] → slice_get (ports T) i ≡ Some p → slice_get (ports T) j ≡ Some q → p.id ≡ q.id → i ≡ j
one_number T i j p q none ati atj same = same_place (λ (x : Port). x.id) (ports T) i j p q (distinct_ports T none) ati atj same
