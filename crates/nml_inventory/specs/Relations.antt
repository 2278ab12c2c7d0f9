-- What an inventory answers of relations, classes and open references.
--   numbers_where      the numbers of the items that pass a test, rising
--   is_source ..       whether a port is related so to an element
--   AreNumbersOf       the ports that are related so to the element of a number
--   IsTwin             an earlier element has the same inbound and outbound ports
--   AreClassLabels     the labels that all ports of a class have
--   open_references    how many ids the relations name that no element has
--   IsClassCount       how many classes there are
use Rattle.std.specs.Prelude.{◌≡◌, ◌⊎◌, ◌↔◌, ◌<◌, ℕ, suc, List, [], ◌∷◌, ◌++◌, Bool, false, IsTrue, cond, Some, is_none, unwrap_or, map, filter, length, slice_get, option_map, sum_by}
use Rattle.std.specs.List.{enumerate_from}
use Rattle.nml_elements.specs.declared.elements.Labels.{Labels}
use Rattle.nml_elements.specs.declared.elements.Element.{Element}
use Rattle.nml_elements.specs.declared.elements.Element.TheVariants as element
use Rattle.nml_elements.specs.Labels.{is_among}
use Rattle.circuit_spec.specs.Faults.{Relation, relations_of}
use Rattle.circuit_spec.specs.Network.{Name, Topology, Placed, Port, IsClass, IsInClassSet, element_named, elements_of, label_type, names, ports}
use Rattle.circuit_spec.specs.Steps.{inbound_of, outbound_of}

-- the numbers of the items that pass the test, rising
abbrev pub numbers_where : {A : Type 0} → (A → Bool) → List A → List ℕ
numbers_where {A} test xs = map (λ (x : ℕ × A). x.0) (filter (λ (x : ℕ × A). test x.1) (enumerate_from 0 xs))

-- the element is a link, and the port sends into it
abbrev pub is_source : Element → Port → Bool
is_source (element.Link l) p = names p.sources l.id
is_source (element.Node n) p = false
is_source (element.Port q) p = false
is_source (element.Switching s) p = false
is_source (element.Adaptation a) p = false
is_source (element.Deadaptation a) p = false
is_source (element.Conversion c) p = false

-- the element is a link, and the port takes from it
abbrev pub is_sink : Element → Port → Bool
is_sink (element.Link l) p = names p.sinks l.id
is_sink (element.Node n) p = false
is_sink (element.Port q) p = false
is_sink (element.Switching s) p = false
is_sink (element.Adaptation a) p = false
is_sink (element.Deadaptation a) p = false
is_sink (element.Conversion c) p = false

-- the element is a service, and the port one of its inbound ports
abbrev pub is_inbound : Topology → Element → Port → Bool
is_inbound T (element.Switching s) p = names (inbound_of T s) p.id
is_inbound T (element.Conversion c) p = names c.inbound p.id
is_inbound T (element.Node n) p = false
is_inbound T (element.Port q) p = false
is_inbound T (element.Link l) p = false
is_inbound T (element.Adaptation a) p = false
is_inbound T (element.Deadaptation a) p = false

-- the element is a service, and the port one of its outbound ports
abbrev pub is_outbound : Topology → Element → Port → Bool
is_outbound T (element.Switching s) p = names (outbound_of T s) p.id
is_outbound T (element.Conversion c) p = names c.outbound p.id
is_outbound T (element.Node n) p = false
is_outbound T (element.Port q) p = false
is_outbound T (element.Link l) p = false
is_outbound T (element.Adaptation a) p = false
is_outbound T (element.Deadaptation a) p = false

-- the element adapts or undoes that, and the port names it as its service
abbrev pub is_server : Element → Port → Bool
is_server (element.Adaptation a) p = names p.services a.id
is_server (element.Deadaptation a) p = names p.services a.id
is_server (element.Node n) p = false
is_server (element.Port q) p = false
is_server (element.Link l) p = false
is_server (element.Switching s) p = false
is_server (element.Conversion c) p = false

-- the element adapts or undoes that, and provides the port
abbrev pub is_client : Element → Port → Bool
is_client (element.Adaptation a) p = names a.ports p.id
is_client (element.Deadaptation a) p = names a.ports p.id
is_client (element.Node n) p = false
is_client (element.Port q) p = false
is_client (element.Link l) p = false
is_client (element.Switching s) p = false
is_client (element.Conversion c) p = false

-- the ports that pass the test with the element of this number are those of the numbers found, rising
abbrev pub AreNumbersOf : Topology → (Element → Port → Bool) → ℕ → List ℕ → Type 0
AreNumbersOf T test number found =
    option_map (λ (e : Placed). numbers_where (test e.element) (ports T)) (slice_get (elements_of T) number) ≡ Some found

-- the other element stands before that of the number, and has the same inbound and outbound ports
pub record IsTwin (T : Topology) (number other : ℕ) : Type 0 where
  pub inbound : List ℕ
  pub outbound : List ℕ
  pub before : other < number
  pub inbound_here : AreNumbersOf T (is_inbound T) number inbound
  pub inbound_there : AreNumbersOf T (is_inbound T) other inbound
  pub outbound_here : AreNumbersOf T (is_outbound T) number outbound
  pub outbound_there : AreNumbersOf T (is_outbound T) other outbound

-- the labels are of the type of the class, and are those that each of its ports has
pub record AreClassLabels (T : Topology) (class : Port) (labels : Labels) : Type 0 where
  pub typed : label_type labels ≡ label_type class.labels
  pub each : (label : ℕ) → IsTrue (is_among labels label) ↔ IsInClassSet T class label

-- the names with one more, if it is not among them
abbrev pub with_name : List Name → Name → List Name
with_name xs x = cond (names xs x) xs (xs ++ x ∷ [])

-- the names behind those before, each where it stands first
abbrev pub once_behind : List Name → List Name → List Name
once_behind before [] = []
once_behind before (x ∷ xs) = cond (names before x) (once_behind (before ++ x ∷ []) xs) (x ∷ once_behind (before ++ x ∷ []) xs)

-- the names that no element has, each once
abbrev pub open_names : Topology → List Name → List Name
open_names T targets = once_behind [] (filter (λ id. is_none (element_named T id)) targets)

abbrev pub open_count : Topology → Relation → ℕ
open_count T r = length (open_names T r.targets)

-- how many the relation at a place of an element names
abbrev pub open_in : Topology → Element → ℕ → ℕ
open_in T e place = unwrap_or (option_map (open_count T) (slice_get (relations_of e) place)) 0

abbrev pub open_at : Topology → Element → ℕ
open_at T e = sum_by (open_count T) (relations_of e)

-- the open references of all elements, each once for an element, a member and an id
abbrev pub open_references : Topology → ℕ
open_references T = sum_by (λ (p : Placed). open_at T p.element) (elements_of T)

-- n is how many items of the list P holds of
abbrev pub IsCount : {A : Type 0} → (A → Type 0) → List A → ℕ → Type 0
IsCount P [] n = n ≡ 0
IsCount P (x ∷ xs) n = (P x × ((m : ℕ) × (n ≡ suc m) × IsCount P xs m)) ⊎ ((¬ P x) × IsCount P xs n)

-- n is the number of ports that are the first of their class
abbrev pub IsClassCount : Topology → ℕ → Type 0
IsClassCount T n = IsCount (λ (p : Port). IsClass T p.id p) (ports T) n
