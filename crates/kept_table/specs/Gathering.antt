-- The sets of each label type, and the labels that a request states there, as they are gathered one after another.
--   sets_of, singles_of   what is gathered of a label type
--   AddsSet, AddsSingle   one set, or one label, more
--   AddsClassAt           the set of the class that a port is the first of
--   AddsLinkAt            the own set of a link
--   AddsStated            the label that the request states at an end
--   IsGathered            how far the classes, the links and the ends are gathered
use Rattle.std.specs.Prelude.{◌≡◌, ◌⊎◌, ◌↔◌, ℕ, ◌<◌, List, [], ◌∷◌, ◌++◌, Bool, ◌||◌, if◌then◌else◌, IsTrue, MatchOption, Option, Some, option_map, option_and_then, unwrap_or, find, map, length, slice_get}
use Rattle.std.specs.List.{position_or_len}
use Rattle.std.specs.Str.{bytes_eq}
use Rattle.label_sets.specs.Ranges.{has}
use Rattle.label_atoms.specs.Pieces.{IsAmong}
use Rattle.ml_base.specs.declared.numbers.Wish.{Wish}
use Rattle.nml_elements.specs.declared.elements.Labels.{Labels}
use Rattle.nml_elements.specs.declared.elements.Labels.TheVariants.{Unlabelled, Of}
use Rattle.nml_elements.specs.declared.elements.LinkE.{LinkE}
use Rattle.nml_elements.specs.Labels.{is_among}
use Rattle.circuit_spec.specs.declared.hops.Request.{Request}
use Rattle.circuit_spec.specs.Network.{Name, Topology, Placed, Port, IsClass, IsInClassSet, elements_of, label_type, names, ports}
use Rattle.circuit_spec.specs.Kept.{IsClassOfType, IsLinkOfType, IsStated, StatesAt, link_at}
use Rattle.nml_inventory.specs.Relations.{AreClassLabels}
use Rattle.kept_table.specs.declared.gathered.TypeTests.{TypeTests}
use Rattle.kept_table.specs.Table.{AreOnce, IsTypeOfSome}

abbrev pub is_type : Name → TypeTests → Bool
is_type labeltype tests = bytes_eq tests.labeltype labeltype

-- the label types of what is gathered
abbrev pub types_of : List TypeTests → List Name
types_of all = map (λ (tests : TypeTests). tests.labeltype) all

-- the sets of a label type
abbrev pub sets_of : List TypeTests → Name → List (List (ℕ × ℕ))
sets_of all labeltype = unwrap_or (option_map (λ (tests : TypeTests). tests.sets) (find (is_type labeltype) all)) []

-- the labels that the request states at ports of a label type
abbrev pub singles_of : List TypeTests → Name → List ℕ
singles_of all labeltype = unwrap_or (option_map (λ (tests : TypeTests). tests.singles) (find (is_type labeltype) all)) []

-- the label types are those of what is gathered, each once
pub record AreByType (types : List Name) (all : List TypeTests) : Type 0 where
  pub types_are : types ≡ types_of all
  pub once : AreOnce (types_of all)

-- the label type has the place; it was there before, or nothing is gathered of it yet
pub record HasPlace (types : List Name) (old new : List TypeTests) (labeltype : Name) (place : ℕ) : Type 0 where
  pub by_type : AreByType types new
  pub at : place ≡ position_or_len (is_type labeltype) new
  pub within : place < length new
  pub sets : (u : Name) → sets_of new u ≡ sets_of old u
  pub singles : (u : Name) → singles_of new u ≡ singles_of old u
  pub types_more : (u : Name) → names (types_of new) u ≡ (names (types_of old) u || bytes_eq labeltype u)

-- one set more of the label type, and all else as before
pub record AddsSet (old : List TypeTests) (labeltype : Name) (set : List (ℕ × ℕ)) (new : List TypeTests) : Type 0 where
  pub sets : (u : Name) → sets_of new u ≡ sets_of old u ++ (if bytes_eq labeltype u then set ∷ [] else [])
  pub singles : (u : Name) → singles_of new u ≡ singles_of old u
  pub types_more : (u : Name) → names (types_of new) u ≡ (names (types_of old) u || bytes_eq labeltype u)

-- one stated label more of the label type, and all else as before
pub record AddsSingle (old : List TypeTests) (labeltype : Name) (label : ℕ) (new : List TypeTests) : Type 0 where
  pub sets : (u : Name) → sets_of new u ≡ sets_of old u
  pub singles : (u : Name) → singles_of new u ≡ singles_of old u ++ (if bytes_eq labeltype u then label ∷ [] else [])
  pub types_more : (u : Name) → names (types_of new) u ≡ (names (types_of old) u || bytes_eq labeltype u)

-- the set of the labels, where they are labelled
abbrev pub AddsLabels : Labels → List TypeTests → List TypeTests → Type 0
AddsLabels Unlabelled old new = new ≡ old
AddsLabels (Of labeltype set) old new = (copy : List (ℕ × ℕ)) × ((n : ℕ) → has copy n ≡ has set n) × AddsSet old labeltype copy new

-- the labels of the class that the port of the number is the first of, or nothing where it is not the first of its class
abbrev pub AddsClassAt : Topology → ℕ → List TypeTests → List TypeTests → Type 0
AddsClassAt T n old new =
    (p : Port) × (slice_get (ports T) n ≡ Some p)
    × ((IsClass T p.id p × ((labels : Labels) × AreClassLabels T p labels × AddsLabels labels old new))
    ⊎ ((¬ IsClass T p.id p) × (new ≡ old)))

-- the link that the element of the number is, if it is one
abbrev pub link_numbered : Topology → ℕ → Option LinkE
link_numbered T n = option_and_then (λ (p : Placed). link_at p.element) (slice_get (elements_of T) n)

-- the own labels of the link that the element of the number is, if it is one
abbrev pub AddsLinkAt : Topology → ℕ → List TypeTests → List TypeTests → Type 0
AddsLinkAt T n old new = MatchOption (link_numbered T n) (new ≡ old) (λ link. AddsLabels link.labels old new)

-- the label that is stated at the end, if one is and its class has a label type
abbrev pub AddsStated : Topology → Name → Wish → List TypeTests → List TypeTests → Type 0
AddsStated T port wish old new =
    ((new ≡ old) × ((u : Name) (m : ℕ) → ¬ StatesAt T port wish u m))
    ⊎ ((labeltype : Name) × (label : ℕ) × AddsSingle old labeltype label new × StatesAt T port wish labeltype label
    × ((u : Name) (m : ℕ) → StatesAt T port wish u m → (u ≡ labeltype) × (m ≡ label)))

-- a set of the label type has just the labels that pass
abbrev pub HasSet : List TypeTests → Name → (ℕ → Type 0) → Type 0
HasSet all labeltype P = (set : List (ℕ × ℕ)) × IsAmong (sets_of all labeltype) set × ((n : ℕ) → IsTrue (has set n) ↔ P n)

-- the set is that of a class, or of a link, of the label type
abbrev pub IsSetOfType : Topology → Name → List (ℕ × ℕ) → Type 0
IsSetOfType T labeltype set =
    ((class : Port) × IsClassOfType T labeltype class × ((n : ℕ) → IsTrue (has set n) ↔ IsInClassSet T class n))
    ⊎ ((link : LinkE) × IsLinkOfType T labeltype link × ((n : ℕ) → IsTrue (has set n) ↔ IsTrue (is_among link.labels n)))

-- nothing is gathered but sets of classes and of links and stated labels, each of its label type; and all those of the classes of
-- the first ports, of the links of the first elements, and of the first ends
pub record IsGathered (T : Topology) (r : Request) (classes links ends : ℕ) (all : List TypeTests) : Type 0 where
  pub only_sets : (u : Name) (set : List (ℕ × ℕ)) → IsAmong (sets_of all u) set → IsSetOfType T u set
  pub only_singles : (u : Name) (n : ℕ) → IsAmong (singles_of all u) n → IsStated T r u n
  pub only_types : (u : Name) → IsTrue (names (types_of all) u) → IsTypeOfSome T u
  pub class_sets : (n : ℕ) (p : Port) (u : Name) → n < classes → slice_get (ports T) n ≡ Some p → IsClass T p.id p → label_type p.labels ≡ Some u → HasSet all u (IsInClassSet T p)
  pub link_sets : (n : ℕ) (link : LinkE) (u : Name) → n < links → link_numbered T n ≡ Some link → label_type link.labels ≡ Some u → HasSet all u (λ m. IsTrue (is_among link.labels m))
  pub from_single : (u : Name) (n : ℕ) → 0 < ends → StatesAt T r.from r.from_wish u n → IsAmong (singles_of all u) n
  pub to_single : (u : Name) (n : ℕ) → 1 < ends → StatesAt T r.to r.to_wish u n → IsAmong (singles_of all u) n
