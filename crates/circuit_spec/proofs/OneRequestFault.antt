-- A request has one first fault at most, and none where it is known.
use Rattle.std.proofs.Common.{◌≡◌, ◌⊎◌, ℕ, inl, inr, [], ◌∷◌, true, ◌&&◌, sym, ◌∙◌, ap, subst}
use Rattle.std.specs.Str.{bytes_eq}
use Rattle.std.proofs.lemmas.Bool.{or_cases, and_parts}
use Rattle.std.proofs.lemmas.Slice.Eq.{bytes_eq-Decides}
use Rattle.ml_base.specs.declared.numbers.Wish.{Wish}
use Rattle.ml_base.specs.declared.numbers.Wish.TheVariants.{Value}
use Rattle.ml_base.proofs.Lists.{any_among}
use Rattle.ml_base.specs.Lists.{IsAmong}
use Rattle.circuit_spec.specs.declared.faults.RequestFault.{RequestFault}
use Rattle.circuit_spec.specs.declared.faults.RequestFault.TheVariants.{UnknownPort, LabelNotHere}
use Rattle.circuit_spec.specs.declared.hops.Request.{Request}
use Rattle.circuit_spec.specs.Network.{Name, Topology, Port, ports, port_has, names, states_alias, Linked, IsClass, IsInClassSet}
use Rattle.circuit_spec.specs.Faults.{IsHere, IsKnown, IsKnownEnd}
use Rattle.circuit_spec.specs.Requests.{IsPort, IsMissedAt, IsRequestFault}
use Rattle.circuit_spec.proofs.Among.{among_first}
use Rattle.circuit_spec.proofs.Alone.{found_port}
use Rattle.circuit_spec.proofs.ClassLemmas.{First-unique}

-- What has a class is a port.

port_by_id : (T : Topology) (id : Name) (p : Port) → IsAmong (ports T) p → p.id ≡ id → IsPort T id
port_by_id T id p among same =
    let test : bytes_eq p.id id ≡ true = (bytes_eq-Decides p.id id).1 same in
    any_among (λ (q : Port). bytes_eq q.id id && true) (ports T) p among (ap (λ b. b && true) test)

port_that_states : (T : Topology) (id other : Name) → states_alias T id other ≡ true → IsPort T id
port_that_states T id other h =
    let parts = and_parts (port_has T id (λ a. names a.aliases other)) (port_has T other (λ b. true)) h in
    let found = found_port T id (λ a. names a.aliases other) parts.0 in
    port_by_id T id found.0 found.1 found.2

port_that_is_stated : (T : Topology) (id other : Name) → states_alias T other id ≡ true → IsPort T id
port_that_is_stated T id other h = (and_parts (port_has T other (λ a. names a.aliases id)) (port_has T id (λ b. true)) h).1

linked_port : (T : Topology) (id : Name) (p : Port) → IsAmong (ports T) p → Linked T id p.id → IsPort T id
linked_port T id p among ([], e) = port_by_id T id p among (sym e)
linked_port T id p among (other ∷ rest, (statement, further)) =
    elim (or_cases (states_alias T id other) (states_alias T other id) statement) [
      | inl forth ↦ port_that_states T id other forth
      | inr back ↦ port_that_is_stated T id other back
    ]

pub class_is_port : (T : Topology) (id : Name) (class : Port) → IsClass T id class → IsPort T id
class_is_port T id class is =
    let found = among_first (λ q. Linked T id q.id) (ports T) class is in
    linked_port T id class found.0 found.1

-- An end is not both known and missed.

not_both : (T : Topology) (port : Name) (wish : Wish) (label : ℕ) → IsMissedAt T port wish label → IsKnownEnd T port wish → ⊥
not_both T port wish label missed known =
    let same : known.0 ≡ missed.1.0 = First-unique (λ q. Linked T port q.id) (ports T) known.0 missed.1.0 known.1 missed.1.1 in
    let here : IsHere T known.0 (Value label) = subst (IsHere T known.0) missed.0 known.2 in
    missed.1.2 (subst (λ (class : Port). IsInClassSet T class label) same here)

same_label : (wish : Wish) (l m : ℕ) → wish ≡ Value l → wish ≡ Value m → l ≡ m
same_label wish l m e f = let g : Value l ≡ Value m = sym e ∙ f in cc

-- One fault

abbrev Missed : Topology → Request → Name → ℕ → Type 0
Missed T r id label =
    (IsMissedAt T r.from r.from_wish label × (id ≡ r.from))
    ⊎ (IsKnownEnd T r.from r.from_wish × IsMissedAt T r.to r.to_wish label × (id ≡ r.to))

one_missed : (T : Topology) (r : Request) (a b : Name) (l m : ℕ) → Missed T r a l → Missed T r b m → LabelNotHere a l ≡ LabelNotHere b m
one_missed T r a b l m (inl x) (inl y) = let ids : a ≡ b = x.1 ∙ sym y.1 in let labels : l ≡ m = same_label r.from_wish l m x.0.0 y.0.0 in cc
one_missed T r a b l m (inl x) (inr y) = absurd (not_both T r.from r.from_wish l x.0 y.0)
one_missed T r a b l m (inr x) (inl y) = absurd (not_both T r.from r.from_wish m y.0 x.0)
one_missed T r a b l m (inr x) (inr y) = let ids : a ≡ b = x.2 ∙ sym y.2 in let labels : l ≡ m = same_label r.to_wish l m x.1.0 y.1.0 in cc

abbrev Unknown : Topology → Request → Name → Type 0
Unknown T r id = ((¬ IsPort T r.from) × (id ≡ r.from)) ⊎ (IsPort T r.from × (¬ IsPort T r.to) × (id ≡ r.to))

one_unknown : (T : Topology) (r : Request) (a b : Name) → Unknown T r a → Unknown T r b → UnknownPort a ≡ UnknownPort b
one_unknown T r a b (inl x) (inl y) = ap UnknownPort (x.1 ∙ sym y.1)
one_unknown T r a b (inl x) (inr y) = absurd (x.0 y.0)
one_unknown T r a b (inr x) (inl y) = absurd (y.0 x.0)
one_unknown T r a b (inr x) (inr y) = ap UnknownPort (x.2 ∙ sym y.2)

not_unknown : (T : Topology) (r : Request) (id : Name) → Unknown T r id → IsPort T r.from → IsPort T r.to → ⊥
not_unknown T r id (inl x) from to = x.0 from
not_unknown T r id (inr x) from to = x.1 to

pub one_request_fault : (T : Topology) (r : Request) (f g : RequestFault) → IsRequestFault T r f → IsRequestFault T r g → f ≡ g
one_request_fault T r (UnknownPort a) (UnknownPort b) x y = one_unknown T r a b x y
one_request_fault T r (UnknownPort a) (LabelNotHere b m) x y = absurd (not_unknown T r a x y.0 y.1)
one_request_fault T r (LabelNotHere a l) (UnknownPort b) x y = absurd (not_unknown T r b y x.0 x.1)
one_request_fault T r (LabelNotHere a l) (LabelNotHere b m) x y = one_missed T r a b l m x.2 y.2

not_missed : (T : Topology) (r : Request) (id : Name) (label : ℕ) → Missed T r id label → IsKnown T r → ⊥
not_missed T r id label (inl x) known = not_both T r.from r.from_wish label x.0 known.0
not_missed T r id label (inr x) known = not_both T r.to r.to_wish label x.1 known.1

pub known_has_none : (T : Topology) (r : Request) (f : RequestFault) → IsKnown T r → IsRequestFault T r f → ⊥
known_has_none T r (UnknownPort id) known x = not_unknown T r id x (class_is_port T r.from known.0.0 known.0.1) (class_is_port T r.to known.1.0 known.1.1)
known_has_none T r (LabelNotHere id label) known x = not_missed T r id label x.2 known
