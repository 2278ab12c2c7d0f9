-- What is accepted whole is accepted throughout any window: what is gone leaves open references, and no fault.
use Rattle.std.proofs.Common.{◌≡◌, ◌⊎◌, inl, inr, ℕ, ◌+◌, List, [], ◌∷◌, ◌++◌, Bool, true, false, ◌&&◌, ◌||◌, not, cond, Option, None, Some, is_none, unwrap_or, refl, sym, ◌∙◌, ap, subst, map, filter}
use Rattle.std.specs.List.{list_any, find, filter_map, flat_map, enumerate_from, AllByRecursion}
use Rattle.std.specs.Option.{option_map}
use Rattle.std.specs.Str.{bytes_eq}
use Rattle.std.proofs.lemmas.Bool.{or_cases, and_parts, and_from, not-false}
use Rattle.std.proofs.lemmas.List.{map-append}
use Rattle.std.proofs.lemmas.List.Elements.{filter_map-append}
use Rattle.std.proofs.lemmas.Slice.Eq.{bytes_eq-Decides}
use Rattle.ml_base.specs.Lists.{IsAmong}
use Rattle.ml_base.proofs.Lists.{no_item}
use Rattle.nml_elements.specs.Lifetimes.{Interval}
use Rattle.nml_elements.specs.During.{during, stays}
use Rattle.nml_elements.specs.declared.elements.Domain.{Domain}
use Rattle.nml_elements.specs.declared.elements.Entry.{Entry}
use Rattle.nml_elements.specs.declared.elements.LinkE.{LinkE}
use Rattle.nml_elements.specs.declared.elements.NodeE.{NodeE}
use Rattle.nml_elements.specs.declared.elements.SwitchE.{SwitchE}
use Rattle.nml_elements.specs.declared.elements.Element.{Element}
use Rattle.nml_elements.specs.declared.elements.Element.TheVariants as element
use Rattle.circuit_spec.specs.declared.faults.Spot.{Spot}
use Rattle.circuit_spec.specs.declared.faults.MergeFault.{MergeFault}
use Rattle.circuit_spec.specs.declared.faults.MergeFault.TheVariants.{DuplicateTopology, DuplicateId, WrongKind}
use Rattle.circuit_spec.specs.declared.faults.LayerFault.{LayerFault}
use Rattle.circuit_spec.specs.declared.faults.LayerFault.TheVariants.{LinkLayer, LinkLabelType, SwitchLayer, SwitchLabelType}
use Rattle.circuit_spec.specs.Network.{Name, Topology, Placed, Port, ports, port_at, port_has, names, id_of, placed_in, elements_of, element_named, states_alias, related, Chain, Linked}
use Rattle.circuit_spec.specs.Steps.{node_at, nodes_of, has_encoding, ports_of_service, inbound_of, outbound_of}
use Rattle.circuit_spec.specs.Kept.{link_at, links}
use Rattle.circuit_spec.specs.Faults.{Located, located, located_in, Relation, relations_of, is_wrong, wrong_targets, wrong_kinds, repeats_after, duplicate_topologies, duplicate_ids, merge_faults, has_other, same_type, type_of, first_other, layer_faults, own_type, link_faults, switch_at, switches, switch_faults, relating_faults, ClassesFit, IsAccepted}
use Rattle.circuit_spec.specs.Windows.{topology_during}
use Rattle.circuit_spec.proofs.Lists.{none_found, both_empty, each_empty, no_option}
use Rattle.circuit_spec.proofs.Types.{same_type_true}
use Rattle.circuit_spec.proofs.Sublists.{IsPart, part_itself, part_append, part_none, part_among, part_all, part_any, part_map, part_flat, part_filter, part_made, part_found}
use Rattle.circuit_spec.proofs.Repeats.{NoRepeats, none_repeated, repeated_none, part_once, found_in_part, any_none}

-- ---- elements, and what is made of them

map_after : {A B C : Type 0} (f : B → C) (g : A → B) (h : A → C) → ((x : A) → f (g x) ≡ h x) → (xs : List A) → map f (map g xs) ≡ map h xs
map_after f g h same [] = refl
map_after f g h same (x ∷ xs) = rw (same x, map_after f g h same xs) refl

-- the elements of a domain, without their places
abbrev held_in : Domain → List Element
held_in d = map (λ (e : Entry). e.element) d.elements

abbrev held : Topology → List Element
held T = flat_map held_in T

held_part : (w : Interval) (T : Topology) → IsPart (held (topology_during w T)) (held T)
held_part w [] = tt
held_part w (d ∷ ds) =
    part_append (held_in (during w d)) (held_in d) (held (topology_during w ds)) (held ds)
    (part_made (stays w) (λ (e : Entry). e.element) (λ (e : Entry). e.element) (λ e. refl) d.elements) (held_part w ds)

placed_held : (T : Topology) → map (λ (p : Placed). p.element) (elements_of T) ≡ held T
placed_held [] = refl
placed_held (d ∷ ds) =
    map-append (λ (p : Placed). p.element) (placed_in d) (elements_of ds)
    ∙ ap (λ (xs : List Element). xs ++ map (λ (p : Placed). p.element) (elements_of ds))
    (map_after (λ (p : Placed). p.element) (λ (e : Entry). record { domain = d; element = e.element }) (λ (e : Entry). e.element) (λ e. refl) d.elements)
    ∙ ap (λ (xs : List Element). held_in d ++ xs) (placed_held ds)

located_part : (w : Interval) (n : ℕ) (T : Topology) → IsPart (flat_map located_in (enumerate_from n (topology_during w T))) (flat_map located_in (enumerate_from n T))
located_part w n [] = tt
located_part w n (d ∷ ds) =
    let put : Entry → Located = λ (e : Entry). record { spot = record { file = n; element = e.number }; element = e.element } in
    part_append (located_in (n, during w d)) (located_in (n, d)) (flat_map located_in (enumerate_from (n + 1) (topology_during w ds))) (flat_map located_in (enumerate_from (n + 1) ds))
    (part_made (stays w) put put (λ e. refl) d.elements) (located_part w (n + 1) ds)

-- what is found of each element by its domain and itself, where the window changes nothing of that
found_part : {X : Type 0} (w : Interval) (h : Placed → Option X)
    → ((d : Domain) (e : Entry) → h (record { domain = during w d; element = e.element }) ≡ h (record { domain = d; element = e.element }))
    → (T : Topology) → IsPart (filter_map h (elements_of (topology_during w T))) (filter_map h (elements_of T))
found_part w h same [] = tt
found_part w h same (d ∷ ds) =
    rw (filter_map-append h (placed_in (during w d)) (elements_of (topology_during w ds)), filter_map-append h (placed_in d) (elements_of ds))
    (part_append (filter_map h (placed_in (during w d))) (filter_map h (placed_in d)) (filter_map h (elements_of (topology_during w ds))) (filter_map h (elements_of ds))
    (part_found h (stays w) (λ (e : Entry). record { domain = during w d; element = e.element }) (λ (e : Entry). record { domain = d; element = e.element }) (same d) d.elements)
    (found_part w h same ds))

same_port : (w : Interval) (d : Domain) (e : Element) → port_at (during w d) e ≡ port_at d e
same_port w d (element.Node n) = refl
same_port w d (element.Port p) = refl
same_port w d (element.Link l) = refl
same_port w d (element.Switching s) = refl
same_port w d (element.Adaptation a) = refl
same_port w d (element.Deadaptation a) = refl
same_port w d (element.Conversion c) = refl

ports_part : (w : Interval) (T : Topology) → IsPart (ports (topology_during w T)) (ports T)
ports_part w T = found_part w (λ (p : Placed). port_at p.domain p.element) (λ d e. same_port w d e.element) T

links_part : (w : Interval) (T : Topology) → IsPart (links (topology_during w T)) (links T)
links_part w T = found_part w (λ (p : Placed). link_at p.element) (λ d e. refl) T

switches_part : (w : Interval) (T : Topology) → IsPart (switches (topology_during w T)) (switches T)
switches_part w T = found_part w (λ (p : Placed). switch_at p.element) (λ d e. refl) T

nodes_part : (w : Interval) (T : Topology) (service : Name) → IsPart (nodes_of (topology_during w T) service) (nodes_of T service)
nodes_part w T service =
    part_filter (λ (n : NodeE). names n.services service) (λ (n : NodeE). names n.services service) (λ n h. h) _ _
    (found_part w (λ (p : Placed). node_at p.element) (λ d e. refl) T)

-- ---- merging

topology_ids : (w : Interval) (n : ℕ) (T : Topology) → map (λ (f : ℕ × Domain). f.1.id) (enumerate_from n (topology_during w T)) ≡ map (λ (f : ℕ × Domain). f.1.id) (enumerate_from n T)
topology_ids w n [] = refl
topology_ids w n (d ∷ ds) = ap (λ (ids : List Name). d.id ∷ ids) (topology_ids w (n + 1) ds)

topologies_once : (w : Interval) (T : Topology) → duplicate_topologies T ≡ [] → duplicate_topologies (topology_during w T) ≡ []
topologies_once w T none =
    let key : ℕ × Domain → Name = λ (f : ℕ × Domain). f.1.id in
    let once = none_repeated key (enumerate_from 1 T) (no_item _ (repeats_after key [] (enumerate_from 1 T)) none) in
    let e : repeats_after key [] (enumerate_from 1 (topology_during w T)) ≡ [] = repeated_none key (enumerate_from 1 (topology_during w T)) (subst (NoRepeats []) (sym (topology_ids w 1 T)) once) in
    ap (map (λ (p : (ℕ × Domain) × (ℕ × Domain)). DuplicateTopology p.1.1.id p.0.0 p.1.0)) e

located_ids : (n : ℕ) (T : Topology) → map (λ (l : Located). id_of l.element) (flat_map located_in (enumerate_from n T)) ≡ map id_of (held T)
located_ids n [] = refl
located_ids n (d ∷ ds) =
    let key : Located → Name = λ (l : Located). id_of l.element in
    let of_entry : Entry → Name = λ (e : Entry). id_of e.element in
    map-append key (located_in (n, d)) (flat_map located_in (enumerate_from (n + 1) ds))
    ∙ ap (λ (xs : List Name). xs ++ map key (flat_map located_in (enumerate_from (n + 1) ds)))
    (map_after key (λ (e : Entry). record { spot = record { file = n; element = e.number }; element = e.element }) of_entry (λ e. refl) d.elements
    ∙ sym (map_after id_of (λ (e : Entry). e.element) of_entry (λ e. refl) d.elements))
    ∙ ap (λ (xs : List Name). map id_of (held_in d) ++ xs) (located_ids (n + 1) ds)
    ∙ sym (map-append id_of (held_in d) (held ds))

held_once : (T : Topology) → duplicate_ids T ≡ [] → NoRepeats [] (map id_of (held T))
held_once T none =
    let key : Located → Name = λ (l : Located). id_of l.element in
    subst (NoRepeats []) (located_ids 1 T) (none_repeated key (located T) (no_item _ (repeats_after key [] (located T)) none))

ids_once_more : (w : Interval) (T : Topology) → duplicate_ids T ≡ [] → duplicate_ids (topology_during w T) ≡ []
ids_once_more w T none =
    let key : Located → Name = λ (l : Located). id_of l.element in
    let there = topology_during w T in
    let once = part_once (map id_of (held there)) (map id_of (held T)) (part_map id_of (held there) (held T) (held_part w T)) (held_once T none) in
    let e : repeats_after key [] (located there) ≡ [] = repeated_none key (located there) (subst (NoRepeats []) (sym (located_ids 1 there)) once) in
    ap (map (λ (p : Located × Located). DuplicateId (id_of p.1.element) p.0.spot p.1.spot)) e

-- ---- what members name

find_map_by : {A B : Type 0} (b : Bool) (f : A → B) (x : A) (o : Option A) (q : Option B) → option_map f o ≡ q → option_map f (cond b (Some x) o) ≡ cond b (Some (f x)) q
find_map_by true f x o q e = refl
find_map_by false f x o q e = e

find_map : {A B : Type 0} (test : B → Bool) (f : A → B) (xs : List A) → option_map f (find (λ x. test (f x)) xs) ≡ find test (map f xs)
find_map test f [] = refl
find_map test f (x ∷ xs) = find_map_by (test (f x)) f x (find (λ y. test (f y)) xs) (find test (map f xs)) (find_map test f xs)

abbrev named : Topology → Name → Option Element
named T id = find (λ e. bytes_eq (id_of e) id) (held T)

named_is : (T : Topology) (id : Name) → option_map (λ (p : Placed). p.element) (element_named T id) ≡ named T id
named_is T id = find_map (λ e. bytes_eq (id_of e) id) (λ (p : Placed). p.element) (elements_of T) ∙ ap (find (λ e. bytes_eq (id_of e) id)) (placed_held T)

abbrev is_other : (Element → Bool) → Option Element → Bool
is_other may o = unwrap_or (option_map (λ (e : Element). not (may e)) o) false

wrong_by : (may : Element → Bool) (o : Option Placed) → unwrap_or (option_map (λ (p : Placed). not (may p.element)) o) false ≡ is_other may (option_map (λ (p : Placed). p.element) o)
wrong_by may None = refl
wrong_by may (Some p) = refl

wrong_is : (T : Topology) (may : Element → Bool) (id : Name) → is_wrong T may id ≡ is_other may (named T id)
wrong_is T may id = wrong_by may (element_named T id) ∙ ap (is_other may) (named_is T id)

other_by : (may : Element → Bool) (o q : Option Element) → (o ≡ None) ⊎ (o ≡ q) → is_other may o ≡ true → is_other may q ≡ true
other_by may o q (inl e) h = let f : false ≡ true = sym (ap (is_other may) e) ∙ h in cc
other_by may o q (inr e) h = ap (is_other may) (sym e) ∙ h

-- a target that is wrong there is wrong in the whole
wrong_before : (w : Interval) (T : Topology) (may : Element → Bool) (id : Name) → duplicate_ids T ≡ [] → is_wrong (topology_during w T) may id ≡ true → is_wrong T may id ≡ true
wrong_before w T may id none h =
    let there = topology_during w T in
    wrong_is T may id
    ∙ other_by may (named there id) (named T id) (found_in_part id_of (held there) (held T) id (held_part w T) (held_once T none)) (sym (wrong_is there may id) ∙ h)

empty_filter : {A : Type 0} (p q : A → Bool) (xs : List A) → ((x : A) → p x ≡ true → q x ≡ true) → filter q xs ≡ [] → filter p xs ≡ []
empty_filter p q xs only none = part_none (filter p xs) (subst (IsPart (filter p xs)) none (part_filter p q only xs xs (part_itself xs)))

all_empty : {A B : Type 0} (f : A → List B) (xs : List A) → ((x : A) → IsAmong xs x → f x ≡ []) → flat_map f xs ≡ []
all_empty f [] each = refl
all_empty f (x ∷ xs) each = rw (each x (inl refl), all_empty f xs (λ y among. each y (inr among))) refl

targets_right : (w : Interval) (T : Topology) (spot : Spot) (r : Relation) → duplicate_ids T ≡ [] → wrong_targets T spot r ≡ [] → wrong_targets (topology_during w T) spot r ≡ []
targets_right w T spot r none right =
    let all = no_item (λ target. WrongKind spot r.member target) (filter (is_wrong T r.may_name) r.targets) right in
    ap (map (λ target. WrongKind spot r.member target))
    (empty_filter (is_wrong (topology_during w T) r.may_name) (is_wrong T r.may_name) r.targets (λ id h. wrong_before w T r.may_name id none h) all)

kinds_right : (w : Interval) (T : Topology) → duplicate_ids T ≡ [] → wrong_kinds T ≡ [] → wrong_kinds (topology_during w T) ≡ []
kinds_right w T none right =
    let there = topology_during w T in
    let of : Topology → Located → List MergeFault = λ U (e : Located). flat_map (wrong_targets U e.spot) (relations_of e.element) in
    all_empty (of there) (located there) (λ e among.
    let before : of T e ≡ [] = each_empty (of T) (located T) e right (part_among (located there) (located T) e (located_part w 1 T) among) in
    all_empty (wrong_targets there e.spot) (relations_of e.element) (λ r in_r.
    targets_right w T e.spot r none (each_empty (wrong_targets T e.spot) (relations_of e.element) r before in_r)))

merged_part : (w : Interval) (T : Topology) → merge_faults T ≡ [] → merge_faults (topology_during w T) ≡ []
merged_part w T merged =
    let parts = both_empty (duplicate_topologies T ++ duplicate_ids T) (wrong_kinds T) merged in
    let ids = both_empty (duplicate_topologies T) (duplicate_ids T) parts.0 in
    rw (topologies_once w T ids.0, ids_once_more w T ids.1, kinds_right w T ids.1 parts.1) refl

-- ---- classes

port_has_before : (w : Interval) (T : Topology) (id : Name) (test : Port → Bool) → port_has (topology_during w T) id test ≡ true → port_has T id test ≡ true
port_has_before w T id test h = part_any (λ p. bytes_eq p.id id && test p) (ports (topology_during w T)) (ports T) (ports_part w T) h

states_before : (w : Interval) (T : Topology) (p q : Name) → states_alias (topology_during w T) p q ≡ true → states_alias T p q ≡ true
states_before w T p q h =
    let there = topology_during w T in
    let parts = and_parts (port_has there p (λ a. names a.aliases q)) (port_has there q (λ b. true)) h in
    and_from (port_has T p (λ a. names a.aliases q)) (port_has T q (λ b. true)) (port_has_before w T p (λ a. names a.aliases q) parts.0) (port_has_before w T q (λ b. true) parts.1)

or_left : (a b : Bool) → a ≡ true → (a || b) ≡ true
or_left true b e = refl
or_left false b e = cc

or_right : (a b : Bool) → b ≡ true → (a || b) ≡ true
or_right true b e = refl
or_right false b e = e

or_weaker : (a b c d : Bool) → (a ≡ true → c ≡ true) → (b ≡ true → d ≡ true) → (a || b) ≡ true → (c || d) ≡ true
or_weaker a b c d left right h =
    elim (or_cases a b h) [
      | inl e ↦ or_left c d (left e)
      | inr e ↦ or_right c d (right e)
    ]

related_before : (w : Interval) (T : Topology) (p q : Name) → related (topology_during w T) p q ≡ true → related T p q ≡ true
related_before w T p q h = or_weaker _ _ (states_alias T p q) (states_alias T q p) (states_before w T p q) (states_before w T q p) h

chain_before : (w : Interval) (T : Topology) (p : Name) (chain : List Name) (q : Name) → Chain (topology_during w T) p chain q → Chain T p chain q
chain_before w T p [] q e = e
chain_before w T p (r ∷ rest) q (one, further) = (related_before w T p r one, chain_before w T r rest q further)

linked_before : (w : Interval) (T : Topology) (p q : Name) → Linked (topology_during w T) p q → Linked T p q
linked_before w T p q (chain, leads) = (chain, chain_before w T p chain q leads)

all_weaker : {A : Type 0} (P Q : A → Type 0) → ((x : A) → P x → Q x) → (xs : List A) → AllByRecursion P xs → AllByRecursion Q xs
all_weaker P Q to [] all = tt
all_weaker P Q to (x ∷ xs) all = (to x all.0, all_weaker P Q to xs all.1)

abbrev Fits : Topology → Port → Port → Type 0
Fits T p q = Linked T p.id q.id → (q.encoding ≡ p.encoding) × (type_of q ≡ type_of p)

classes_part : (w : Interval) (T : Topology) → ClassesFit T → ClassesFit (topology_during w T)
classes_part w T fit =
    let there = topology_during w T in
    part_all (λ p. AllByRecursion (Fits there p) (ports there)) (ports there) (ports T) (ports_part w T)
    (all_weaker (λ p. AllByRecursion (Fits T p) (ports T)) (λ p. AllByRecursion (Fits there p) (ports there))
    (λ p all. part_all (Fits there p) (ports there) (ports T) (ports_part w T)
    (all_weaker (Fits T p) (Fits there p) (λ q fits linked. fits (linked_before w T p.id q.id linked)) (ports T) all))
    (ports T) fit)

-- ---- links and services

not_other : (b : Bool) → b ≡ true → not b ≡ false
not_other b e = ap not e

none_differs : {A : Type 0} (same : A → A → Bool) (value : Port → A) (reference : A) → ((x y : A) → x ≡ y → same x y ≡ true) → (ps : List Port) → ((p : Port) → IsAmong ps p → value p ≡ reference)
    → list_any (has_other same value reference) ps ≡ false
none_differs same value reference is_same [] all = refl
none_differs same value reference is_same (q ∷ qs) all =
    rw (not_other (same (value q) reference) (is_same (value q) reference (all q (inl refl)))) (none_differs same value reference is_same qs (λ p among. all p (inr among)))

no_other : {A : Type 0} (same : A → A → Bool) (value : Port → A) (reference : A) → ((x y : A) → x ≡ y → same x y ≡ true) → (ps : List Port) → ((p : Port) → IsAmong ps p → value p ≡ reference)
    → find (has_other same value reference) ps ≡ None
no_other same value reference is_same ps all = any_none (has_other same value reference) ps (none_differs same value reference is_same ps all)

abbrev Decided : {A : Type 0} → (A → A → Bool) → Type 0
Decided {A} same = (x y : A) → (same x y ≡ true → x ≡ y) × (x ≡ y → same x y ≡ true)

all_reference : {A : Type 0} (same : A → A → Bool) (value : Port → A) (reference : A) → Decided same → (ps : List Port) → find (has_other same value reference) ps ≡ None → (p : Port) → IsAmong ps p → value p ≡ reference
all_reference same value reference decided ps none p among =
    (decided (value p) reference).0 (not-false (same (value p) reference) (none_found (has_other same value reference) ps p none among))

-- where none of more ports differs, none of these does
fewer_differ : {A : Type 0} (same : A → A → Bool) (value : Port → A) (stated : Option A) → Decided same → (ps qs : List Port) → ((p : Port) → IsAmong ps p → IsAmong qs p)
    → first_other same value stated qs ≡ None → first_other same value stated ps ≡ None
fewer_differ same value stated decided [] qs within none = refl
fewer_differ same value stated decided (p ∷ ps) [] within none = absurd (within p (inl refl))
fewer_differ same value (Some s) decided (p ∷ ps) (q ∷ qs) within none =
    no_other same value s (λ x y. (decided x y).1) (p ∷ ps) (λ x among. all_reference same value s decided (q ∷ qs) none x (within x among))
fewer_differ same value None decided (p ∷ ps) (q ∷ qs) within none =
    let all : (x : Port) → IsAmong (q ∷ qs) x → value x ≡ value q = all_reference same value (value q) decided (q ∷ qs) none in
    no_other same value (value p) (λ x y. (decided x y).1) (p ∷ ps) (λ x among. all x (within x among) ∙ sym (all p (within p (inl refl))))

encodings_decided : Decided bytes_eq
encodings_decided x y = bytes_eq-Decides x y

same_type_itself : (a : Option Name) → same_type a a ≡ true
same_type_itself None = refl
same_type_itself (Some x) = (bytes_eq-Decides x x).1 refl

types_decided : Decided same_type
types_decided x y = (same_type_true x y, λ e. subst (λ z. same_type x z ≡ true) e (same_type_itself x))

fewer_faults : (layer label : Name → Name → LayerFault) (id : Name) (encoding : Option Name) (labeltype : Option (Option Name)) (ps qs : List Port) → ((p : Port) → IsAmong ps p → IsAmong qs p)
    → layer_faults layer label id encoding labeltype qs ≡ [] → layer_faults layer label id encoding labeltype ps ≡ []
fewer_faults layer label id encoding labeltype ps qs within none =
    let first = no_option (λ (p : Port). layer id p.id) (first_other bytes_eq (λ (p : Port). p.encoding) encoding qs) _ none in
    let second = no_option (λ (p : Port). label id p.id) (first_other same_type type_of labeltype qs) [] first.1 in
    rw (
      fewer_differ bytes_eq (λ (p : Port). p.encoding) encoding encodings_decided ps qs within first.0,
      fewer_differ same_type type_of labeltype types_decided ps qs within second.0,
    ) refl

link_fits : (w : Interval) (T : Topology) (l : LinkE) → link_faults T l ≡ [] → link_faults (topology_during w T) l ≡ []
link_fits w T l none =
    let there = topology_during w T in
    let names_it : Port → Bool = λ (p : Port). names p.sources l.id || names p.sinks l.id in
    fewer_faults LinkLayer LinkLabelType l.id l.encoding (own_type l.labels) (filter names_it (ports there)) (filter names_it (ports T))
    (λ p among. part_among (filter names_it (ports there)) (filter names_it (ports T)) p (part_filter names_it names_it (λ q h. h) (ports there) (ports T) (ports_part w T)) among) none

encoding_before : (w : Interval) (T : Topology) (encoding : Option Name) (port : Name) → has_encoding (topology_during w T) encoding port ≡ true → has_encoding T encoding port ≡ true
encoding_before w T None port h = refl
encoding_before w T (Some encoding) port h = port_has_before w T port (λ p. bytes_eq p.encoding encoding) h

lent_or_listed : (b : Bool) (xs ys zs : List Name) → IsPart xs ys → IsPart (cond b xs zs) (cond b ys zs)
lent_or_listed true xs ys zs part = part
lent_or_listed false xs ys zs part = part_itself zs

service_part : (w : Interval) (T : Topology) (of_node : NodeE → List Name) (listed : Option (List Name)) (s : SwitchE) → IsPart (ports_of_service (topology_during w T) of_node listed s) (ports_of_service T of_node listed s)
service_part w T of_node listed s =
    let there = topology_during w T in
    lent_or_listed (is_none s.inbound && is_none s.outbound) (filter (has_encoding there s.encoding) (flat_map of_node (nodes_of there s.id))) (filter (has_encoding T s.encoding) (flat_map of_node (nodes_of T s.id))) (unwrap_or listed [])
    (part_filter (has_encoding there s.encoding) (has_encoding T s.encoding) (encoding_before w T s.encoding) (flat_map of_node (nodes_of there s.id)) (flat_map of_node (nodes_of T s.id))
    (part_flat of_node (nodes_of there s.id) (nodes_of T s.id) (nodes_part w T s.id)))

switch_fits : (w : Interval) (T : Topology) (s : SwitchE) → switch_faults T s ≡ [] → switch_faults (topology_during w T) s ≡ []
switch_fits w T s none =
    let there = topology_during w T in
    let joins : Topology → Port → Bool = λ U (p : Port). names (inbound_of U s) p.id || names (outbound_of U s) p.id in
    fewer_faults SwitchLayer SwitchLabelType s.id s.encoding None (filter (joins there) (ports there)) (filter (joins T) (ports T))
    (λ p among. part_among (filter (joins there) (ports there)) (filter (joins T) (ports T)) p
    (part_filter (joins there) (joins T)
    (λ q h. or_weaker _ _ (names (inbound_of T s) q.id) (names (outbound_of T s) q.id)
    (part_any (λ x. bytes_eq x q.id) (inbound_of there s) (inbound_of T s) (service_part w T (λ (n : NodeE). n.inbound) s.inbound s))
    (part_any (λ x. bytes_eq x q.id) (outbound_of there s) (outbound_of T s) (service_part w T (λ (n : NodeE). n.outbound) s.outbound s)) h)
    (ports there) (ports T) (ports_part w T)) among) none

relating_part : (w : Interval) (T : Topology) → relating_faults T ≡ [] → relating_faults (topology_during w T) ≡ []
relating_part w T none =
    let there = topology_during w T in
    let parts = both_empty (flat_map (link_faults T) (links T)) (flat_map (switch_faults T) (switches T)) none in
    let no_link : flat_map (link_faults there) (links there) ≡ [] = all_empty (link_faults there) (links there)
    (λ l among. link_fits w T l (each_empty (link_faults T) (links T) l parts.0 (part_among (links there) (links T) l (links_part w T) among))) in
    let no_switch : flat_map (switch_faults there) (switches there) ≡ [] = all_empty (switch_faults there) (switches there)
    (λ s among. switch_fits w T s (each_empty (switch_faults T) (switches T) s parts.1 (part_among (switches there) (switches T) s (switches_part w T) among))) in
    rw (no_link, no_switch) refl

pub accepted_during : (T : Topology) (w : Interval) → IsAccepted T → IsAccepted (topology_during w T)
accepted_during T w accepted = record {
  merged = merged_part w T accepted.merged;
  sound = record { classes = classes_part w T accepted.sound.classes; relating = relating_part w T accepted.sound.relating };
}
