-- The places that a class has, of those that are listed.
use Rattle.std.proofs.Common.{◌≡◌, ◌∙◌, refl, sym, ap, subst, inl, inr, ℕ, ◌+◌, ◌<◌, List, [], ◌∷◌, ◌++◌, filter, Bool, true, false, cond, None, Some, arith}
use Rattle.std.specs.Prelude.{◌↔◌, slice_get, option_map, ◌||◌, nat_lt}
use Rattle.std.specs.List.{Contains}
use Rattle.std.proofs.lemmas.List.Elements.{Contains-append_left, Contains-append_right, Contains-append_cases}
use Rattle.std.proofs.lemmas.Bool.Decides.{nat_tests}
use Rattle.std.proofs.lemmas.Bool.{or_cases}
use Rattle.ml_base.proofs.Lists.{one_of_some, among_left, among_right, contains_among, among_contains, among_cases}
use Rattle.label_sets.specs.Ranges.{has, is_within}
use Rattle.label_atoms.specs.Pieces.{IsAmong}
use Rattle.nml_elements.specs.Labels.{is_among}
use Rattle.nml_elements.specs.declared.elements.Labels.{Labels}
use Rattle.nml_elements.specs.declared.elements.Labels.TheVariants.{Unlabelled, Of}
use Rattle.circuit_spec.specs.declared.hops.PlaceName.{PlaceName}
use Rattle.circuit_spec.specs.Network.{Name, Tag, Topology, Port, Linked, IsClass, IsOpen, label_type, ports}
use Rattle.circuit_spec.specs.Faults.{merge_faults}
use Rattle.circuit_spec.proofs.ClassLemmas.{First-unique}
use Rattle.circuit_spec.proofs.Merged.{ids_once}
use Rattle.nml_inventory.specs.Aliases.{IsClassNumber}
use Rattle.nml_inventory.specs.Relations.{AreClassLabels}
use Rattle.nml_inventory.proofs.Distinct.{same_place}
use Rattle.nml_inventory.proofs.ClassNumbers.{port_id}
use Rattle.nml_inventory.proofs.PortNumbers.{distinct_ports}
use Rattle.kept_table.specs.Table.{KeptOfType, labels_in}
use Rattle.open_places.specs.Places.{IsListed}
use Rattle.open_places.specs.Gathering.{Adds, AreGathered, IsPlaceOf, labelled, within_ranges}

-- ---- lists

-- what is put behind is added
pub adds_behind : (R : PlaceName → Type 0) (old more new : List PlaceName) → new ≡ old ++ more → ((place : PlaceName) → IsAmong more place ↔ R place) → Adds R old new
adds_behind R old more new is are place = (
  λ held. elim (Contains-append_cases old more place (subst (λ (xs : List PlaceName). Contains xs place) is held)) [
    | inl before ↦ inl before
    | inr behind ↦ inr ((are place).0 (among_contains more place behind))
  ],
  λ held. subst (λ (xs : List PlaceName). Contains xs place) (sym is) (elim held [
    | inl before ↦ Contains-append_left old more place before
    | inr here ↦ Contains-append_right old more place (contains_among more place ((are place).1 here))
  ]),
)

-- ---- places at labels

-- a place of the class, at a label of which P holds
abbrev pub IsAt : Name → (ℕ → Type 0) → PlaceName → Type 0
IsAt class P place = (label : ℕ) × (place ≡ record { class = class; label = Some label }) × P label

one_at : (class : Name) (label : ℕ) (labels : List ℕ) (place : PlaceName) → (IsAmong (labelled class labels) place ↔ IsAt class (IsAmong labels) place) → IsAmong (labelled class (label ∷ labels)) place ↔ IsAt class (IsAmong (label ∷ labels)) place
one_at class label labels place more = (to, from)
  where
    to : IsAmong (labelled class (label ∷ labels)) place → IsAt class (IsAmong (label ∷ labels)) place
    to (inl e) = (label, e, inl refl)
    to (inr later) = let f = more.0 later in (f.0, f.1, inr f.2)

    from : IsAt class (IsAmong (label ∷ labels)) place → IsAmong (labelled class (label ∷ labels)) place
    from (other, e, inl same) = inl (e ∙ ap (λ (l : ℕ). record { class = class; label = Some l }) same)
    from (other, e, inr later) = inr (more.1 (other, e, later))

at_labels : (class : Name) (labels : List ℕ) (place : PlaceName) → IsAmong (labelled class labels) place ↔ IsAt class (IsAmong labels) place
at_labels class [] place = (λ a. absurd a, λ a. absurd a.2)
at_labels class (label ∷ labels) place = one_at class label labels place (at_labels class labels place)

kept_by : (test : ℕ → Bool) (y : ℕ) (ys : List ℕ) (x : ℕ) (b : Bool) → test y ≡ b → (IsAmong (filter test ys) x ↔ ((test x ≡ true) × IsAmong ys x)) → IsAmong (cond b (y ∷ filter test ys) (filter test ys)) x ↔ ((test x ≡ true) × IsAmong (y ∷ ys) x)
kept_by test y ys x true e more = (
  λ a. elim a [ inl same ↦ (ap test same ∙ e, inl same) | inr later ↦ ((more.0 later).0, inr (more.0 later).1) ],
  λ a. elim a.1 [ inl same ↦ inl same | inr later ↦ inr (more.1 (a.0, later)) ],
)
kept_by test y ys x false e more = (
  λ a. ((more.0 a).0, inr (more.0 a).1),
  λ a. elim a.1 [ inl same ↦ (let no : true ≡ false = sym a.0 ∙ ap test same ∙ e in absurd cc) | inr later ↦ more.1 (a.0, later) ],
)

among_filter : (test : ℕ → Bool) (xs : List ℕ) (x : ℕ) → IsAmong (filter test xs) x ↔ ((test x ≡ true) × IsAmong xs x)
among_filter test [] x = (λ a. absurd a, λ a. absurd a.1)
among_filter test (y ∷ ys) x = kept_by test y ys x (test y) refl (among_filter test ys x)

or_left : (a b : Bool) → a ≡ true → (a || b) ≡ true
or_left a b e = ap (λ (c : Bool). c || b) e

or_right : (a b : Bool) → b ≡ true → (a || b) ≡ true
or_right true b e = refl
or_right false b e = e

-- at a label that is in the ranges
abbrev IsHeld : List ℕ → List (ℕ × ℕ) → ℕ → Type 0
IsHeld labels ranges label = (has ranges label ≡ true) × IsAmong labels label

one_range : (class : Name) (labels : List ℕ) (range : ℕ × ℕ) (ranges : List (ℕ × ℕ)) (place : PlaceName) → (IsAmong (within_ranges class labels ranges) place ↔ IsAt class (IsHeld labels ranges) place)
    → IsAmong (within_ranges class labels (range ∷ ranges)) place ↔ IsAt class (IsHeld labels (range ∷ ranges)) place
one_range class labels range ranges place more = (to, from)
  where
    to_here : IsAmong (labelled class (filter (is_within range) labels)) place → IsAt class (IsHeld labels (range ∷ ranges)) place
    to_here a =
        let f = (at_labels class (filter (is_within range) labels) place).0 a in
        let g = (among_filter (is_within range) labels f.0).0 f.2 in
        (f.0, f.1, (or_left (is_within range f.0) (has ranges f.0) g.0, g.1))

    to_later : IsAmong (within_ranges class labels ranges) place → IsAt class (IsHeld labels (range ∷ ranges)) place
    to_later a = let f = more.0 a in (f.0, f.1, (or_right (is_within range f.0) (has ranges f.0) f.2.0, f.2.1))

    to : IsAmong (within_ranges class labels (range ∷ ranges)) place → IsAt class (IsHeld labels (range ∷ ranges)) place
    to a = elim (among_cases (labelled class (filter (is_within range) labels)) (within_ranges class labels ranges) place a) [
      | inl first ↦ to_here first
      | inr later ↦ to_later later
    ]

    from : IsAt class (IsHeld labels (range ∷ ranges)) place → IsAmong (within_ranges class labels (range ∷ ranges)) place
    from (label, e, (held, among)) = elim (or_cases (is_within range label) (has ranges label) held) [
      | inl first ↦ among_left (labelled class (filter (is_within range) labels)) (within_ranges class labels ranges) place ((at_labels class (filter (is_within range) labels) place).1 (label, e, (among_filter (is_within range) labels label).1 (first, among)))
      | inr later ↦ among_right (labelled class (filter (is_within range) labels)) (within_ranges class labels ranges) place (more.1 (label, e, (later, among)))
    ]

pub at_ranges : (class : Name) (labels : List ℕ) (ranges : List (ℕ × ℕ)) (place : PlaceName) → IsAmong (within_ranges class labels ranges) place ↔ IsAt class (IsHeld labels ranges) place
at_ranges class labels [] place = (λ a. absurd a, λ a. (let no : true ≡ false = sym a.2.0 in absurd cc))
at_ranges class labels (range ∷ ranges) place = one_range class labels range ranges place (at_ranges class labels ranges place)

-- ---- the places of a class

-- the port of a number that is its own class number
pub record IsFirst (T : Topology) (number : ℕ) (class : Port) : Type 0 where
  pub at : slice_get (ports T) number ≡ Some class
  pub is_class : IsClass T class.id class

pub first_port : (T : Topology) (number : ℕ) (m : IsClassNumber T number number) → IsFirst T number m.first
first_port T number m =
    let same : m.port ≡ m.first = one_of_some (sym m.is_port ∙ m.is_first) in
    record { at = m.is_first; is_class = subst (λ (p : Port). IsClass T p.id m.first) same m.is_class }

pub named_id : (ps : List Port) (number : ℕ) (p : Port) (name : Name) → slice_get ps number ≡ Some p → option_map (λ (q : Port). q.id) (slice_get ps number) ≡ Some name → name ≡ p.id
named_id ps number p name at e = one_of_some (sym e ∙ ap (option_map (λ (q : Port). q.id)) at)

same_name : (place : PlaceName) (class : Name) (label : Tag) → place.class ≡ class → place.label ≡ label → place ≡ record { class = class; label = label }
same_name place class label c l = ap (λ (x : Name). record { class = x; label = place.label }) c ∙ ap (λ (t : Tag). record { class = class; label = t }) l

-- no place but the one without a label
pub only_place : (T : Topology) (table : List KeptOfType) (number : ℕ) (class : Port) (name : Name) (labels : Labels) → IsFirst T number class → name ≡ class.id → AreClassLabels T class labels → labels ≡ Unlabelled
    → (place : PlaceName) → IsAmong (record { class = name; label = None } ∷ []) place ↔ IsPlaceOf T table number place
only_place T table number class name labels first named are none place = (to, λ p. inl (from p place.label refl (subst (λ (c : Port). IsListed table c place.label) (one_of_some (sym p.at ∙ first.at)) p.listed)))
  where
    untyped : label_type class.labels ≡ None
    untyped = sym are.typed ∙ ap label_type none

    to : IsAmong (record { class = name; label = None } ∷ []) place → IsPlaceOf T table number place
    to (inl e) = subst (IsPlaceOf T table number) (sym e) (record { class = class; at = first.at; is_class = first.is_class; named = sym named; is_open = untyped; listed = tt })
    to (inr later) = absurd later

    from : (p : IsPlaceOf T table number place) (label : Tag) → place.label ≡ label → IsListed table class label → place ≡ record { class = name; label = None }
    from p None e listed = same_name place name None (sym p.named ∙ ap port_id (one_of_some (sym p.at ∙ first.at)) ∙ sym named) e
    from p (Some label) e listed = let no : Some listed.0 ≡ None = sym listed.1 ∙ untyped in absurd cc

-- the places at its labels
pub places_at : (T : Topology) (table : List KeptOfType) (number : ℕ) (class : Port) (name labeltype : Name) (set : List (ℕ × ℕ)) (labels : Labels) → IsFirst T number class → name ≡ class.id → AreClassLabels T class labels → labels ≡ Of labeltype set
    → (place : PlaceName) → IsAmong (within_ranges name (labels_in table labeltype) set) place ↔ IsPlaceOf T table number place
places_at T table number class name labeltype set labels first named are some place = (
  λ a. to ((at_ranges name (labels_in table labeltype) set place).0 a),
  λ p. (at_ranges name (labels_in table labeltype) set place).1 (from p place.label refl (subst (λ (c : Port). IsListed table c place.label) (one_of_some (sym p.at ∙ first.at)) p.listed) (subst (λ (c : Port). IsOpen T c place.label) (one_of_some (sym p.at ∙ first.at)) p.is_open)),
)
  where
    typed : label_type class.labels ≡ Some labeltype
    typed = sym are.typed ∙ ap label_type some

    to : IsAt name (IsHeld (labels_in table labeltype) set) place → IsPlaceOf T table number place
    to (label, e, (held, among)) =
        subst (IsPlaceOf T table number) (sym e)
        (record {
          class = class;
          at = first.at;
          is_class = first.is_class;
          named = sym named;
          is_open = (are.each label).0 (ap (λ (ls : Labels). is_among ls label) some ∙ held);
          listed = (labeltype, typed, among);
        })

    from : (p : IsPlaceOf T table number place) (label : Tag) → place.label ≡ label → IsListed table class label → IsOpen T class label → IsAt name (IsHeld (labels_in table labeltype) set) place
    from p None e listed open_at = let no : Some labeltype ≡ None = sym typed ∙ open_at in absurd cc
    from p (Some label) e listed open_at =
        let same : listed.0 ≡ labeltype = one_of_some (sym listed.1 ∙ typed) in (
          label,
          same_name place name (Some label) (sym p.named ∙ ap port_id (one_of_some (sym p.at ∙ first.at)) ∙ sym named) e,
          (ap (λ (ls : Labels). is_among ls label) (sym some) ∙ (are.each label).1 open_at, subst (λ (t : Name). IsAmong (labels_in table t) label) same listed.2),
        )

-- ---- all classes

-- a port that names no class has no place
pub none_of : (T : Topology) (table : List KeptOfType) (number class : ℕ) → merge_faults T ≡ [] → IsClassNumber T number class → (class ≡ number → ⊥) → (place : PlaceName) → IsPlaceOf T table number place → ⊥
none_of T table number class merged m other place p =
    let port_is : m.port ≡ p.class = one_of_some (sym m.is_port ∙ p.at) in
    let first_is : m.first ≡ p.class = First-unique (λ (q : Port). Linked T p.class.id q.id) (ports T) m.first p.class (subst (λ (q : Port). IsClass T q.id m.first) port_is m.is_class) p.is_class in
    other (same_place port_id (ports T) class number m.first p.class (distinct_ports T (ids_once T merged)) m.is_first p.at (ap port_id first_is))

pub adds_none : (R : PlaceName → Type 0) (places : List PlaceName) → ((place : PlaceName) → R place → ⊥) → Adds R places places
adds_none R places never place = (λ held. inl held, λ held. elim held [ inl before ↦ before | inr here ↦ absurd (never place here) ])

-- the places of one more port
pub gathered_more : (T : Topology) (table : List KeptOfType) (count : ℕ) (old new : List PlaceName) → AreGathered T table count old → Adds (IsPlaceOf T table count) old new → AreGathered T table (count + 1) new
gathered_more T table count old new before adds place = (to, from)
  where
    to : Contains new place → (number : ℕ) × (number < count + 1) × IsPlaceOf T table number place
    to held = elim ((adds place).0 held) [
      | inl earlier ↦ (let f = (before place).0 earlier in (f.0, omega (arith, f.1), f.2))
      | inr here ↦ (count, omega arith, here)
    ]

    from : (number : ℕ) × (number < count + 1) × IsPlaceOf T table number place → Contains new place
    from (number, below, p) = by_test (nat_lt number count) refl
      where
        by_test : (t : Bool) → nat_lt number count ≡ t → Contains new place
        by_test true e = (adds place).1 (inl ((before place).1 (number, grind (arith, nat_tests), p)))
        by_test false e =
            let same : number ≡ count = grind (arith, nat_tests) in
            (adds place).1 (inr (subst (λ (k : ℕ). IsPlaceOf T table k place) same p))

pub gathered_none : (T : Topology) (table : List KeptOfType) → AreGathered T table 0 []
gathered_none T table place = (λ held. absurd (omega (arith, held.1)), λ p. absurd (omega (arith, p.1)))
