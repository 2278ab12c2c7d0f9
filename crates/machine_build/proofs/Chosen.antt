-- The states that are allowed places of an end.
use Rattle.std.proofs.Common.{◌≡◌, ◌↔◌, ℕ, zero, suc, ◌+◌, ◌<◌, ◌≤◌, ◌⊎◌, inl, inr, List, [], ◌∷◌, ◌++◌, Option, None, Some, length, refl, sym, ◌∙◌, ap, subst, arith, Contains}
use Rattle.std.specs.Prelude.{slice_get, option_map}
use Rattle.std.specs.List.{find}
use Rattle.std.specs.Option.{option_and_then}
use Rattle.std.specs.Str.{bytes_eq}
use Rattle.std.proofs.lemmas.Bool.{both_ways}
use Rattle.std.proofs.lemmas.Option.{slice_get_within}
use Rattle.std.proofs.lemmas.Slice.Eq.{bytes_eq-Decides}
use Rattle.ml_base.specs.declared.numbers.PortNo.{PortNo}
use Rattle.ml_base.specs.declared.numbers.StateNo.{StateNo}
use Rattle.ml_base.specs.declared.numbers.Wish.{Wish}
use Rattle.ml_base.specs.declared.numbers.Wish.TheVariants.{Any, Value}
use Rattle.ml_base.proofs.Lists.{one_of_some, some_at, same_at, at_left, contains_at}
use Rattle.ml_base.proofs.Comparisons.{below_cases, same_state}
use Rattle.circuit_spec.specs.declared.hops.PlaceName.{PlaceName}
use Rattle.circuit_spec.specs.Network.{Name, Tag, Topology, Port, IsClass, IsPlace, ports}
use Rattle.circuit_spec.specs.Steps.{IsWished}
use Rattle.circuit_spec.proofs.ClassLemmas.{class_of_itself, one_class}
use Rattle.circuit_spec.proofs.Lists.{none_found}
use Rattle.circuit_spec.proofs.Types.{port_of_class}
use Rattle.nml_inventory.specs.Numbers.{port_number}
use Rattle.nml_inventory.proofs.Names.{find_number}
use Rattle.nml_inventory.proofs.PortNumbers.{number_found}
use Rattle.open_places.specs.declared.span.Span.{Span}
use Rattle.machine_build.specs.Built.{AreAllowed, IsAllowedState}
use Rattle.machine_build.specs.Ways.{AreFitting, AreOpen, AreStatesOf, Lets, is_any, label_of}
use Rattle.machine_build.proofs.Items.{at_cases, at_contains, at_right}

-- The states of a span, one by one

abbrev pub AreUpto : ℕ → ℕ → List StateNo → Type 0
AreUpto first end states = (state : StateNo) → Contains states state ↔ ((first ≤ state.0) × (state.0 < end))

pub no_states : (first : ℕ) (states : List StateNo) → states ≡ [] → AreUpto first first states
no_states first states none state = (
  (λ c. absurd (let short : length states ≡ 0 = ap length none in omega (arith, c.1, short))),
  (λ b. absurd (omega (arith, b.0, b.1))),
)

only_one : (x : StateNo) (k : ℕ) (y : StateNo) → slice_get (x ∷ []) k ≡ Some y → x ≡ y
only_one x zero y at = one_of_some at
only_one x (suc k) y at = absurd (cc)

pub state_more : (first n : ℕ) (states new : List StateNo) → first ≤ n → new ≡ states ++ record { 0 = n } ∷ [] → AreUpto first n states → AreUpto first (n + 1) new
state_more first n states new from pushed are state = ((λ c. forth (at_contains new state c)), (λ b. back b.0 (below_cases state.0 n b.1)))
  where
    last : StateNo
    last = record { 0 = n }

    forth : (k : ℕ) × (slice_get new k ≡ Some state) → (first ≤ state.0) × (state.0 < n + 1)
    forth p = elim (at_cases states (last ∷ []) p.0 state (subst (λ l. slice_get l p.0 ≡ Some state) pushed p.1)) as (λ v. (first ≤ state.0) × (state.0 < n + 1)) [
      | inl a ↦ let b = (are state).0 (contains_at states p.0 state a) in (b.0, omega (arith, b.1))
      | inr a ↦ let e : n ≡ state.0 = ap (λ (s : StateNo). s.0) (only_one last a.0 state a.2) in (omega (arith, e, from), omega (arith, e))
    ]

    back : first ≤ state.0 → (state.0 < n) ⊎ (state.0 ≡ n) → Contains new state
    back low (inl l) = let p = at_contains states state ((are state).1 (low, l)) in contains_at new p.0 state (subst (λ xs. slice_get xs p.0 ≡ Some state) (sym pushed) (at_left states (last ∷ []) p.0 state p.1))
    back low (inr e) = contains_at new (length states) state (subst (λ xs. slice_get xs (length states) ≡ Some state) (sym pushed) (at_right states (last ∷ []) 0 state (length states) (omega arith) (ap Some (same_state last state (sym e)))))

pub state_whole : (span : Span) (n : ℕ) (states : List StateNo) → span.end ≤ n → n ≤ span.end → AreUpto span.first n states → AreStatesOf span states
state_whole span n states past within are state = ((λ c. let b = (are state).0 c in (b.0, omega (arith, b.1, within))), (λ b. (are state).1 (b.0, omega (arith, b.1, past))))

-- Ports by their ids

none_of : {A B : Type 0} (f : A → B) (o : Option A) → option_map f o ≡ None → o ≡ None
none_of f None e = refl
none_of f (Some x) e = cc

number_of : (o : Option ℕ) (p : PortNo) → Some p ≡ option_map (λ n. record { 0 = n }) o → o ≡ Some p.0
number_of None p e = cc
number_of (Some n) p e = let same : p ≡ record { 0 = n } = one_of_some e in ap (λ (q : PortNo). Some q.0) (sym same)

-- what has a class has a number
pub no_class : (T : Topology) (id text : Name) (r : Option PortNo) → text ≡ id → r ≡ option_map (λ n. record { 0 = n }) (port_number T text) → r ≡ None → (class : Port) → IsClass T id class → ⊥
no_class T id text r same is_number is_none class is =
    let none : port_number T id ≡ None = ap (port_number T) (sym same) ∙ none_of _ (port_number T text) (sym is_number ∙ is_none) in
    let p = port_of_class T id class is in
    let unfound : find (λ (y : Port). bytes_eq y.id id) (ports T) ≡ None = find_number (λ (y : Port). y.id) (ports T) id ∙ ap (option_and_then (λ n. slice_get (ports T) n)) none in
    both_ways (bytes_eq p.0.id id) (none_found (λ (y : Port). bytes_eq y.id id) (ports T) p.0 unfound p.1) ((bytes_eq-Decides p.0.id id).1 p.2)

pub port_named : (T : Topology) (id text : Name) (r : Option PortNo) (number : PortNo) → text ≡ id → r ≡ option_map (λ n. record { 0 = n }) (port_number T text) → r ≡ Some number → (p : Port) × (slice_get (ports T) number.0 ≡ Some p) × (p.id ≡ id)
port_named T id text r number same is_number is_some =
    number_found (λ (p : Port). p.id) (ports T) number.0 id (ap (port_number T) (sym same) ∙ number_of (port_number T text) number (sym is_some ∙ is_number))

pub port_within : (T : Topology) (id text : Name) (r : Option PortNo) (number : PortNo) → text ≡ id → r ≡ option_map (λ n. record { 0 = n }) (port_number T text) → r ≡ Some number → number.0 < length (ports T)
port_within T id text r number same is_number is_some = let p = port_named T id text r number same is_number is_some in slice_get_within (ports T) number.0 p.0 p.1

-- Wishes

lets_wished : (wish : Wish) (label : Tag) → Lets (is_any wish) (label_of wish) label → IsWished wish label
lets_wished Any label l = tt
lets_wished (Value w) label (inl e) = absurd (cc)
lets_wished (Value w) label (inr e) = e

wished_lets : (wish : Wish) (label : Tag) → IsWished wish label → Lets (is_any wish) (label_of wish) label
wished_lets Any label w = inl refl
wished_lets (Value v) label w = inr w

pub all_allowed : (T : Topology) (places : List PlaceName) (id : Name) (wish : Wish) (number : PortNo) (span : Span) (states : List StateNo) → AreOpen T places → (p : Port) × (slice_get (ports T) number.0 ≡ Some p) × (p.id ≡ id)
    → AreFitting T places number.0 (is_any wish) (label_of wish) span → AreStatesOf span states → AreAllowed T places id wish states
all_allowed T places id wish number span states opened port fit are state = ((λ c. forth ((are state).0 c)), (λ a. (are state).1 (back a)))
  where
    class_is : IsClass T id fit.class
    class_is = subst (λ i. IsClass T i fit.class) (ap (λ (p : Port). p.id) (same_at (ports T) number.0 fit.has_class.port port.0 fit.has_class.port_at port.1) ∙ port.2) fit.has_class.is_class

    forth : (span.first ≤ state.0) × (state.0 < span.end) → IsAllowedState T places id wish state
    forth b =
        let x = some_at places state.0 (omega (arith, b.1, fit.within)) in
        let f = (fit.are state.0 x.0 x.1).1 b in
        let o = opened state.0 x.0 x.1 in
        let same : o.0 ≡ fit.class = one_class T fit.class.id o.0 fit.class (subst (λ i. IsClass T i o.0) (sym o.1 ∙ f.0) o.2.is_class) (class_of_itself T id fit.class class_is) in
        record {
          place = x.0;
          class = fit.class;
          is_state = x.1;
          named = f.0;
          allowed = record { place = record { is_class = class_is; is_open = (subst (λ (c : Port). IsPlace T o.0.id x.0.label c) same o.2).is_open }; wished = lets_wished wish x.0.label f.1 };
        }

    back : IsAllowedState T places id wish state → (span.first ≤ state.0) × (state.0 < span.end)
    back a =
        let same : a.class ≡ fit.class = one_class T id a.class fit.class a.allowed.place.is_class class_is in
        (fit.are state.0 a.place a.is_state).0 (a.named ∙ ap (λ (c : Port). c.id) same, wished_lets wish a.place.label a.allowed.wished)
