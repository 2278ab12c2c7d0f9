-- All state places of a network in their order, with the spans of its ports.
use Rattle.std.proofs.Common.{◌≡◌, ◌∙◌, refl, sym, ap, subst, ℕ, zero, suc, ◌+◌, ◌<◌, ◌≤◌, ◌⊎◌, inl, inr, List, [], ◌∷◌, ◌++◌, length, Some}
use Rattle.std.specs.Prelude.{◌↔◌, slice_get}
use Rattle.std.specs.List.{Contains}
use Rattle.std.proofs.lemmas.List.{length-append}
use Rattle.std.proofs.lemmas.Option.{slice_get_within}
use Rattle.ml_base.proofs.Lists.{one_of_some}
use Rattle.nml_inventory.specs.Aliases.{IsClassNumber}
use Rattle.circuit_spec.specs.declared.hops.PlaceName.{PlaceName}
use Rattle.circuit_spec.specs.Network.{Name, Topology, Port, Linked, IsClass, ports}
use Rattle.circuit_spec.proofs.ClassLemmas.{First-unique, class_of_itself}
use Rattle.circuit_spec.proofs.Among.{first_stands}
use Rattle.kept_table.specs.Table.{KeptOfType}
use Rattle.open_places.specs.declared.span.Span.{Span}
use Rattle.open_places.specs.Places.{PlacesValue, ArePlaces, IsRising, IsStatePlace}
use Rattle.open_places.specs.Spans.{AreSpans, AreStates, IsClassSpan, IsPortSpan}
use Rattle.open_places.specs.Gathering.{AreGathered}

-- the places of all classes are the state places
pub gathered_all : (T : Topology) (table : List KeptOfType) (places : List PlaceName) → AreGathered T table (length (ports T)) places → (place : PlaceName) → Contains places place ↔ IsStatePlace T table place
gathered_all T table places are place = (to, from)
  where
    to : Contains places place → IsStatePlace T table place
    to held =
        let f = (are place).0 held in
        record {
          class = f.2.class;
          named = f.2.named;
          is_class = subst (λ (id : Name). IsClass T id f.2.class) f.2.named f.2.is_class;
          is_open = f.2.is_open;
          listed = f.2.listed;
        }

    from : IsStatePlace T table place → Contains places place
    from p =
        let stands = first_stands (λ (q : Port). Linked T place.class q.id) (ports T) p.class p.is_class in
        (are place).1 (
          stands.0,
          slice_get_within (ports T) stands.0 p.class stands.1,
          record {
            class = p.class;
            at = stands.1;
            is_class = class_of_itself T place.class p.class p.is_class;
            named = p.named;
            is_open = p.is_open;
            listed = p.listed;
          },
        )

-- each span is one of a class
pub spans_stand : (T : Topology) (places : List PlaceName) (count : ℕ) (spans : List Span) → IsRising places → AreSpans T places count spans → AreStates places spans
spans_stand T places count spans rise are = record {
  rise = rise;
  spans_are = λ number span at. (let one = are.each number span at in (one.class.id, one.of_class));
}

pub all_places : (T : Topology) (table : List KeptOfType) (v : PlacesValue) (gathered places : List PlaceName) (spans : List Span) → v ≡ record { places = places; spans = spans }
    → AreGathered T table (length (ports T)) gathered → IsRising places → ((place : PlaceName) → Contains places place ↔ Contains gathered place) → AreSpans T places (length (ports T)) spans → ArePlaces T table v
all_places T table v gathered places spans is all rise same are = subst (ArePlaces T table) (sym is) (record {
  rise = rise;
  are = λ place. (λ held. (gathered_all T table gathered all place).0 ((same place).0 held), λ p. (same place).1 ((gathered_all T table gathered all place).1 p));
  long = are.long;
  spans_are = spans_are;
})
  where
    spans_are : (number : ℕ) (p class : Port) (span : Span) → slice_get (ports T) number ≡ Some p → IsClass T p.id class → slice_get spans number ≡ Some span
        → (state : ℕ) (place : PlaceName) → slice_get places state ≡ Some place → (place.class ≡ class.id) ↔ ((span.first ≤ state) × (state < span.end))
    spans_are number p class span at is_class at_span =
        let one = are.each number span at_span in
        let port_is : one.port ≡ p = one_of_some (sym one.at ∙ at) in
        let class_is : one.class ≡ class = First-unique (λ (q : Port). Linked T p.id q.id) (ports T) one.class class (subst (λ (q : Port). IsClass T q.id one.class) port_is one.is_class) is_class in
        (subst (λ (c : Port). IsClassSpan places c.id span) class_is one.of_class).of_class

-- an item of a list that has one more
push_cases : {A : Type 0} (xs : List A) (y : A) (k : ℕ) (x : A) → slice_get (xs ++ y ∷ []) k ≡ Some x → (slice_get xs k ≡ Some x) ⊎ ((k ≡ length xs) × (x ≡ y))
push_cases [] y zero x at = inr (refl, sym (one_of_some at))
push_cases [] y (suc k) x at = absurd cc
push_cases (z ∷ zs) y zero x at = inl at
push_cases (z ∷ zs) y (suc k) x at = elim (push_cases zs y k x at) [
  | inl before ↦ inl before
  | inr last ↦ inr (ap suc last.0, last.1)
]

-- the span of one more port
pub spans_more : (T : Topology) (places : List PlaceName) (count class : ℕ) (name : Name) (old new : List Span) (span : Span) → AreSpans T places count old → (m : IsClassNumber T count class) → name ≡ m.first.id → IsClassSpan places name span → new ≡ old ++ span ∷ [] → AreSpans T places (count + 1) new
spans_more T places count class name old new span before m named of_class is = record {
  long = ap (length {A = Span}) is ∙ length-append old (span ∷ []) ∙ ap (λ (n : ℕ). n + 1) before.long;
  each = λ number found at. each number found (push_cases old span number found (ap (λ (xs : List Span). slice_get xs number) (sym is) ∙ at));
}
  where
    here : IsPortSpan T places count span
    here = record { port = m.port; class = m.first; at = m.is_port; is_class = m.is_class; of_class = subst (λ (id : Name). IsClassSpan places id span) named of_class }

    each : (number : ℕ) (found : Span) → (slice_get old number ≡ Some found) ⊎ ((number ≡ length old) × (found ≡ span)) → IsPortSpan T places number found
    each number found (inl earlier) = before.each number found earlier
    each number found (inr (last, same)) =
        subst (λ (k : ℕ). IsPortSpan T places k found) (sym (last ∙ before.long)) (subst (λ (s : Span). IsPortSpan T places count s) (sym same) here)
