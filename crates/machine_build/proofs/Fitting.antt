-- The states of a class that have a label.
use Rattle.std.proofs.Common.{◌≡◌, ℕ, ◌+◌, ◌<◌, ◌≤◌, ◌↔◌, inl, inr, List, Bool, true, false, Some, length, sym, ◌∙◌, ap, subst, arith}
use Rattle.std.specs.Prelude.{slice_get}
use Rattle.std.proofs.lemmas.Bool.{both_ways}
use Rattle.std.proofs.lemmas.Option.{slice_get_within}
use Rattle.std.proofs.lemmas.Map.Keys.{IsDistinct-from_sorted}
use Rattle.std.specs.Ordering.{eq_by_cmp}
use Rattle.std.proofs.lemmas.Cmp.{eq_by_cmp_equiv}
use Rattle.ml_base.proofs.Lists.{same_at}
use Rattle.open_places.proofs.Ordered.{place_total}
use Rattle.circuit_spec.specs.declared.hops.PlaceName.{PlaceName}
use Rattle.circuit_spec.specs.Network.{Name, Tag, Topology}
use Rattle.nml_inventory.specs.Aliases.{IsClassNumber}
use Rattle.open_places.specs.declared.span.Span.{Span}
use Rattle.open_places.specs.Places.{IsRising, PlacesValue, place_cmp}
use Rattle.open_places.specs.Spans.{IsLabelled}
use Rattle.machine_build.specs.Frames.{HasClass}
use Rattle.machine_build.specs.Ways.{AreFitting, HaveSpans, Lets}
use Rattle.machine_build.proofs.Items.{distinct_once}

same_cmp : (x : PlaceName) → eq_by_cmp place_cmp x x ≡ true
same_cmp x = (eq_by_cmp_equiv place_total).refl x

-- a place is one state
pub one_state : (places : List PlaceName) → IsRising places → (i j : ℕ) (x : PlaceName) → slice_get places i ≡ Some x → slice_get places j ≡ Some x → i ≡ j
one_state places rise i j x at_i at_j = distinct_once (eq_by_cmp place_cmp) same_cmp places (IsDistinct-from_sorted place_cmp places rise) i j x at_i at_j

pub same_place : (a b : PlaceName) → a.class ≡ b.class → a.label ≡ b.label → a ≡ b
same_place a b classes labels =
    let make : Name → Tag → PlaceName = λ x y. record { class = x; label = y } in
    ap (λ x. make x a.label) classes ∙ ap (λ y. make b.class y) labels

module _ (T : Topology) (v : PlacesValue) (spans : HaveSpans T v) (port first_port : ℕ) (number : IsClassNumber T port first_port) (span : Span) (at : slice_get v.spans port ≡ Some span) where
  pub has_class : HasClass T port number.first
  has_class = record { port = number.port; port_at = number.is_port; is_class = number.is_class }

  in_class : (state : ℕ) (place : PlaceName) → slice_get v.places state ≡ Some place → (place.class ≡ number.first.id) ↔ ((span.first ≤ state) × (state < span.end))
  in_class = spans.spans_are port number.port number.first span number.is_port number.is_class at

  -- the label stands at one state of the span
  pub fits_one : (any : Bool) (label : Tag) (state : ℕ) → any ≡ false → IsLabelled v span label state → AreFitting T v.places port any label (record { first = state; end = state + 1 })
  fits_one any label state one is = record {
    class = number.first;
    has_class = has_class;
    proper = omega arith;
    within = let l = slice_get_within v.places state is.place is.at in omega (arith, l);
    are = λ i place here. (
      (λ f. let e = here_is i place here f.0 f.1 in (omega (arith, e), omega (arith, e))),
      (λ b. let e : i ≡ state = omega (arith, b.0, b.1) in
          let same : place ≡ is.place = same_at v.places state place is.place (subst (λ k. slice_get v.places k ≡ Some place) e here) is.at in
          (ap (λ (p : PlaceName). p.class) same ∙ class_is, inr (ap (λ (p : PlaceName). p.label) same ∙ is.labelled))),
    );
  }
    where
      class_is : is.place.class ≡ number.first.id
      class_is = (in_class state is.place is.at).1 (is.first, is.end)

      here_is : (i : ℕ) (place : PlaceName) → slice_get v.places i ≡ Some place → place.class ≡ number.first.id → Lets any label place.label → i ≡ state
      here_is i place here c (inl every) = absurd (both_ways any one every)
      here_is i place here c (inr l) = one_state v.places spans.rise i state place here (subst (λ p. slice_get v.places state ≡ Some p) (sym (same_place place is.place (c ∙ sym class_is) (l ∙ sym is.labelled))) is.at)

  -- or at none
  pub fits_none : (any : Bool) (label : Tag) → any ≡ false → span.end ≤ length v.places → ((state : ℕ) → IsLabelled v span label state → ⊥) → AreFitting T v.places port any label (record { first = span.end; end = span.end })
  fits_none any label one within none = record {
    class = number.first;
    has_class = has_class;
    proper = omega arith;
    within = within;
    are = λ i place here. ((λ f. absurd (no_label i place here f.0 f.1)), (λ b. absurd (omega (arith, b.0, b.1))));
  }
    where
      no_label : (i : ℕ) (place : PlaceName) → slice_get v.places i ≡ Some place → place.class ≡ number.first.id → Lets any label place.label → ⊥
      no_label i place here c (inl every) = both_ways any one every
      no_label i place here c (inr l) = let s = (in_class i place here).0 c in none i (record { first = s.0; end = s.1; place = place; at = here; labelled = l })
