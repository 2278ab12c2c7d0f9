-- The ends of requests: their classes, their labels, and a place that serves both.
use Rattle.std.proofs.Common.{◌≡◌, ◌≢◌, ◌⊎◌, inl, inr, ℕ, ◌<◌, List, [], Bool, true, false, Option, None, Some, length, refl, sym, ◌∙◌, ap, subst}
use Rattle.std.specs.Prelude.{◌↔◌, IsTrue, IsSome, MatchOption, option_map, slice_get}
use Rattle.std.proofs.lemmas.Bool.{both_ways}
use Rattle.label_sets.specs.Ranges.{has}
use Rattle.ml_base.specs.declared.numbers.PortNo.{PortNo}
use Rattle.ml_base.specs.declared.numbers.Wish.{Wish}
use Rattle.ml_base.specs.declared.numbers.Wish.TheVariants.{Any, Value}
use Rattle.nml_elements.specs.declared.elements.Labels.{Labels}
use Rattle.nml_elements.specs.declared.elements.Labels.TheVariants.{Unlabelled, Of}
use Rattle.nml_elements.specs.Labels.{is_among}
use Rattle.circuit_spec.specs.declared.hops.Request.{Request}
use Rattle.circuit_spec.specs.declared.hops.Unit.{Unit as DataUnit}
use Rattle.circuit_spec.specs.Faults.{IsHere, IsKnown, IsKnownEnd}
use Rattle.circuit_spec.specs.Network.{Name, Tag, Topology, Port, IsClass, IsOpen, label_type, ports}
use Rattle.circuit_spec.specs.Steps.{IsWished, Walk, unit_at}
use Rattle.circuit_spec.proofs.ClassLemmas.{class_of_itself, one_class, same_class}
use Rattle.nml_inventory.specs.Relations.{AreClassLabels}
use Rattle.rule_replay.specs.Ends.{DoAgree, HasPlace, HasWished, IsClassAt, IsClassOf, IsNamedClass}

pub class_at : (T : Topology) (id : Name) (n : ℕ) (c : IsClassOf T id n) → IsClassAt T n c.class
class_at T id n c = record { at = c.at; own = class_of_itself T id c.class c.is_class }

-- the label of a wish is here
pub label_here : (T : Topology) (n : ℕ) (class : Port) (labels : Labels) (label : ℕ) (b : Bool) → IsClassAt T n class → ((p first : Port) → slice_get (ports T) n ≡ Some p → IsClass T p.id first → AreClassLabels T first labels) → b ≡ is_among labels label → IsTrue b ↔ IsHere T class (Value label)
label_here T n class labels label b at has e =
    let each = (has class class at.at at.own).each label in
    (λ t. each.0 (sym e ∙ t), λ here. e ∙ each.1 here)

-- a port that is known
pub known_end : (T : Topology) (id : Name) (n : ℕ) (wish : Wish) (b : Bool) → IsClassOf T id n → ((class : Port) → IsClassAt T n class → IsTrue b ↔ IsHere T class wish) → IsTrue b ↔ IsKnownEnd T id wish
known_end T id n wish b c here =
    let both = here c.class (class_at T id n c) in
    (λ t. (c.class, c.is_class, both.0 t), λ known. both.1 (subst (λ class. IsHere T class wish) (one_class T id known.0 c.class known.1 c.is_class) known.2))

pub unknown_end : (T : Topology) (id : Name) (wish : Wish) → ((class : Port) → ¬ IsClass T id class) → IsTrue false ↔ IsKnownEnd T id wish
unknown_end T id wish none = (λ t. absurd (cc), λ known. absurd (none known.0 known.1))

-- a class by its name
pub named_class : (T : Topology) (id name : Name) (n : ℕ) (b : Bool) → IsClassOf T id n → ((class : Port) → slice_get (ports T) n ≡ Some class → IsTrue b ↔ (name ≡ class.id)) → IsTrue b ↔ IsNamedClass T id name
named_class T id name n b c named =
    let both = named c.class c.at in
    (λ t. (c.class, c.is_class, both.0 t), λ is. both.1 (is.2 ∙ ap (λ (p : Port). p.id) (one_class T id is.0 c.class is.1 c.is_class)))

pub no_class : (T : Topology) (id name : Name) → ((class : Port) → ¬ IsClass T id class) → IsTrue false ↔ IsNamedClass T id name
no_class T id name none = (λ t. absurd (cc), λ is. absurd (none is.0 is.1))

-- labels with a place
pub place_there : (T : Topology) (class : Port) (labels : Labels) → AreClassLabels T class labels → HasPlace labels ↔ HasWished T class Any
place_there T class Unlabelled are = (λ h. (None, sym are.typed, tt), λ w. tt)
place_there T class (Of labeltype set) are = (λ h. (Some h.0, (are.each h.0).0 h.1, tt), back)
  where
    back : HasWished T class Any → HasPlace (Of labeltype set)
    back (None, is_open, w) = absurd (clash (label_type class.labels) is_open are.typed)
      where
        clash : (o : Option Name) → o ≡ None → Some labeltype ≡ o → ⊥
        clash o e f = cc
    back (Some label, is_open, w) = (label, (are.each label).1 is_open)

pub wished_any : (T : Topology) (n : ℕ) (class : Port) (labels : Labels) (b : Bool) → IsClassAt T n class → ((p first : Port) → slice_get (ports T) n ≡ Some p → IsClass T p.id first → AreClassLabels T first labels) → IsTrue b ↔ HasPlace labels → IsTrue b ↔ HasWished T class Any
wished_any T n class labels b at has is =
    let both = place_there T class labels (has class class at.at at.own) in
    (λ t. both.0 (is.0 t), λ w. is.1 (both.1 w))

pub wished_value : (T : Topology) (class : Port) (label : ℕ) → IsHere T class (Value label) → IsTrue true ↔ HasWished T class (Value label)
wished_value T class label here = (λ t. (Some label, here, refl), λ w. refl)

pub agree_any : (T : Topology) (class : Port) (other : Wish) (b : Bool) → IsTrue b ↔ HasWished T class other → IsTrue b ↔ DoAgree T class Any other
agree_any T class other b is = (λ t. let w = is.0 t in (w.0, w.1, tt, w.2), λ d. is.1 (d.0, d.1, d.3))

pub agree_value : (T : Topology) (class : Port) (label : ℕ) (other : Wish) (b : Bool) → IsHere T class (Value label) → IsTrue b ↔ IsWished other (Some label) → IsTrue b ↔ DoAgree T class (Value label) other
agree_value T class label other b here is = (λ t. (Some label, here, refl, is.0 t), λ d. is.1 (subst (IsWished other) d.2 d.3))

-- one open place serves both ends
module _ (T : Topology) (r : Request) (from : Port) (first : IsClass T r.from from) where
  walk_served : Walk T r [] → IsNamedClass T r.to from.id × DoAgree T from r.from_wish r.to_wish
  walk_served (ends, e) =
      let here = one_class T r.from ends.from from ends.from_allowed.place.is_class first in
      let label : ends.to_label ≡ ends.from_label = ap (λ (u : DataUnit). u.label) e in
      let class : ends.to.id ≡ ends.from.id = ap (λ (u : DataUnit). u.class) e in (
        (ends.to, ends.to_allowed.place.is_class, sym (class ∙ ap (λ (p : Port). p.id) here)),
        (ends.from_label, subst (λ c. IsOpen T c ends.from_label) here ends.from_allowed.place.is_open, ends.from_allowed.wished, subst (IsWished r.to_wish) label ends.to_allowed.wished),
      )

  served_walk : IsNamedClass T r.to from.id → DoAgree T from r.from_wish r.to_wish → Walk T r []
  served_walk (to, second, named) (label, is_open, one, other) =
      let same : to ≡ from = same_class T r.to r.from to from second first (sym named) in (
        record {
          from = from;
          from_label = label;
          to = to;
          to_label = label;
          from_allowed = record { place = record { is_class = first; is_open = is_open }; wished = one };
          to_allowed = record { place = record { is_class = second; is_open = subst (λ c. IsOpen T c label) (sym same) is_open }; wished = other };
        },
        ap (λ (p : Port). unit_at p label []) same,
      )

  here_from : IsKnown T r → IsHere T from r.from_wish
  here_from known = subst (λ c. IsHere T c r.from_wish) (one_class T r.from known.0.0 from known.0.1 first) known.0.2

  here_to : IsKnown T r → IsNamedClass T r.to from.id → IsHere T from r.to_wish
  here_to known named = subst (λ c. IsHere T c r.to_wish) (same_class T r.to r.from known.1.0 from known.1.1 first (ap (λ (p : Port). p.id) (one_class T r.to known.1.0 named.0 known.1.1 named.1) ∙ sym named.2)) known.1.2

  pub serves : (n : ℕ) (b : Bool) → slice_get (ports T) n ≡ Some from → IsKnown T r → IsNamedClass T r.to from.id → ((class : Port) → IsClassAt T n class → IsHere T class r.from_wish → IsHere T class r.to_wish → IsTrue b ↔ DoAgree T class r.from_wish r.to_wish) → IsTrue b ↔ Walk T r []
  serves n b at known named agree =
      let both = agree from (record { at = at; own = class_of_itself T r.from from first }) (here_from known) (here_to known named) in
      (λ t. served_walk named (both.0 t), λ walk. both.1 (walk_served walk).1)

  pub serves_not : (IsNamedClass T r.to from.id → ⊥) → IsTrue false ↔ Walk T r []
  serves_not apart = (λ t. absurd (cc), λ walk. absurd (apart (walk_served walk).0))

-- the name of a class by its number
pub class_named : (T : Topology) (id : Name) (n : ℕ) (c : IsClassOf T id n) (name : Name) → option_map (λ (p : Port). p.id) (slice_get (ports T) n) ≡ Some name → name ≡ c.class.id
class_named T id n c name e = let f = sym e ∙ ap (option_map (λ (p : Port). p.id)) c.at in cc
