-- The label that a request states at an end.
use Rattle.std.proofs.Common.{◌≡◌, ℕ, inl, inr, List, Option, None, Some, refl, sym, ◌∙◌, ap, subst}
use Rattle.std.specs.Prelude.{option_map, slice_get}
use Rattle.ml_base.specs.declared.numbers.PortNo.{PortNo}
use Rattle.ml_base.specs.declared.numbers.Wish.{Wish}
use Rattle.ml_base.specs.declared.numbers.Wish.TheVariants.{Value}
use Rattle.ml_base.proofs.Lists.{one_of_some}
use Rattle.nml_elements.specs.declared.elements.Labels.{Labels}
use Rattle.circuit_spec.specs.Network.{Name, Topology, Port, IsClass, label_type, ports}
use Rattle.circuit_spec.proofs.ClassLemmas.{one_class}
use Rattle.nml_inventory.specs.Numbers.{port_number}
use Rattle.nml_inventory.specs.Relations.{AreClassLabels}
use Rattle.nml_inventory.proofs.ClassNumbers.{port_id, no_class}
use Rattle.nml_inventory.proofs.PortNumbers.{number_found}
use Rattle.kept_table.specs.declared.gathered.TypeTests.{TypeTests}
use Rattle.kept_table.specs.Gathering.{AddsSingle, AddsStated}

-- the number in an answer
pub number_none : (o : Option ℕ) → ◌≡◌ {A = Option PortNo} (option_map (λ n. record { 0 = n }) o) None → o ≡ None
number_none None e = refl
number_none (Some n) e = cc

pub number_some : (o : Option ℕ) (port : PortNo) → ◌≡◌ {A = Option PortNo} (option_map (λ n. record { 0 = n }) o) (Some port) → o ≡ Some port.0
number_some None port e = cc
number_some (Some n) port e = ap (λ (p : PortNo). Some p.0) (one_of_some e)

-- the labels of the class of an id
pub labels_of_id : (T : Topology) (id : Name) (n : ℕ) (class : Port) (labels : Labels) → port_number T id ≡ Some n → IsClass T id class → ((p c : Port) → slice_get (ports T) n ≡ Some p → IsClass T p.id c → AreClassLabels T c labels) → AreClassLabels T class labels
labels_of_id T id n class labels number is have =
    let p = number_found port_id (ports T) n id number in
    have p.0 class p.1 (subst (λ (x : Name). IsClass T x class) (sym p.2) is)

pub stated_nowhere : (T : Topology) (id : Name) (wish : Wish) (all : List TypeTests) → port_number T id ≡ None → AddsStated T id wish all all
stated_nowhere T id wish all none = inl (refl, (λ u m s. no_class T id none s.1.0 s.1.1))

pub stated_unlabelled : (T : Topology) (id : Name) (wish : Wish) (all : List TypeTests) (class : Port) → IsClass T id class → label_type class.labels ≡ None → AddsStated T id wish all all
stated_unlabelled T id wish all class is none =
    inl (refl, (λ u m s. no_type (ap (λ (p : Port). label_type p.labels) (one_class T id s.1.0 class s.1.1 is)) s.1.2))
  where
    no_type : {a : Option Name} {u : Name} → a ≡ label_type class.labels → a ≡ Some u → ⊥
    no_type e f = cc

pub stated_label : (T : Topology) (id : Name) (wish : Wish) (label : ℕ) (old new : List TypeTests) (class : Port) (t : Name) → wish ≡ Value label → IsClass T id class → label_type class.labels ≡ Some t → AddsSingle old t label new → AddsStated T id wish old new
stated_label T id wish label old new class t value is typed a =
    inr (
      t,
      label,
      a,
      (value, (class, is, typed)),
      (λ u m s.
          (one_of_some (sym s.1.2 ∙ ap (λ (p : Port). label_type p.labels) (one_class T id s.1.0 class s.1.1 is) ∙ typed), one_value (sym s.0 ∙ value))),
    )
  where
    one_value : {m n : ℕ} → Value m ≡ Value n → m ≡ n
    one_value e = cc
