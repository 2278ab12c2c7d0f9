-- Classes and labels by the numbers that look-ups give.
use Rattle.std.proofs.Common.{◌≡◌, ◌↔◌, ℕ, true, Bool, Some, sym, ◌∙◌, ap, subst}
use Rattle.std.specs.Prelude.{slice_get, option_map}
use Rattle.ml_base.specs.declared.numbers.PortNo.{PortNo}
use Rattle.ml_base.specs.declared.numbers.Wish.TheVariants.{Value}
use Rattle.ml_base.proofs.Lists.{one_of_some}
use Rattle.nml_elements.specs.declared.elements.Labels.{Labels}
use Rattle.nml_elements.specs.Labels.{is_among}
use Rattle.circuit_spec.specs.Faults.{IsKnownEnd}
use Rattle.circuit_spec.specs.Network.{Name, Topology, Port, IsClass, IsInClassSet, ports}
use Rattle.circuit_spec.proofs.ClassLemmas.{class_of_itself, one_class}
use Rattle.nml_inventory.specs.Aliases.{IsClassNumber}
use Rattle.nml_inventory.specs.Numbers.{port_number}
use Rattle.nml_inventory.specs.Relations.{AreClassLabels}
use Rattle.packet_replay.proofs.Named.{end_found}
use Rattle.hop_check.specs.Deciding.{IsClassNo}

abbrev as_port : ℕ → PortNo
as_port n = record { 0 = n }

-- the class of the port of an id
pub class_found : (T : Topology) (text id : Name) (port class : PortNo) → text ≡ id → Some port ≡ option_map as_port (port_number T text) → IsClassNumber T port.0 class.0 → IsClassNo T id class.0
class_found T text id port class same e c =
    let f = end_found T text id port class same e c in
    record { class = f.0; at = f.1.class_at; is_class = f.1.is_class }

-- what stands at the number of a class is named as the class
pub class_named : (T : Topology) (id : Name) (n : ℕ) (name : Name) → IsClassNo T id n → option_map (λ (p : Port). p.id) (slice_get (ports T) n) ≡ Some name → (class : Port) → IsClass T id class → name ≡ class.id
class_named T id n name held is class first =
    let at : Some held.class.id ≡ Some name = sym (ap (option_map (λ (p : Port). p.id)) held.at) ∙ is in
    sym (one_of_some at) ∙ ap (λ (p : Port). p.id) (one_class T id held.class class held.is_class first)

-- the labels that an inventory has of a class
abbrev pub HasLabelsOf : Topology → ℕ → Labels → Type 0
HasLabelsOf T n labels = (p class : Port) → slice_get (ports T) n ≡ Some p → IsClass T p.id class → AreClassLabels T class labels

pub labels_of_class : (T : Topology) (id : Name) (n : ℕ) (held : IsClassNo T id n) (labels : Labels) → HasLabelsOf T n labels → AreClassLabels T held.class labels
labels_of_class T id n held labels has = has held.class held.class held.at (class_of_itself T id held.class held.is_class)

-- an end is known where the label that is stated there is among those of its class
pub label_here : (T : Topology) (id : Name) (n label : ℕ) (labels : Labels) (r : Bool) → IsClassNo T id n → HasLabelsOf T n labels → r ≡ is_among labels label → (r ≡ true) ↔ IsKnownEnd T id (Value label)
label_here T id n label labels r held has is =
    let are = labels_of_class T id n held labels has in (
      λ t. (held.class, held.is_class, (are.each label).0 (sym is ∙ t)),
      λ known.
          let same = one_class T id known.0 held.class known.1 held.is_class in
          is ∙ (are.each label).1 (subst (λ (c : Port). IsInClassSet T c label) same known.2),
    )
