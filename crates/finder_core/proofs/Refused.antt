-- Why requests are refused.
use Rattle.std.proofs.Common.{◌≡◌, ℕ, inl, inr, true, false, Option, None, Some, refl, sym, ◌∙◌, ap, subst}
use Rattle.std.specs.Prelude.{slice_get, option_map}
use Rattle.std.specs.List.{find}
use Rattle.std.specs.Option.{option_and_then}
use Rattle.std.specs.Str.{bytes_eq}
use Rattle.std.proofs.lemmas.Bool.{both_ways}
use Rattle.std.proofs.lemmas.Slice.Eq.{bytes_eq-Decides}
use Rattle.ml_base.specs.declared.numbers.PortNo.{PortNo}
use Rattle.ml_base.specs.declared.numbers.Wish.TheVariants.{Any, Value}
use Rattle.ml_base.proofs.Lists.{one_of_some}
use Rattle.nml_elements.specs.declared.elements.Labels.{Labels}
use Rattle.nml_elements.specs.Labels.{is_among}
use Rattle.circuit_spec.specs.declared.hops.Request.{Request}
use Rattle.circuit_spec.specs.Faults.{IsKnownEnd}
use Rattle.circuit_spec.specs.Network.{Name, Topology, Port, IsClass, ports}
use Rattle.circuit_spec.specs.Requests.{IsMissedAt, IsPort}
use Rattle.circuit_spec.proofs.Alone.{found_port}
use Rattle.circuit_spec.proofs.ClassLemmas.{class_of_itself}
use Rattle.circuit_spec.proofs.Lists.{none_found}
use Rattle.circuit_spec.proofs.OneRequestFault.{class_is_port}
use Rattle.nml_inventory.specs.Aliases.{IsClassNumber}
use Rattle.nml_inventory.specs.Numbers.{port_number}
use Rattle.nml_inventory.specs.Relations.{AreClassLabels}
use Rattle.nml_inventory.proofs.Names.{find_number}
use Rattle.nml_inventory.proofs.PortNumbers.{number_found}
use Rattle.finder_core.specs.declared.faults.SolveFault.{SolveFault}
use Rattle.finder_core.specs.declared.faults.SolveFault.TheVariants.{UnknownPort, LabelNotHere, NoMemory}
use Rattle.finder_core.specs.Refusals.{IsClassOf, IsMissed, IsRefusal, IsUnknown}

is_port : (T : Topology) (id : Name) (n : ℕ) → IsClassOf T id n → IsPort T id
is_port T id n c = class_is_port T id c.class c.is_class

-- FROM is no port
pub from_unknown : (T : Topology) (r : Request) (f : SolveFault) → IsUnknown T r.from f → IsRefusal T r f
from_unknown T r (UnknownPort id) u = inl u
from_unknown T r (LabelNotHere id label) u = absurd u
from_unknown T r NoMemory u = tt

-- TO is none
pub to_unknown : (T : Topology) (r : Request) (n : ℕ) (f : SolveFault) → IsClassOf T r.from n → IsUnknown T r.to f → IsRefusal T r f
to_unknown T r n (UnknownPort id) c u = inr (is_port T r.from n c, u.0, u.1)
to_unknown T r n (LabelNotHere id label) c u = absurd u
to_unknown T r n NoMemory c u = tt

-- FROM's label is not there
pub from_missed : (T : Topology) (r : Request) (m n : ℕ) (f : SolveFault) → IsClassOf T r.from m → IsClassOf T r.to n → IsMissed T r.from r.from_wish f → IsRefusal T r f
from_missed T r m n (UnknownPort id) c d s = absurd s
from_missed T r m n (LabelNotHere id label) c d s = (is_port T r.from m c, is_port T r.to n d, inl s)
from_missed T r m n NoMemory c d s = tt

-- TO's label is not there
pub to_missed : (T : Topology) (r : Request) (m n : ℕ) (f : SolveFault) → IsClassOf T r.from m → IsClassOf T r.to n → IsKnownEnd T r.from r.from_wish → IsMissed T r.to r.to_wish f → IsRefusal T r f
to_missed T r m n (UnknownPort id) c d known s = absurd s
to_missed T r m n (LabelNotHere id label) c d known s = (is_port T r.from m c, is_port T r.to n d, inr (known, s.0, s.1))
to_missed T r m n NoMemory c d known s = tt

-- What a look-up by an id gives

abbrev as_port : ℕ → PortNo
as_port n = record { 0 = n }

same_at : {A : Type 0} (o : Option A) (x y : A) → o ≡ Some x → o ≡ Some y → x ≡ y
same_at o x y e f = cc

pub port_numbered : (T : Topology) (text id : Name) (port : PortNo) → text ≡ id → Some port ≡ option_map as_port (port_number T text) → port_number T id ≡ Some port.0
port_numbered T text id port same e = subst (λ i. port_number T i ≡ Some port.0) same (go (port_number T text) refl e)
  where
    go : (o : Option ℕ) → port_number T text ≡ o → Some port ≡ option_map as_port o → port_number T text ≡ Some port.0
    go None at f = absurd (cc)
    go (Some n) at f = at ∙ ap Some (sym (ap (λ (p : PortNo). p.0) (one_of_some f)))

pub port_unnumbered : (T : Topology) (text id : Name) → text ≡ id → None ≡ option_map as_port (port_number T text) → port_number T id ≡ None
port_unnumbered T text id same e = subst (λ i. port_number T i ≡ None) same (go (port_number T text) refl e)
  where
    go : (o : Option ℕ) → port_number T text ≡ o → None ≡ option_map as_port o → port_number T text ≡ None
    go None at f = at
    go (Some n) at f = absurd (cc)

-- the class of the port of an id
pub class_found : (T : Topology) (id : Name) (port class : ℕ) → port_number T id ≡ Some port → IsClassNumber T port class → IsClassOf T id class
class_found T id port class at c =
    let p = number_found (λ (p : Port). p.id) (ports T) port id at in
    let same : c.port ≡ p.0 = same_at (slice_get (ports T) port) c.port p.0 c.is_port p.1 in
    record { class = c.first; at = c.is_first; is_class = subst (λ i. IsClass T i c.first) (ap (λ (x : Port). x.id) same ∙ p.2) c.is_class }

-- an id without a number is no port
pub no_port : (T : Topology) (id : Name) → port_number T id ≡ None → IsPort T id → ⊥
no_port T id none is =
    let p = found_port T id (λ q. true) is in
    let unfound : find (λ (y : Port). bytes_eq y.id id) (ports T) ≡ None = find_number (λ (y : Port). y.id) (ports T) id ∙ ap (option_and_then (λ n. slice_get (ports T) n)) none in
    both_ways (bytes_eq p.0.id id) (none_found (λ (y : Port). bytes_eq y.id id) (ports T) p.0 unfound p.1) ((bytes_eq-Decides p.0.id id).1 p.2)

-- Labels of classes

-- an end at which no label is stated
pub any_known : (T : Topology) (id : Name) (n : ℕ) → IsClassOf T id n → IsKnownEnd T id Any
any_known T id n c = (c.class, c.is_class, tt)

-- the labels that an inventory has of a class
abbrev pub HasLabelsOf : Topology → ℕ → Labels → Type 0
HasLabelsOf T n labels = (p class : Port) → slice_get (ports T) n ≡ Some p → IsClass T p.id class → AreClassLabels T class labels

labels_of_class : (T : Topology) (id : Name) (n : ℕ) (c : IsClassOf T id n) (labels : Labels) → HasLabelsOf T n labels → AreClassLabels T c.class labels
labels_of_class T id n c labels has = has c.class c.class c.at (class_of_itself T id c.class c.is_class)

-- the label is there
pub label_known : (T : Topology) (id : Name) (n label : ℕ) (labels : Labels) → IsClassOf T id n → HasLabelsOf T n labels → is_among labels label ≡ true → IsKnownEnd T id (Value label)
label_known T id n label labels c has among = (c.class, c.is_class, ((labels_of_class T id n c labels has).each label).0 among)

-- the label is not there
pub label_missed : (T : Topology) (id : Name) (n label : ℕ) (labels : Labels) → IsClassOf T id n → HasLabelsOf T n labels → is_among labels label ≡ false → IsMissedAt T id (Value label) label
label_missed T id n label labels c has none =
    (refl, (c.class, c.is_class, λ here. both_ways (is_among labels label) none (((labels_of_class T id n c labels has).each label).1 here)))
