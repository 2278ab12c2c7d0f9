-- The labels of classes while the sets of their ports are met, in parts.
use Rattle.std.specs.Prelude.{◌≡◌, ℕ, ◌==◌, List, Bool, true, ◌&&◌, ◌||◌, not, Some, unwrap_or, option_map, length, slice_get, slice_index}
use Rattle.std.specs.List.{list_all, range_with_len}
use Rattle.nml_elements.specs.declared.elements.Labels.{Labels}
use Rattle.nml_elements.specs.declared.elements.Labels.TheVariants.{Unlabelled, Of}
use Rattle.nml_elements.specs.Labels.{is_among}
use Rattle.label_sets.specs.Ranges.{has}
use Rattle.circuit_spec.specs.Network.{Topology, Port, label_type, ports}
use Rattle.nml_inventory.specs.Aliases.{AreClassNumbers}
use Rattle.nml_inventory.specs.declared.labels.Part.{Part}

-- the labels have the label, or there is no set
abbrev pub admits : Labels → ℕ → Bool
admits Unlabelled label = true
admits (Of labeltype set) label = has set label

abbrev pub admits_at : Topology → ℕ → ℕ → Bool
admits_at T number label = unwrap_or (option_map (λ (q : Port). admits q.labels label) (slice_get (ports T) number)) true

-- each of the first ports that is of the class admits the label
abbrev pub all_admit : Topology → List ℕ → ℕ → ℕ → ℕ → Bool
all_admit T classes count class label = list_all (λ n. not (slice_index classes n == class) || admits_at T n label) (range_with_len 0 count)

-- the labels are of the port's type, and those of its own that the first ports of its class admit
pub record IsNarrowed (T : Topology) (classes : List ℕ) (count number : ℕ) (labels : Labels) : Type 0 where
  pub port : Port
  pub at : slice_get (ports T) number ≡ Some port
  pub typed : label_type labels ≡ label_type port.labels
  pub each : (label : ℕ) → is_among labels label ≡ (is_among port.labels label && all_admit T classes count number label)

-- each of the parts has the label
abbrev pub all_have : List Part → ℕ → Bool
all_have parts label = list_all (λ (p : Part). has p.set label) parts

-- the set's labels that all parts have
pub record HasMet (old : List (ℕ × ℕ)) (parts : List Part) (new : List (ℕ × ℕ)) : Type 0 where
  pub each : (label : ℕ) → has new label ≡ (has old label && all_have parts label)

-- narrower labels of the same type
pub record HasNarrowed (own : Labels) (parts : List Part) (new : Labels) : Type 0 where
  pub typed : label_type new ≡ label_type own
  pub each : (label : ℕ) → is_among new label ≡ (is_among own label && all_have parts label)

-- the new parts have in common those labels of the old that pass the test
pub record HasAdded (old : List Part) (test : ℕ → Bool) (new : List Part) : Type 0 where
  pub each : (label : ℕ) → all_have new label ≡ (all_have old label && test label)

-- of the labels of this port, all parts have those that the first ports of its class admit
pub record ArePartsOf (T : Topology) (classes : List ℕ) (count number : ℕ) (parts : List Part) : Type 0 where
  pub each : (p : Port) (label : ℕ) → slice_get (ports T) number ≡ Some p → (is_among p.labels label && all_have parts label) ≡ (is_among p.labels label && all_admit T classes count number label)

pub record AreParts (T : Topology) (classes : List ℕ) (count : ℕ) (lists : List (List Part)) : Type 0 where
  pub long : length lists ≡ length (ports T)
  pub each : (number : ℕ) (parts : List Part) → slice_get lists number ≡ Some parts → ArePartsOf T classes count number parts

pub record AreNarrowed (T : Topology) (classes : List ℕ) (count : ℕ) (labels : List Labels) : Type 0 where
  pub long : length labels ≡ length (ports T)
  pub each : (number : ℕ) (found : Labels) → slice_get labels number ≡ Some found → IsNarrowed T classes count number found

-- the labels of the classes, each at the number of its first port
pub record AreMerged (T : Topology) (labels : List Labels) : Type 0 where
  pub classes : List ℕ
  pub numbered : AreClassNumbers T classes
  pub narrowed : AreNarrowed T classes (length (ports T)) labels
