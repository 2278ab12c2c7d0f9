-- What the labels of a class say of its open places.
use Rattle.std.proofs.Common.{◌≡◌, ◌↔◌, ℕ, true, Option, None, Some, refl, sym}
use Rattle.nml_elements.specs.declared.elements.Labels.{Labels}
use Rattle.nml_elements.specs.declared.elements.Labels.TheVariants.{Unlabelled, Of}
use Rattle.circuit_spec.specs.Network.{Topology, Port, IsOpen}
use Rattle.nml_inventory.specs.Relations.{AreClassLabels}
use Rattle.packet_replay.specs.Carried.{admits}

pub opened : (T : Topology) (class : Port) (labels : Labels) (label : Option ℕ) → AreClassLabels T class labels → (admits labels label ≡ true) ↔ IsOpen T class label
opened T class Unlabelled None are = (λ _. sym are.typed, λ _. refl)
opened T class Unlabelled (Some label) are = are.each label
opened T class (Of labeltype set) None are = (λ t. absurd (cc), λ none. let some = are.typed in absurd (cc))
opened T class (Of labeltype set) (Some label) are = are.each label
