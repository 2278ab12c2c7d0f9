-- A unit that is carried, and what is looked at on its way.
use Rattle.std.specs.Prelude.{◌≡◌, ◌≢◌, ℕ, List, [], ◌∷◌, ◌++◌, Bool, true, false, Option, None, Some}
use Rattle.label_sets.specs.Ranges.{has}
use Rattle.nml_elements.specs.declared.elements.Labels.{Labels}
use Rattle.nml_elements.specs.declared.elements.Labels.TheVariants.{Unlabelled, Of}
use Rattle.circuit_spec.specs.declared.hops.Frame.{Frame}
use Rattle.circuit_spec.specs.declared.hops.Hop.{Hop}
use Rattle.circuit_spec.specs.declared.hops.Unit.{Unit as DataUnit}
use Rattle.circuit_spec.specs.Network.{Tag, Topology}
use Rattle.packet_replay.specs.declared.faults.StepFault.{StepFault}
use Rattle.packet_replay.specs.declared.faults.StepFault.TheVariants.{NoMemory}
use Rattle.packet_replay.specs.Conditions.{IsRefused}

-- a unit, and for how many frames its stack has room
pub record Carried : Type 0 where
  pub unit : DataUnit
  pub room : ℕ

-- whether labels have the label, or there are none of either
abbrev pub admits : Labels → Tag → Bool
admits Unlabelled None = true
admits Unlabelled (Some label) = false
admits (Of labeltype set) None = false
admits (Of labeltype set) (Some label) = has set label

-- the frame is the last of the stack, or the stack is empty
abbrev pub IsTopOf : List Frame → Option Frame → Type 0
IsTopOf stack None = stack ≡ []
IsTopOf stack (Some top) = (below : List Frame) × (stack ≡ below ++ top ∷ [])

-- the fault is the first refusal of the hop, and not want of memory
abbrev pub IsFirstRefusal : Topology → ℕ → DataUnit → Hop → StepFault → Type 0
IsFirstRefusal T room u h fault = IsRefused T room u h fault × (fault ≢ NoMemory)
