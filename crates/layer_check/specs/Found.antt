-- What a check of the layers answers.
use Rattle.std.specs.Prelude.{◌≡◌, ◌⊎◌, ℕ, List, Some, slice_get}
use Rattle.circuit_spec.specs.declared.faults.LayerFault.{LayerFault}
use Rattle.circuit_spec.specs.declared.faults.LayerFault.TheVariants.{AliasEncoding, AliasLabelType, LinkLayer, LinkLabelType, SwitchLayer, SwitchLabelType, NoMemory}
use Rattle.layer_check.specs.declared.making.FaultKind.{FaultKind}
use Rattle.layer_check.specs.declared.making.FaultKind.TheVariants as kind
use Rattle.circuit_spec.specs.Network.{Name, Topology, Port, ports}
use Rattle.circuit_spec.specs.Faults.{AliasFinds, FirstFound, IsFirstLayerFault, IsFirstOf}

-- want of memory, or what is claimed of the fault
abbrev pub UnlessNoMemory : (LayerFault → Type 0) → LayerFault → Type 0
UnlessNoMemory P (AliasEncoding first second) = P (AliasEncoding first second)
UnlessNoMemory P (AliasLabelType first second) = P (AliasLabelType first second)
UnlessNoMemory P (LinkLayer link port) = P (LinkLayer link port)
UnlessNoMemory P (LinkLabelType link port) = P (LinkLabelType link port)
UnlessNoMemory P (SwitchLayer service port) = P (SwitchLayer service port)
UnlessNoMemory P (SwitchLabelType service port) = P (SwitchLabelType service port)
UnlessNoMemory P NoMemory = Unit {0}

-- want of memory, or the first fault of the layers
abbrev pub IsLayerFault : Topology → LayerFault → Type 0
IsLayerFault T fault = UnlessNoMemory (IsFirstLayerFault T) fault

-- want of memory, or the first fault of the list
abbrev pub IsFaultIn : List LayerFault → LayerFault → Type 0
IsFaultIn faults fault = UnlessNoMemory (IsFirstOf faults) fault

-- want of memory, or the fault of the class whose first port has the number
abbrev pub IsClassFault : Topology → ℕ → LayerFault → Type 0
IsClassFault T class fault = (p : Port) → slice_get (ports T) class ≡ Some p → UnlessNoMemory (AliasFinds T p) fault

-- want of memory, or the first fault of the classes
abbrev pub IsAliasFault : Topology → LayerFault → Type 0
IsAliasFault T fault = UnlessNoMemory (λ f. FirstFound (AliasFinds T) (ports T) f) fault

-- want of memory, or the fault of these two ids
abbrev pub IsNamed : (Name → Name → LayerFault) → Name → Name → LayerFault → Type 0
IsNamed make first second fault = (fault ≡ NoMemory) ⊎ (fault ≡ make first second)

-- the fault of a kind, by the ids that it names
abbrev pub made_by : FaultKind → Name → Name → LayerFault
made_by kind.AliasEncoding first second = AliasEncoding first second
made_by kind.AliasLabelType first second = AliasLabelType first second
made_by kind.LinkLayer first second = LinkLayer first second
made_by kind.LinkLabelType first second = LinkLabelType first second
made_by kind.SwitchLayer first second = SwitchLayer first second
made_by kind.SwitchLabelType first second = SwitchLabelType first second
