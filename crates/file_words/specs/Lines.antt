-- The lines that are printed on reads, and on the faults of files and topologies, each with its newline.
use Rattle.std.specs.Prelude.{ℕ, List, [], ◌++◌, codes, decimal, unwrap_or, option_map, find}
use Rattle.std.specs.Str.{bytes_eq}
use Rattle.nml_elements.specs.declared.fault.ReadFault.{ReadFault}
use Rattle.nml_elements.specs.declared.fault.ReadFault.TheVariants.{Json, Shape, Label, NoMemory}
use Rattle.circuit_spec.specs.declared.faults.Spot.{Spot}
use Rattle.circuit_spec.specs.declared.faults.Member.{Member}
use Rattle.circuit_spec.specs.MemberNames.{name_of}
use Rattle.circuit_spec.specs.declared.faults.MergeFault.{MergeFault}
use Rattle.circuit_spec.specs.declared.faults.MergeFault.TheVariants as merging
use Rattle.circuit_spec.specs.declared.faults.LayerFault.{LayerFault}
use Rattle.circuit_spec.specs.declared.faults.LayerFault.TheVariants as layering
use Rattle.circuit_spec.specs.Network.{Name, Topology, id_of}
use Rattle.circuit_spec.specs.Faults.{Located, located}

-- a line on a read of the word with this number
unfoldable pub read_line : ℕ → List ℕ → List ℕ
read_line n answer = codes "read " ++ decimal n ++ codes " " ++ answer ++ codes "\n"

-- ---- faults

abbrev pub fault_end : ReadFault → List ℕ
fault_end Json = codes "0 json\n"
fault_end (Shape element rule) = decimal element ++ codes " shape " ++ decimal rule ++ codes "\n"
fault_end (Label element at) = decimal element ++ codes " label " ++ decimal at ++ codes "\n"
fault_end NoMemory = []

-- the line on a fault of the file with this number
unfoldable pub fault_line : ℕ → ReadFault → List ℕ
fault_line n fault = codes "fault " ++ decimal n ++ codes " " ++ fault_end fault

-- the beginning of a line on a fault at this place
unfoldable pub at_spot : Spot → List ℕ
at_spot spot = codes "fault " ++ decimal spot.file ++ codes " " ++ decimal spot.element ++ codes " "

unfoldable pub duplicate_topology_line : Name → ℕ → ℕ → List ℕ
duplicate_topology_line id first second =
    at_spot (record { file = second; element = 0 }) ++ codes "duplicate-topology " ++ id ++ codes " " ++ decimal first ++ codes "\n"

unfoldable pub duplicate_id_line : Name → Spot → Spot → List ℕ
duplicate_id_line id first second =
    at_spot second ++ codes "duplicate-id " ++ id ++ codes " " ++ decimal first.file ++ codes " " ++ decimal first.element ++ codes "\n"

unfoldable pub wrong_kind_line : Spot → Member → Name → List ℕ
wrong_kind_line spot member target = at_spot spot ++ codes "wrong-kind " ++ name_of member ++ codes " " ++ target ++ codes "\n"

-- the line on a fault of merging
abbrev pub merge_line : MergeFault → List ℕ
merge_line (merging.DuplicateTopology id first second) = duplicate_topology_line id first second
merge_line (merging.DuplicateId id first second) = duplicate_id_line id first second
merge_line (merging.WrongKind spot member target) = wrong_kind_line spot member target
merge_line merging.NoMemory = []

-- a line on a fault that names two elements
unfoldable pub pair_line : Spot → List ℕ → Name → Name → List ℕ
pair_line spot word first second = at_spot spot ++ word ++ codes " " ++ first ++ codes " " ++ second ++ codes "\n"

-- where the element of this id stands
abbrev pub spot_of : Topology → Name → Spot
spot_of T id = unwrap_or (option_map (λ (l : Located). l.spot) (find (λ (l : Located). bytes_eq (id_of l.element) id) (located T))) (record { file = 0; element = 0 })

-- the line on a fault of the layers, at the second port of a class, at the link or at the service
abbrev pub layer_line : Topology → LayerFault → List ℕ
layer_line T (layering.AliasEncoding first second) = pair_line (spot_of T second) (codes "alias-encoding") first second
layer_line T (layering.AliasLabelType first second) = pair_line (spot_of T second) (codes "alias-label") first second
layer_line T (layering.LinkLayer link port) = pair_line (spot_of T link) (codes "link-layer") link port
layer_line T (layering.LinkLabelType link port) = pair_line (spot_of T link) (codes "link-label") link port
layer_line T (layering.SwitchLayer service port) = pair_line (spot_of T service) (codes "switch-layer") service port
layer_line T (layering.SwitchLabelType service port) = pair_line (spot_of T service) (codes "switch-label") service port
layer_line T layering.NoMemory = []
