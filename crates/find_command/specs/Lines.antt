-- The lines that are printed on a request that the topology does not know, each with its newline.
use Rattle.std.specs.Prelude.{ℕ, List, [], ◌++◌, codes, decimal}
use Rattle.circuit_spec.specs.Network.{Name}
use Rattle.finder_core.specs.declared.faults.SolveFault.{SolveFault}
use Rattle.finder_core.specs.declared.faults.SolveFault.TheVariants as solving

unfoldable pub unknown_port_line : Name → List ℕ
unknown_port_line id = codes "request unknown-port " ++ id ++ codes "\n"

unfoldable pub label_not_here_line : Name → ℕ → List ℕ
label_not_here_line id label = codes "request label-not-here " ++ id ++ codes " " ++ decimal label ++ codes "\n"

-- the line on a request that the topology does not know
abbrev pub request_line : SolveFault → List ℕ
request_line (solving.UnknownPort id) = unknown_port_line id
request_line (solving.LabelNotHere id label) = label_not_here_line id label
request_line solving.NoMemory = []
