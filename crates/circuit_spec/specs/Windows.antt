-- A topology throughout a window.
use Rattle.std.specs.Prelude.{map}
use Rattle.nml_elements.specs.Lifetimes.{Interval}
use Rattle.nml_elements.specs.During.{during}
use Rattle.circuit_spec.specs.Network.{Topology}

-- its domains, each without the entries whose elements do not exist throughout the window
abbrev pub topology_during : Interval → Topology → Topology
topology_during window T = map (during window) T
