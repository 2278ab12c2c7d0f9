-- Where the hops of a walk begin and end.
use Rattle.std.specs.Prelude.{List, []}
use Rattle.circuit_spec.specs.declared.hops.Hop.{Hop}
use Rattle.circuit_spec.specs.declared.hops.PlaceName.{PlaceName}
use Rattle.circuit_spec.specs.declared.hops.Request.{Request}
use Rattle.circuit_spec.specs.Network.{Tag, Topology, Port}
use Rattle.circuit_spec.specs.Steps.{Ends, IsAllowed, Run, unit_at}
use Rattle.circuit_spec.specs.Segments.{unit_in}
use Rattle.answer_spec.specs.Certificate.{first_place}

-- the allowed place of FROM where a walk begins
abbrev pub start_of : {T : Topology} {r : Request} → Ends T r → PlaceName
start_of ends = record { class = ends.from.id; label = ends.from_label }

-- the hops run from the place where they begin to an allowed place of TO, with the empty stack at both
abbrev pub EndAllowed : Topology → Request → Port → List Hop → Type 0
EndAllowed T r class hops = (to : Port) × (label : Tag) × IsAllowed T r.to r.to_wish to label × Run T (unit_in (first_place class r hops) []) hops (unit_at to label [])
