-- A unit on its way over the hops of an answer.
use Rattle.std.specs.Prelude.{List, [], Bool, true, false}
use Rattle.circuit_spec.specs.declared.hops.Hop.{Hop}
use Rattle.circuit_spec.specs.declared.hops.Unit.{Unit as DataUnit}
use Rattle.circuit_spec.specs.Network.{Topology, Port, IsClass}
use Rattle.circuit_spec.specs.Steps.{Run, Step}
use Rattle.circuit_spec.specs.Segments.{unit_in}
use Rattle.answer_spec.specs.declared.answer.Answer.{Answer}
use Rattle.answer_spec.specs.Certificate.{first_place}

-- from the place where the hops of the answer begin, with the empty stack, these hops lead to the unit
abbrev pub Leads : Topology → Answer → List Hop → DataUnit → Type 0
Leads T a hops unit = (class : Port) → IsClass T a.request.from class → Run T (unit_in (first_place class a.request a.hops) []) hops unit

-- the hop takes the one unit to the other; or it takes it nowhere
abbrev pub TakesOrNot : Topology → DataUnit → Hop → DataUnit → Bool → Type 0
TakesOrNot T old hop new true = Step T old hop new
TakesOrNot T old hop new false = (next : DataUnit) → ¬ Step T old hop next
