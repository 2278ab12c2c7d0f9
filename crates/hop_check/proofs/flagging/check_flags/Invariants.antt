use Rattle.std.proofs.Common.{◌≡◌, ◌∷◌, [], List, take}
use Rattle.circuit_spec.specs.declared.hops.PlaceName.{PlaceName}
use Rattle.circuit_spec.specs.Flags.{Enters, flags_after}
use Rattle.circuit_spec.specs.Network.{IsClass, Port}
use Rattle.answer_spec.specs.Certificate.{first_place}
use Rattle.hop_check.specs.Visits.{AreVisits}
use Rattle.hop_check.proofs.flagging.check_flags.Given as goal

abbrev pub invariant-loop-at : goal.invariant-loop-at
invariant-loop-at l =
    (class : Port) (places : List PlaceName) → IsClass l.fn.inventory l.fn.answer.request.from class → Enters l.fn.inventory l.fn.answer.hops places
    → record {
      visited : AreVisits (first_place class l.fn.answer.request l.fn.answer.hops ∷ take l.at places) l.visited;
      same : take l.at l.fn.answer.flags ≡ take l.at (flags_after (first_place class l.fn.answer.request l.fn.answer.hops ∷ []) places);
    }
