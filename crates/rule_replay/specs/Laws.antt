-- What the laws of replaying say.
use Rattle.std.specs.Prelude.{◌≡◌, ℕ, List, [], Bool, Option, is_none}
use Rattle.std.specs.List.{list_all}
use Rattle.std.specs.List.Sorted.{IsPermutation}
use Rattle.circuit_spec.specs.declared.hops.Hop.{Hop}
use Rattle.circuit_spec.specs.declared.hops.PlaceName.{PlaceName}
use Rattle.circuit_spec.specs.declared.hops.Request.{Request}
use Rattle.circuit_spec.specs.Network.{Topology}
use Rattle.circuit_spec.specs.Steps.{Ends, Joins}
use Rattle.device_rules.specs.declared.rules.Rule.{Rule}
use Rattle.table_replay.specs.Forwarding.{ForwardsFrom, arrived}
use Rattle.answer_spec.specs.declared.answer.Answer.{Answer}
use Rattle.answer_spec.specs.Arriving.{start_of}
use Rattle.rule_replay.specs.declared.replayed.Replayed.{Replayed as WhatIsTold}
use Rattle.rule_replay.specs.declared.replayed.Replayed.TheVariants.{Carried, NotCarried}
use Rattle.rule_replay.specs.Replaying.{IsOrdered}

-- the rules carry the unit
abbrev pub Carries : WhatIsTold → Type 0
Carries (Carried n any_order) = Unit {0}
Carries (NotCarried n why) = ⊥

-- whether no flag is set
abbrev pub are_unset : List (Option ℕ) → Bool
are_unset flags = list_all (λ (flag : Option ℕ). is_none flag) flags

-- the allowed place of TO where a walk ends
abbrev pub end_of : {T : Topology} {r : Request} → Ends T r → PlaceName
end_of ends = record { class = ends.to.id; label = ends.to_label }

-- forwarding by the document's rules, in whatever order they stand, takes the unit over the hops from the walk's first place to its last
pub record IsForwardedToo (T : Topology) (bytes : List ℕ) : Type 0 where
  pub answer : Answer
  pub hops : List Hop
  pub ordered : IsOrdered T bytes answer hops
  pub ends : Ends T answer.request
  pub walk : Joins ends hops []
  pub forwards : (rules : List Rule) → IsPermutation answer.rules rules → ForwardsFrom T rules (start_of ends) (end_of ends) hops arrived
