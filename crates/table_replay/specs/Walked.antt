-- Walks that pass no place twice, and the rules of their hops.
use Rattle.std.specs.Prelude.{◌≡◌, ℕ, List, [], Option, None, map}
use Rattle.std.specs.List.{All}
use Rattle.std.specs.List.Sorted.{IsPermutation}
use Rattle.circuit_spec.specs.declared.hops.Hop.{Hop}
use Rattle.circuit_spec.specs.declared.hops.PlaceName.{PlaceName}
use Rattle.circuit_spec.specs.Network.{Topology}
use Rattle.circuit_spec.specs.Flags.{AreFlags}
use Rattle.circuit_spec.specs.Steps.{Run}
use Rattle.circuit_spec.specs.Segments.{unit_in}
use Rattle.device_rules.specs.declared.rules.Rule.{Rule}

-- no flag is set
abbrev pub AreUnset : List (Option ℕ) → Type 0
AreUnset flags = All (λ (flag : Option ℕ). flag ≡ None) flags

-- the hops come back to no place
abbrev pub AreUnflagged : Topology → PlaceName → List Hop → Type 0
AreUnflagged T start hops = (flags : List (Option ℕ)) × AreFlags T start hops flags × AreUnset flags

-- the rules are those of the hops, in whatever order and with whatever numbers
abbrev pub AreRulesInAnyOrder : List Hop → List Rule → Type 0
AreRulesInAnyOrder hops rules = IsPermutation hops (map (λ (rule : Rule). rule.hop) rules)

-- the hops carry a unit from the start place to the target, with the empty stack at both, and pass no place twice
pub record IsPlainWalk (T : Topology) (start target : PlaceName) (hops : List Hop) : Type 0 where
  pub run : Run T (unit_in start []) hops (unit_in target [])
  pub unflagged : AreUnflagged T start hops
