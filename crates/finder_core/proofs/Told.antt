-- What is told of a request: its outcome, with a walk where it is found.
use Rattle.std.proofs.Common.{◌≡◌, ℕ, List, [], Option, sym, subst}
use Rattle.ml_base.specs.declared.weight.Weight.{Weight}
use Rattle.circuit_spec.specs.declared.hops.Hop.{Hop}
use Rattle.circuit_spec.specs.declared.hops.Outcome.{Outcome}
use Rattle.circuit_spec.specs.declared.hops.Outcome.TheVariants.{Found, NoWalk}
use Rattle.circuit_spec.specs.declared.hops.Request.{Request}
use Rattle.circuit_spec.specs.Faults.{IsKnown}
use Rattle.circuit_spec.specs.Network.{Topology}
use Rattle.circuit_spec.specs.Steps.{IsOutcome}
use Rattle.machine_build.specs.Built.{BuiltValue}
use Rattle.machine_lift.specs.Lift.{AreHopsAt, IsMachineOf}
use Rattle.finder_core.specs.Outcomes.{IsCheapestWalk, IsTold, outcome_of}
use Rattle.finder_core.specs.Passing.{flags_of}
use Rattle.finder_core.proofs.Flagged.{none_flagged, walk_flags}
use Rattle.finder_core.proofs.Outcome.{hops_found, hops_unfound}

-- a cheapest walk that is found, with its hops and flags
pub told_found : (T : Topology) (r : Request) (b : BuiltValue) (w : Weight) (ks : List ℕ) (cost count : ℕ) (hops : List Hop) (flags : List (Option ℕ)) → IsMachineOf T r b → IsCheapestWalk T r b w ks
    → Found cost count ≡ outcome_of w → AreHopsAt T b ks hops → flags ≡ flags_of b.machine.steps ks → IsTold T r (Found cost count) hops flags
told_found T r b w ks cost count hops flags is c e are same = record {
  is_outcome = subst (IsOutcome T r) (sym e) c.outcome;
  are_hops = hops_found T r b w ks cost count hops c e are;
  are_flags = walk_flags T r b is ks hops flags are (c.walks hops are).0 same;
}

-- nothing is listed where none is found
pub told_unfound : (T : Topology) (r : Request) (o : Outcome) (hops : List Hop) (flags : List (Option ℕ)) → IsKnown T r → IsOutcome T r o → ((cost count : ℕ) → o ≡ Found cost count → ⊥)
    → hops ≡ [] → flags ≡ [] → IsTold T r o hops flags
told_unfound T r o hops flags known is other none unflagged = record {
  is_outcome = is;
  are_hops = hops_unfound T r o hops other none;
  are_flags = none_flagged T r hops flags known none unflagged;
}

pub no_walk_found : (cost count : ℕ) → NoWalk ≡ Found cost count → ⊥
no_walk_found cost count e = cc
