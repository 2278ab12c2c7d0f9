-- Walks over kept labels are the segments of the request to the places of TO, and their outcome is that of all walks.
use Rattle.std.proofs.Common.{◌≡◌, List, [], refl, ◌∙◌, ap, subst}
use Rattle.ml_base.specs.Weight.{FullWeight, IsCappedAtMost, cap}
use Rattle.ml_base.specs.declared.weight.Weight.{Weight}
use Rattle.ml_base.specs.declared.weight.Weight.TheVariants as weight
use Rattle.circuit_spec.specs.declared.hops.Hop.{Hop}
use Rattle.circuit_spec.specs.declared.hops.PlaceName.{PlaceName}
use Rattle.circuit_spec.specs.declared.hops.Request.{Request}
use Rattle.circuit_spec.specs.declared.hops.Outcome.{Outcome}
use Rattle.circuit_spec.specs.declared.hops.Outcome.TheVariants as outcome
use Rattle.circuit_spec.specs.Network.{Name, Topology}
use Rattle.circuit_spec.specs.Steps.{IsLeastCapped, Run, Walk, weight_of}
use Rattle.circuit_spec.specs.Segments.{request, unit_in, IsWalkOverKept, IsTarget, IsSegmentOf}
use Rattle.circuit_spec.specs.Keeping.{GivesKeepers, Keeping, kept_hops}
use Rattle.circuit_spec.specs.Faults.{IsSound}
use Rattle.circuit_spec.specs.CappedOutcome.{IsCappedOutcome}
use Rattle.circuit_spec.proofs.KeptRuns.{walk_kept, same_weight}

-- Walks and segments.

abbrev Segment-to : Topology → Request → List Hop → Type 0
Segment-to T r hops = (place : PlaceName) × IsTarget T r place × IsSegmentOf T r request hops place

abbrev place : Name → PlaceName → PlaceName
place class p = record { class = class; label = p.label }

pub walk_segment : (T : Topology) (r : Request) (hops : List Hop) → IsWalkOverKept T r hops → Segment-to T r hops
walk_segment T r hops w = (
  record { class = w.ends.to.id; label = w.ends.to_label },
  record { class = w.ends.to; allowed = w.ends.to_allowed; named = refl; kept = w.to_kept },
  (
    record { class = w.ends.from.id; label = w.ends.from_label },
    record { class = w.ends.from; allowed = w.ends.from_allowed; named = refl; kept = w.from_kept },
    record { run = w.joins; kept = w.kept },
  ),
)

pub segment_walk : (T : Topology) (r : Request) (hops : List Hop) → Segment-to T r hops → IsWalkOverKept T r hops
segment_walk T r hops (to, target, (from, is_start, segment)) =
    let P : Name → Type 0 = λ n. Run T (unit_in (place n from) []) hops (unit_in to []) in
    let Q : Name → Type 0 = λ n. Run T (unit_in (place is_start.class.id from) []) hops (unit_in (place n to) []) in
    record {
      ends = record {
        from = is_start.class;
        from_label = from.label;
        to = target.class;
        to_label = to.label;
        from_allowed = is_start.allowed;
        to_allowed = target.allowed;
      };
      joins = subst Q target.named (subst P is_start.named segment.run);
      from_kept = is_start.kept;
      to_kept = target.kept;
      kept = segment.kept;
    }

-- One outcome of two kinds of lists, where each list of the one has one of the other of the same weight.

abbrev Moves : Topology → (List Hop → Type 0) → (List Hop → Type 0) → Type 0
Moves T P Q = (hops : List Hop) → P hops → (others : List Hop) × Q others × (weight_of T others ≡ weight_of T hops)

least_moves : (T : Topology) (P Q : List Hop → Type 0) (w : Weight) → Moves T P Q → Moves T Q P → IsLeastCapped T P w → IsLeastCapped T Q w
least_moves T P Q w to back l =
    let there = to l.hops l.holds in
    record {
      hops = there.0;
      holds = there.1;
      weight = ap cap there.2 ∙ l.weight;
      least = λ others q. let here = back others q in subst (λ (x : FullWeight). IsCappedAtMost w (cap x)) here.2 (l.least here.0 here.1);
    }

outcome_moves : (T : Topology) (P Q : List Hop → Type 0) (o : Outcome) → Moves T P Q → Moves T Q P → IsCappedOutcome T P o → IsCappedOutcome T Q o
outcome_moves T P Q outcome.NoWalk to back none = λ hops q. let here = back hops q in none here.0 here.1
outcome_moves T P Q outcome.Past to back l = least_moves T P Q weight.Past to back l
outcome_moves T P Q (outcome.Found c h) to back (l, within) = (least_moves T P Q (weight.Known c h) to back l, within)
outcome_moves T P Q (outcome.Long c h) to back (l, over) = (least_moves T P Q (weight.Known c h) to back l, over)

forget : (T : Topology) (r : Request) → Moves T (IsWalkOverKept T r) (Walk T r)
forget T r hops w = (hops, (w.ends, w.joins), refl)

keep : (T : Topology) (r : Request) (keeping : Keeping) → IsSound T → GivesKeepers T r keeping → Moves T (Walk T r) (IsWalkOverKept T r)
keep T r keeping sound gives hops walk = (kept_hops T keeping hops, walk_kept T r keeping sound gives hops walk, same_weight T keeping hops)

pub kept_outcome : (T : Topology) (r : Request) (keeping : Keeping) → IsSound T → GivesKeepers T r keeping → (o : Outcome) → IsCappedOutcome T (IsWalkOverKept T r) o → IsCappedOutcome T (Walk T r) o
kept_outcome T r keeping sound gives o = outcome_moves T (IsWalkOverKept T r) (Walk T r) o (forget T r) (keep T r keeping sound gives)

pub outcome_kept : (T : Topology) (r : Request) (keeping : Keeping) → IsSound T → GivesKeepers T r keeping → (o : Outcome) → IsCappedOutcome T (Walk T r) o → IsCappedOutcome T (IsWalkOverKept T r) o
outcome_kept T r keeping sound gives o = outcome_moves T (Walk T r) (IsWalkOverKept T r) o (keep T r keeping sound gives) (forget T r)
