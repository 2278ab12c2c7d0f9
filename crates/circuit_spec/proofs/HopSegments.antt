-- Segments and entered places are those of the system of the hops over kept labels.
use Rattle.std.proofs.Common.{◌≡◌, ◌+◌, inl, inr, List, [], ◌∷◌, ◌++◌, refl, sym, ◌∙◌, ap, subst, reverse}
use Rattle.std.specs.List.{sum_by}
use Rattle.std.proofs.lemmas.List.Sums.{sum_by-cons}
use Rattle.walk_grammar.specs.System.{System, Origin, Request as Requested, Entry, IsEntered as IsSystemEntered, IsSegmentUnder, cost_of as system_cost}
use Rattle.walk_grammar.proofs.Found.{run_append}
use Rattle.circuit_spec.specs.declared.hops.Frame.{Frame}
use Rattle.circuit_spec.specs.declared.hops.Hop.{Hop}
use Rattle.circuit_spec.specs.declared.hops.HopKind.TheVariants as kind
use Rattle.circuit_spec.specs.declared.hops.PlaceName.{PlaceName}
use Rattle.circuit_spec.specs.declared.hops.Request.{Request}
use Rattle.circuit_spec.specs.declared.hops.Unit.{Unit as DataUnit}
use Rattle.circuit_spec.specs.Network.{Topology}
use Rattle.circuit_spec.specs.Steps.{Run, cost_of}
use Rattle.circuit_spec.specs.Kept.{IsOverKept, AreOverKept}
use Rattle.circuit_spec.specs.Segments.{RootPlace, request, entry, unit_in, IsSegment, IsStart, IsEntered, IsSegmentOf}
use Rattle.circuit_spec.specs.HopRules.{hop_system}
use Rattle.circuit_spec.proofs.Effects.{Effect, keeps, puts, takes, effect}
use Rattle.circuit_spec.proofs.Matching.{halves, unlike, not_kept}
use Rattle.circuit_spec.proofs.HopRuns.{place_of, system_run, hop_run}

-- the system of the hops over kept labels
abbrev pub kept_system : Topology → Request → System PlaceName Frame Hop
kept_system T r = hop_system T (IsOverKept T r)

-- the root as the system has it, and back
abbrev pub origin : RootPlace → Origin PlaceName
origin request = Requested
origin (entry x) = Entry x

abbrev pub root_of : Origin PlaceName → RootPlace
root_of Requested = request
root_of (Entry x) = entry x

adapts : (T : Topology) (x y : PlaceName) (h : Hop) (frame : Frame) (u v : DataUnit) → u.stack ≡ [] → v.stack ≡ frame ∷ [] → Effect T u h v → h.kind ≡ kind.Adapt
adapts T x y h frame u v low high (keeps k e _) = let f : frame ∷ [] ≡ [] = sym high ∙ e ∙ low in cc
adapts T x y h frame u v low high (puts g k e _) = k
adapts T x y h frame u v low high (takes g k e _) = let f : [] ≡ (frame ∷ []) ++ g ∷ [] = sym low ∙ e ∙ ap (λ s. s ++ g ∷ []) high in cc

kept_parts : (T : Topology) (r : Request) (xs ys : List Hop) → AreOverKept T r (xs ++ ys) → AreOverKept T r xs × AreOverKept T r ys
kept_parts T r [] ys k = (tt, k)
kept_parts T r (h ∷ xs) ys k = let rest = kept_parts T r xs ys k.1 in ((k.0, rest.0), rest.1)

-- Entered places.

-- a hop that puts a frame on, by its kind
pushed : (T : Topology) (r : Request) (u : DataUnit) (h : Hop) (v : DataUnit) → IsOverKept T r h → h.kind ≡ kind.Adapt → Effect T u h v → (k : Hop) × (f : Frame) × (kept_system T r).Pushes (place_of u) k f (place_of v)
pushed T r u h v kept is (keeps l e step) = not_kept h.kind kind.Adapt _ is (λ never. never) l
pushed T r u h v kept is (takes f l e step) = unlike h.kind _ is l
pushed T r u h v kept is (puts f l e step) = (h, f, (kept, step []))

entered_in : (T : Topology) (r : Request) (x : PlaceName) → IsEntered T r x → IsSystemEntered (kept_system T r) (IsStart T r) x
entered_in T r x e =
    let parts = halves T (unit_in e.start []) e.hops (e.last ∷ []) (unit_in x e.stack) e.run in
    let kept = kept_parts T r e.hops (e.last ∷ []) e.kept in
    let push = pushed T r parts.mid e.last parts.second.0 kept.1.0 e.adapts (effect T parts.mid e.last parts.second.0 parts.second.1) in
    let P : DataUnit → Type 0 = λ v. (k : Hop) × (f : Frame) × (kept_system T r).Pushes (place_of parts.mid) k f (place_of v) in (
      e.start,
      e.is_start,
      (
        e.hops,
        place_of parts.mid,
        reverse parts.mid.stack,
        system_run T (IsOverKept T r) (unit_in e.start []) e.hops parts.mid kept.0 parts.first,
        subst P (sym parts.second.2) push,
      ),
    )

entered_out : (T : Topology) (r : Request) (x : PlaceName) → IsSystemEntered (kept_system T r) (IsStart T r) x → IsEntered T r x
entered_out T r x (a, is_start, (hops, v, s, run, (k, f, push))) =
    let S = kept_system T r in
    let whole = hop_run T (IsOverKept T r) a [] (hops ++ k ∷ []) x (f ∷ s)
    (run_append S hops (k ∷ []) a [] v s x (f ∷ s) run (x, f ∷ s, inr (inl (f, push, refl)), (refl, refl))) in
    record {
      start = a;
      hops = hops;
      last = k;
      stack = reverse (f ∷ s);
      is_start = is_start;
      adapts = adapts T v x k f (unit_in v []) (unit_in x (f ∷ [])) refl refl (effect T (unit_in v []) k (unit_in x (f ∷ [])) push.1);
      run = whole.0;
      kept = whole.1;
    }

-- Segments.

pub segment_in : (T : Topology) (r : Request) (root : RootPlace) (hops : List Hop) (y : PlaceName) → IsSegmentOf T r root hops y → IsSegmentUnder (kept_system T r) (IsStart T r) (origin root) hops y
segment_in T r request hops y (x, is_start, segment) = (x, is_start, system_run T (IsOverKept T r) (unit_in x []) hops (unit_in y []) segment.kept segment.run)
segment_in T r (entry x) hops y (entered, segment) = (entered_in T r x entered, system_run T (IsOverKept T r) (unit_in x []) hops (unit_in y []) segment.kept segment.run)

segment_of : (T : Topology) (r : Request) (x : PlaceName) (hops : List Hop) (y : PlaceName) → Run T (unit_in x []) hops (unit_in y []) × AreOverKept T r hops → IsSegment T r x hops y
segment_of T r x hops y both = record { run = both.0; kept = both.1 }

pub segment_out : (T : Topology) (r : Request) (o : Origin PlaceName) (hops : List Hop) (y : PlaceName) → IsSegmentUnder (kept_system T r) (IsStart T r) o hops y → IsSegmentOf T r (root_of o) hops y
segment_out T r Requested hops y (x, is_start, run) = (x, is_start, segment_of T r x hops y (hop_run T (IsOverKept T r) x [] hops y [] run))
segment_out T r (Entry x) hops y (entered, run) = (entered_out T r x entered, segment_of T r x hops y (hop_run T (IsOverKept T r) x [] hops y [] run))

pub same_cost : (T : Topology) (r : Request) (hops : List Hop) → sum_by (cost_of T) hops ≡ system_cost (kept_system T r) hops
same_cost T r [] = refl
same_cost T r (h ∷ hops) = sum_by-cons (cost_of T) h hops ∙ ap (λ c. cost_of T h + c) (same_cost T r hops)
