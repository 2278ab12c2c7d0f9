-- The hops of a network as a system of steps over places, and the four rules that tell the segments of a request.
use Rattle.std.specs.Prelude.{◌≡◌, ◌+◌, ℕ, List, [], ◌∷◌}
use Rattle.walk_grammar.specs.System.{System}
use Rattle.circuit_spec.specs.declared.hops.Frame.{Frame}
use Rattle.circuit_spec.specs.declared.hops.Hop.{Hop}
use Rattle.circuit_spec.specs.declared.hops.PlaceName.{PlaceName}
use Rattle.circuit_spec.specs.declared.hops.Request.{Request}
use Rattle.circuit_spec.specs.Network.{Topology}
use Rattle.circuit_spec.specs.Steps.{Step, cost_of, weight_of}
use Rattle.circuit_spec.specs.Kept.{IsOverKept}
use Rattle.circuit_spec.specs.Segments.{RootPlace, request, entry, unit_in, IsStart, IsSegmentOf}

-- the hops that fit: they keep the empty stack, put a frame on it, or take the only frame off
abbrev pub hop_system : Topology → (Hop → Type 0) → System PlaceName Frame Hop
hop_system T Fits = record {
  Keeps = λ x h y. Fits h × Step T (unit_in x []) h (unit_in y []);
  Pushes = λ x h frame y. Fits h × Step T (unit_in x []) h (unit_in y (frame ∷ []));
  Pops = λ x h frame y. Fits h × Step T (unit_in x (frame ∷ [])) h (unit_in y []);
  cost = cost_of T;
}

-- The relation on roots, places, costs and numbers of hops keeps the four rules over the hops of the network that are over kept
-- labels.
pub record KeepsRules (T : Topology) (r : Request) (P : RootPlace → PlaceName → ℕ → ℕ → Type 0) : Type 0 where
  -- a start place has weight zero under the request
  pub begins : (x : PlaceName) → IsStart T r x → P request x 0 0
  -- a hop that leaves the empty stack as it is adds its cost, and one hop
  pub extends : (root : RootPlace) (x : PlaceName) (cost hops : ℕ) → P root x cost hops
      → (h : Hop) (y : PlaceName) → IsOverKept T r h → Step T (unit_in x []) h (unit_in y [])
      → P root y (cost + cost_of T h) (hops + 1)
  -- a place that an adaptation enters is a root, of weight zero
  pub opens : (root : RootPlace) (x : PlaceName) (cost hops : ℕ) → P root x cost hops
      → (h : Hop) (frame : Frame) (y : PlaceName) → IsOverKept T r h → Step T (unit_in x []) h (unit_in y (frame ∷ []))
      → P (entry y) y 0 0
  -- an adaptation, a pair of the root that it enters, and a deadaptation of the same frame add their costs and numbers of hops
  pub nests : (root : RootPlace) (x : PlaceName) (cost hops : ℕ) → P root x cost hops
      → (h : Hop) (frame : Frame) (y : PlaceName) → IsOverKept T r h → Step T (unit_in x []) h (unit_in y (frame ∷ []))
      → (z : PlaceName) (inner_cost inner_hops : ℕ) → P (entry y) z inner_cost inner_hops
      → (d : Hop) (w : PlaceName) → IsOverKept T r d → Step T (unit_in z (frame ∷ [])) d (unit_in w [])
      → P root w (cost + cost_of T h + inner_cost + cost_of T d) (hops + 1 + inner_hops + 1)

-- the pair has a segment of this cost and number of hops
pub record HasSegment (T : Topology) (r : Request) (root : RootPlace) (place : PlaceName) (cost hops : ℕ) : Type 0 where
  pub segment : List Hop
  pub is_segment : IsSegmentOf T r root segment place
  pub weight : weight_of T segment ≡ record { cost = cost; hops = hops }

-- the relation has every segment of every root, at its cost and number of hops
abbrev pub HoldsOfSegments : Topology → Request → (RootPlace → PlaceName → ℕ → ℕ → Type 0) → Type 0
HoldsOfSegments T r P =
    (root : RootPlace) (hops : List Hop) (place : PlaceName) → IsSegmentOf T r root hops place
    → P root place (weight_of T hops).cost (weight_of T hops).hops
