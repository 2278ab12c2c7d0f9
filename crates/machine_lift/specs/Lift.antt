-- Segments of a machine as segments of its network.
--   IsMachineOf  the machine of a network for a request
--   IsRootAt     a root of the machine is at a root of the network
--   AreHopsAt    the hops of steps
--   AreStatesOf  the states of places
--   AreLifted    the segments of the one are those of the other
--   ArePaired    each pair that the one reaches belongs to a pair of the other
use Rattle.std.specs.Prelude.{◌≡◌, ℕ, ◌<◌, List, [], ◌∷◌, length}
use Rattle.std.specs.List.{AllByRecursion, Contains}
use Rattle.ml_base.specs.declared.numbers.StateNo.{StateNo}
use Rattle.ml_base.specs.declared.numbers.Root.{Root}
use Rattle.ml_base.specs.declared.numbers.Root.TheVariants as root
use Rattle.adapt_machine.specs.Walks.{full_weight_of}
use Rattle.segment_grammar.specs.Reached.{IsReached as IsReachedState, IsSegmentUnder}
use Rattle.circuit_spec.specs.declared.hops.Hop.{Hop}
use Rattle.circuit_spec.specs.declared.hops.PlaceName.{PlaceName}
use Rattle.circuit_spec.specs.declared.hops.Request.{Request}
use Rattle.circuit_spec.specs.Network.{Topology}
use Rattle.circuit_spec.specs.Steps.{weight_of}
use Rattle.circuit_spec.specs.Segments.{RootPlace, request, entry, IsReached, IsSegmentOf, IsStart, IsTarget}
use Rattle.kept_table.specs.Table.{IsKeptTable, KeptOfType}
use Rattle.machine_build.specs.Built.{BuiltValue, IsBuilt, IsHopAt, IsState}

-- the machine is built over the kept labels of the request
pub record IsMachineOf (T : Topology) (r : Request) (b : BuiltValue) : Type 0 where
  pub table : List KeptOfType
  pub kept : IsKeptTable T r table
  pub built : IsBuilt T table r b

-- the root of the network at a root of the machine: the request at the request, a place at its state
abbrev pub IsRootAt : BuiltValue → Root → RootPlace → Type 0
IsRootAt b root.Request request = Unit {0}
IsRootAt b root.Request (entry place) = ⊥
IsRootAt b (root.Entry state) request = ⊥
IsRootAt b (root.Entry state) (entry place) = IsState b state place

-- each hop is that of its step
abbrev pub AreHopsAt : Topology → BuiltValue → List ℕ → List Hop → Type 0
AreHopsAt T b [] hops = hops ≡ []
AreHopsAt T b (k ∷ ks) [] = ⊥
AreHopsAt T b (k ∷ ks) (h ∷ hops) = IsHopAt T b k h × AreHopsAt T b ks hops

-- the states are exactly those of the places of which P holds
pub record AreStatesOf (b : BuiltValue) (P : PlaceName → Type 0) (states : List StateNo) : Type 0 where
  pub only : (state : StateNo) → Contains states state → (place : PlaceName) × IsState b state place × P place
  pub all : (place : PlaceName) → P place → (state : StateNo) × IsState b state place × Contains states state

-- the segments of the machine are those of the network, under roots and between states and places that belong together
pub record AreLifted (T : Topology) (r : Request) (b : BuiltValue) : Type 0 where
  -- the hops of a segment are a segment, of the same weight
  pub hops : (root : Root) (ks : List ℕ) (state : StateNo) → IsSegmentUnder b.machine.steps b.starts root ks state
      → (at : RootPlace) (place : PlaceName) (hops : List Hop) → IsRootAt b root at → IsState b state place → AreHopsAt T b ks hops
      → IsSegmentOf T r at hops place × (weight_of T hops ≡ full_weight_of b.machine.steps ks)
  -- and each segment is of the hops of one
  pub steps : (at : RootPlace) (hops : List Hop) (place : PlaceName) → IsSegmentOf T r at hops place
      → (root : Root) (state : StateNo) → IsRootAt b root at → IsState b state place
      → (ks : List ℕ) × IsSegmentUnder b.machine.steps b.starts root ks state × AreHopsAt T b ks hops
  -- each step of a segment is one of the machine, and has a hop
  pub within : (root : Root) (ks : List ℕ) (state : StateNo) → IsSegmentUnder b.machine.steps b.starts root ks state → AllByRecursion (λ k. k < length b.machine.steps) ks
  pub made : (root : Root) (ks : List ℕ) (state : StateNo) → IsSegmentUnder b.machine.steps b.starts root ks state → (hops : List Hop) × AreHopsAt T b ks hops
  -- the segments of the request begin at the starts, and its walks end at the targets
  pub starts : AreStatesOf b (IsStart T r) b.starts
  pub targets : AreStatesOf b (IsTarget T r) b.targets

-- each pair that is reached belongs to a pair on the other side
pub record ArePaired (T : Topology) (r : Request) (b : BuiltValue) : Type 0 where
  pub places : (root : Root) (state : StateNo) → IsReachedState b.machine.steps b.starts root state → (at : RootPlace) × (place : PlaceName) × IsRootAt b root at × IsState b state place
  pub states : (at : RootPlace) (place : PlaceName) → IsReached T r at place → (root : Root) × (state : StateNo) × IsRootAt b root at × IsState b state place
