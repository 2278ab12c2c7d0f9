-- Lists of moves that grow.
use Rattle.std.specs.Prelude.{◌≡◌, ℕ, ◌<◌, ◌≤◌, List, [], ◌++◌, Some, slice_get}
use Rattle.circuit_spec.specs.declared.hops.Frame.{Frame}
use Rattle.circuit_spec.specs.declared.hops.PlaceName.{PlaceName}
use Rattle.circuit_spec.specs.Network.{Topology}
use Rattle.machine_build.specs.declared.ways.Move.{Move}
use Rattle.machine_build.specs.Ways.{Way, IsDone, IsWay, way_of}

-- the move at this place of the list has the way
pub record HasWay (moves : List Move) (w : Way) : Type 0 where
  pub place : ℕ
  pub move : Move
  pub at : slice_get moves place ≡ Some move
  pub is : way_of move ≡ w

-- the list goes on by one move for each way of which R holds, and by no other; S holds of each such move
pub record Adds (R : Way → Type 0) (S : Move → Type 0) (old new : List Move) : Type 0 where
  pub more : List Move
  pub whole : new ≡ old ++ more
  pub all : (w : Way) → R w → HasWay more w
  pub only : (k : ℕ) (m : Move) → slice_get more k ≡ Some m → R (way_of m)
  pub done : (k : ℕ) (m : Move) → slice_get more k ≡ Some m → S m
  pub once : (i j : ℕ) (m n : Move) → slice_get more i ≡ Some m → slice_get more j ≡ Some n → way_of m ≡ way_of n → i ≡ j

-- R holds of the way at one of the numbers
abbrev pub Between : ℕ → ℕ → (ℕ → Way → Type 0) → Way → Type 0
Between low high R w = (k : ℕ) × (low ≤ k) × (k < high) × R k w

-- the moves of all ways through the elements, each once
abbrev pub AreMoves : Topology → List PlaceName → List Frame → List Move → Type 0
AreMoves T places frames moves = Adds (IsWay T places) (IsDone T places frames) [] moves
