-- Listed potentials, and which of them a request has.
use Rattle.std.specs.Prelude.{List, Contains, None}
use Rattle.std.specs.List.{All}
use Rattle.ml_base.specs.declared.weight.Weight.{Weight}
use Rattle.ml_base.specs.Weight.{IsCappedAtMost}
use Rattle.circuit_spec.specs.declared.hops.PlaceName.{PlaceName}
use Rattle.circuit_spec.specs.declared.hops.Request.{Request}
use Rattle.circuit_spec.specs.Network.{Topology}
use Rattle.circuit_spec.specs.Segments.{RootPlace, request, entry, IsReached, IsLeastOf}
use Rattle.answer_spec.specs.declared.answer.PotLine.{PotLine}
use Rattle.answer_spec.specs.declared.answer.RootName.{RootName}
use Rattle.answer_spec.specs.declared.answer.RootName.TheVariants as root
use Rattle.answer_spec.specs.Ordered.{ArePotsInOrder}

-- where the segments of a potential begin
abbrev pub root_place : RootName → RootPlace
root_place root.Request = request
root_place (root.Entry place) = entry place

-- the pair of the root and the place is listed with this weight
abbrev pub IsListed : List PotLine → RootName → PlaceName → Weight → Type 0
IsListed listed root place weight = Contains listed (record { root = root; place = place; weight = weight })

-- the pair is listed with at most this weight
abbrev pub IsListedWithin : List PotLine → RootName → PlaceName → Weight → Type 0
IsListedWithin listed root place most = (weight : Weight) × IsListed listed root place weight × IsCappedAtMost weight most

-- the potential is the least weight of the segments of its root to its place
abbrev pub IsPotential : Topology → Request → PotLine → Type 0
IsPotential T r p = IsLeastOf T r (root_place p.root) p.place p.weight

-- exactly the reached pairs, each with its least weight, in order
pub record ArePotentials (T : Topology) (r : Request) (listed : List PotLine) : Type 0 where
  pub least : All (IsPotential T r) listed
  pub reached : (root : RootName) (place : PlaceName) → IsReached T r (root_place root) place → (weight : Weight) × IsListed listed root place weight
  pub in_order : ArePotsInOrder None listed
