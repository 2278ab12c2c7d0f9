-- Which places serve an end of a request.
use Rattle.std.specs.Prelude.{◌≡◌, []}
use Rattle.ml_base.specs.declared.numbers.Wish.{Wish}
use Rattle.circuit_spec.specs.declared.hops.Request.{Request}
use Rattle.circuit_spec.specs.declared.hops.Unit.{Unit as DataUnit}
use Rattle.circuit_spec.specs.Network.{Name, Tag, Topology, Port, IsOpen, IsPlace}
use Rattle.circuit_spec.specs.Steps.{IsAllowed, IsWished, unit_at}

-- one open place of the class is as both wishes say
pub record ServesBoth (T : Topology) (class : Port) (from to : Wish) : Type 0 where
  pub label : Tag
  pub is_open : IsOpen T class label
  pub from_wished : IsWished from label
  pub to_wished : IsWished to label

-- the unit is at an open place
pub record IsSomewhere (T : Topology) (unit : DataUnit) : Type 0 where
  pub port : Name
  pub class : Port
  pub place : IsPlace T port unit.label class
  pub named : unit.class ≡ class.id

-- the unit is at an allowed place of TO with the empty stack
pub record EndsWell (T : Topology) (r : Request) (unit : DataUnit) : Type 0 where
  pub to : Port
  pub label : Tag
  pub allowed : IsAllowed T r.to r.to_wish to label
  pub there : unit ≡ unit_at to label []
