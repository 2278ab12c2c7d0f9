-- A hop by the numbers of what it names.
--   IsEnd         the numbers of a port and of its class
--   AreNumbers    the numbers of a hop's element and of its two ends
--   kind_of       the kind of the hops of an element
--   relates_by    whether an element relates two ports in the way of a kind
--   Rises, held   lists of numbers that rise, and what they hold
use Rattle.std.specs.Prelude.{◌≡◌, ℕ, ◌+◌, ◌≤◌, List, [], ◌∷◌, Bool, ◌&&◌, Option, None, Some, map, slice_get}
use Rattle.ml_base.specs.declared.numbers.PortNo.{PortNo}
use Rattle.nml_elements.specs.declared.elements.Element.{Element}
use Rattle.nml_elements.specs.declared.elements.Element.TheVariants as element
use Rattle.circuit_spec.specs.declared.hops.Hop.{Hop}
use Rattle.circuit_spec.specs.declared.hops.HopKind.{HopKind}
use Rattle.circuit_spec.specs.declared.hops.HopKind.TheVariants as kind
use Rattle.circuit_spec.specs.Network.{Name, Topology, Port, IsClass, elements_of, ports}
use Rattle.nml_inventory.specs.Relations.{is_client, is_inbound, is_outbound, is_server, is_sink, is_source}
use Rattle.packet_replay.specs.declared.numbers.End.{End}
use Rattle.packet_replay.specs.declared.numbers.Numbers.{Numbers}
use Rattle.packet_replay.specs.Conditions.{IsWay, Way}

-- the numbers of the port of this id and of its class
pub record IsEnd (T : Topology) (id : Name) (class : Port) (end : End) : Type 0 where
  pub port : Port
  pub port_at : slice_get (ports T) end.port.0 ≡ Some port
  pub same_id : port.id ≡ id
  pub class_at : slice_get (ports T) end.class.0 ≡ Some class
  pub is_class : IsClass T id class

-- the numbers of the element and the two ports of a hop
pub record AreNumbers (T : Topology) (h : Hop) (way : Way) (numbers : Numbers) : Type 0 where
  pub is_way : IsWay T h way
  pub element_at : slice_get (elements_of T) numbers.element ≡ Some way.placed
  pub from : IsEnd T h.from way.from numbers.from
  pub to : IsEnd T h.to way.to numbers.to

-- the kind of the hops of an element, if it makes hops
abbrev pub kind_of : Element → Option HopKind
kind_of (element.Link l) = Some kind.Link
kind_of (element.Switching s) = Some kind.Cross
kind_of (element.Adaptation a) = Some kind.Adapt
kind_of (element.Deadaptation a) = Some kind.Deadapt
kind_of (element.Conversion c) = Some kind.Convert
kind_of (element.Node n) = None
kind_of (element.Port p) = None

-- whether the element relates the two ports as hops of this kind want it
abbrev pub relates_by : Topology → HopKind → Element → Port → Port → Bool
relates_by T kind.Link e p q = is_source e p && is_sink e q
relates_by T kind.Cross e p q = is_inbound T e p && is_outbound T e q
relates_by T kind.Adapt e p q = is_client e p && is_server e q
relates_by T kind.Deadapt e p q = is_server e p && is_client e q
relates_by T kind.Convert e p q = is_inbound T e p && is_outbound T e q

-- the numbers rise from the first on, each above the one before
abbrev pub Rises : ℕ → List ℕ → Type 0
Rises first [] = Unit {0}
Rises first (n ∷ rest) = (first ≤ n) × Rises (n + 1) rest

-- the numbers of ports
abbrev pub numbers_in : List PortNo → List ℕ
numbers_in found = map (λ (n : PortNo). n.0) found
