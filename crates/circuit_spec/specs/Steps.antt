-- How a data unit moves: frames, hops, runs, walks and circuits.
use Rattle.std.specs.Prelude.{◌≡◌, ℕ, ◌^◌, ◌<◌, ◌≤◌, ◌⊎◌, List, [], ◌∷◌, ◌++◌, Bool, true, ◌&&◌, cond, IsTrue, Option, None, Some, is_none, unwrap_or, option_map, length, filter, sum_by}
use Rattle.std.specs.List.{filter_map, flat_map}
use Rattle.std.specs.Str.{bytes_eq}
use Rattle.ml_base.specs.Weight.{FullWeight, IsAtMost, IsCappedAtMost, cap}
use Rattle.ml_base.specs.declared.weight.Weight.{Weight}
use Rattle.ml_base.specs.declared.numbers.Wish.{Wish}
use Rattle.ml_base.specs.declared.numbers.Wish.TheVariants.{Any, Value}
use Rattle.ml_base.specs.declared.weight.Weight.TheVariants as weight
use Rattle.nml_elements.specs.declared.elements.Labels.{Labels}
use Rattle.nml_elements.specs.declared.elements.Labels.TheVariants.{Unlabelled, Of}
use Rattle.nml_elements.specs.declared.elements.NodeE.{NodeE}
use Rattle.nml_elements.specs.declared.elements.SwitchE.{SwitchE}
use Rattle.nml_elements.specs.declared.elements.Element.{Element}
use Rattle.nml_elements.specs.declared.elements.Element.TheVariants as element
use Rattle.label_sets.specs.Ranges.{has}
use Rattle.circuit_spec.specs.declared.hops.Frame.{Frame}
use Rattle.circuit_spec.specs.declared.hops.Hop.{Hop}
use Rattle.circuit_spec.specs.declared.hops.HopKind.TheVariants as kind
use Rattle.circuit_spec.specs.declared.hops.Unit.{Unit as DataUnit}
use Rattle.circuit_spec.specs.declared.hops.Request.{Request}
use Rattle.circuit_spec.specs.declared.hops.Outcome.{Outcome}
use Rattle.circuit_spec.specs.declared.hops.Outcome.TheVariants.{Found, NoWalk, Past, Long}
use Rattle.circuit_spec.specs.declared.hops.TheConstants.{HOP_LIMIT}
use Rattle.circuit_spec.specs.Network.{Name, Tag, Topology, Placed, Port, IsPlace, names, elements_of, element_named, port_has, sends_into, takes_from, serves, label_type}

-- the frame of a function and a place
abbrev pub frame_of : Name → Port → Tag → Frame
frame_of function class label = record {
  function = function;
  encoding = class.encoding;
  labeltype = label_type class.labels;
  label = label;
}

-- the Node that the element is, if it is one
abbrev pub node_at : Element → Option NodeE
node_at (element.Node n) = Some n
node_at (element.Port p) = None
node_at (element.Link l) = None
node_at (element.Switching s) = None
node_at (element.Adaptation a) = None
node_at (element.Deadaptation a) = None
node_at (element.Conversion c) = None

-- the Nodes that name the service
abbrev pub nodes_of : Topology → Name → List NodeE
nodes_of T service = filter (λ (n : NodeE). names n.services service) (filter_map (λ (p : Placed). node_at p.element) (elements_of T))

-- the port has the encoding, where one is stated
abbrev pub has_encoding : Topology → Option Name → Name → Bool
has_encoding T None port = true
has_encoding T (Some encoding) port = port_has T port (λ p. bytes_eq p.encoding encoding)

-- The ports of a SwitchingService in one direction: those that it lists. One that lists none, in neither direction, has the ports of
-- the Nodes that name it, and where it states an encoding only those of that encoding.
abbrev pub ports_of_service : Topology → (NodeE → List Name) → Option (List Name) → SwitchE → List Name
ports_of_service T of_node listed s =
    cond (is_none s.inbound && is_none s.outbound)
    (filter (has_encoding T s.encoding) (flat_map of_node (nodes_of T s.id)))
    (unwrap_or listed [])

-- its inbound ports
abbrev pub inbound_of : Topology → SwitchE → List Name
inbound_of T s = ports_of_service T (λ (n : NodeE). n.inbound) s.inbound s

-- its outbound ports
abbrev pub outbound_of : Topology → SwitchE → List Name
outbound_of T s = ports_of_service T (λ (n : NodeE). n.outbound) s.outbound s

-- a link takes a label that is in its own set, if it has one
abbrev pub IsCarried : Labels → Tag → Type 0
IsCarried Unlabelled label = Unit {0}
IsCarried (Of labeltype set) None = ⊥
IsCarried (Of labeltype set) (Some label) = IsTrue (has set label)

-- What the hop's element asks of the hop's kind, ports and labels, and what it does to the stack, whose top is last.
abbrev pub Rule : Topology → Hop → Port → Port → Element → List Frame → List Frame → Type 0
Rule T h from to (element.Link l) old new =
    (h.kind ≡ kind.Link)
    × IsTrue (sends_into T h.from l.id) × IsTrue (takes_from T h.to l.id)
    × (h.to_label ≡ h.from_label) × IsCarried l.labels h.from_label
    × (new ≡ old)
Rule T h from to (element.Switching s) old new =
    (h.kind ≡ kind.Cross)
    × IsTrue (names (inbound_of T s) h.from) × IsTrue (names (outbound_of T s) h.to)
    × (IsTrue s.swapping ⊎ (h.to_label ≡ h.from_label))
    × (new ≡ old)
Rule T h from to (element.Adaptation a) old new =
    (h.kind ≡ kind.Adapt)
    × IsTrue (names a.ports h.from) × IsTrue (serves T h.to a.id)
    × (new ≡ old ++ frame_of a.function from h.from_label ∷ [])
Rule T h from to (element.Deadaptation a) old new =
    (h.kind ≡ kind.Deadapt)
    × IsTrue (serves T h.from a.id) × IsTrue (names a.ports h.to)
    × (old ≡ new ++ frame_of a.function to h.to_label ∷ [])
Rule T h from to (element.Conversion c) old new =
    (h.kind ≡ kind.Convert)
    × IsTrue (names c.inbound h.from) × IsTrue (names c.outbound h.to)
    × (new ≡ old)
Rule T h from to (element.Node n) old new = ⊥
Rule T h from to (element.Port p) old new = ⊥

-- the unit is at the place of the class and the label
pub record IsAt (u : DataUnit) (class : Port) (label : Tag) : Type 0 where
  pub same_class : u.class ≡ class.id
  pub same_label : u.label ≡ label

-- The hop takes the unit u to the unit v.
pub record Step (T : Topology) (u : DataUnit) (h : Hop) (v : DataUnit) : Type 0 where
  pub placed : Placed
  pub from : Port
  pub to : Port
  pub element : element_named T h.element ≡ Some placed
  pub domain : h.domain ≡ placed.domain.id
  pub leaves : IsPlace T h.from h.from_label from
  pub enters : IsPlace T h.to h.to_label to
  pub before : IsAt u from h.from_label
  pub after : IsAt v to h.to_label
  pub rule : Rule T h from to placed.element u.stack v.stack

-- the hops take the unit u to the unit v, one after another
abbrev pub Run : Topology → DataUnit → List Hop → DataUnit → Type 0
Run T u [] v = v ≡ u
Run T u (h ∷ hops) v = (mid : DataUnit) × Step T u h mid × Run T mid hops v

-- Requests

-- the label, or none, is as the wish says
abbrev pub IsWished : Wish → Tag → Type 0
IsWished Any label = Unit {0}
IsWished (Value wished) label = label ≡ Some wished

-- an allowed place of an end
pub record IsAllowed (T : Topology) (port : Name) (wish : Wish) (class : Port) (label : Tag) : Type 0 where
  pub place : IsPlace T port label class
  pub wished : IsWished wish label

-- the unit at the class and the label, or none, with this stack
abbrev pub unit_at : Port → Tag → List Frame → DataUnit
unit_at class label stack = record { class = class.id; label = label; stack = stack }

-- from an allowed place of FROM to an allowed place of TO
pub record Ends (T : Topology) (r : Request) : Type 0 where
  pub from : Port
  pub from_label : Tag
  pub to : Port
  pub to_label : Tag
  pub from_allowed : IsAllowed T r.from r.from_wish from from_label
  pub to_allowed : IsAllowed T r.to r.to_wish to to_label

-- the hops run from the one end to the other, with this stack at both
abbrev pub Joins : {T : Topology} {r : Request} → Ends T r → List Hop → List Frame → Type 0
Joins {T} {r} ends hops stack = Run T (unit_at ends.from ends.from_label stack) hops (unit_at ends.to ends.to_label stack)

-- from an allowed place of FROM to one of TO, with the empty stack at both
abbrev pub Walk : Topology → Request → List Hop → Type 0
Walk T r hops = (ends : Ends T r) × Joins ends hops []

-- the same for every stack that the unit already has
abbrev pub Circuit : Topology → Request → List Hop → Type 0
Circuit T r hops = (ends : Ends T r) × ((stack : List Frame) → Joins ends hops stack)

-- Weights and the outcome

-- the cost of a link or a service
abbrev pub cost_of_element : Element → ℕ
cost_of_element (element.Link l) = l.cost
cost_of_element (element.Switching s) = s.cost
cost_of_element (element.Adaptation a) = a.cost
cost_of_element (element.Deadaptation a) = a.cost
cost_of_element (element.Conversion c) = c.cost
cost_of_element (element.Node n) = 0
cost_of_element (element.Port p) = 0

-- the cost of the element of a hop
abbrev pub cost_of : Topology → Hop → ℕ
cost_of T h = unwrap_or (option_map (λ (p : Placed). cost_of_element p.element) (element_named T h.element)) 0

-- the costs of the elements, and the number of hops
abbrev pub weight_of : Topology → List Hop → FullWeight
weight_of T hops = record { cost = sum_by (cost_of T) hops; hops = length hops }

-- there is a walk of this weight, and none of a smaller one
pub record IsLeastWeight (T : Topology) (r : Request) (w : FullWeight) : Type 0 where
  pub hops : List Hop
  pub walk : Walk T r hops
  pub weight : weight_of T hops ≡ w
  pub least : (others : List Hop) → Walk T r others → IsAtMost w (weight_of T others)

-- Some list of hops of which P holds has this capped weight, and none has a smaller one.
pub record IsLeastCapped (T : Topology) (P : List Hop → Type 0) (w : Weight) : Type 0 where
  pub hops : List Hop
  pub holds : P hops
  pub weight : cap (weight_of T hops) ≡ w
  pub least : (others : List Hop) → P others → IsCappedAtMost w (cap (weight_of T others))

-- What becomes of a request: no walk; every walk costs 2 ^ 64 or more; the least weight, within the hop limit; or the
-- least weight of the walks as they are capped, where its hops are over the limit.
abbrev pub IsOutcome : Topology → Request → Outcome → Type 0
IsOutcome T r NoWalk = (hops : List Hop) → ¬ Walk T r hops
IsOutcome T r Past =
    ((hops : List Hop) × Walk T r hops)
    × ((hops : List Hop) → Walk T r hops → 2 ^ 64 ≤ (weight_of T hops).cost)
IsOutcome T r (Found cost hops) =
    IsLeastWeight T r (record { cost = cost; hops = hops }) × (cost < 2 ^ 64) × (hops ≤ HOP_LIMIT)
IsOutcome T r (Long cost hops) =
    IsLeastCapped T (Walk T r) (weight.Known cost hops) × (HOP_LIMIT < hops)
