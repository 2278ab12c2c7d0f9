-- An element that is written is read again.
use Rattle.std.proofs.Common.{◌≡◌, ℕ, List, ◌∷◌, Bool, true, false, IsTrue, codes, Option, Some, Ok, refl}
use Rattle.nml_elements.specs.declared.elements.NodeE.{NodeE}
use Rattle.nml_elements.specs.declared.elements.PortE.{PortE}
use Rattle.nml_elements.specs.declared.elements.LinkE.{LinkE}
use Rattle.nml_elements.specs.declared.elements.SwitchE.{SwitchE}
use Rattle.nml_elements.specs.declared.elements.AdaptE.{AdaptE}
use Rattle.nml_elements.specs.declared.elements.ConvE.{ConvE}
use Rattle.nml_elements.specs.declared.elements.Element.{Element}
use Rattle.nml_elements.specs.declared.elements.Element.TheVariants as elements
use Rattle.nml_elements.specs.declared.elements.Entry.{Entry}
use Rattle.nml_elements.specs.Kept.{KeepsNode, KeepsPort, KeepsLink, KeepsSwitch, KeepsAdapt, KeepsConv, Keeps, MayBeLifespan, KeepsEntry}
use Rattle.nml_elements.specs.Lifetimes.{Lifespan}
use Rattle.nml_elements.specs.Kind.{kind_of}
use Rattle.nml_elements.specs.Labels.{fits_group}
use Rattle.nml_elements.specs.ElementReading.{node_at, port_at, link_at, switch_at, adapt_at, conv_at, kind_at, living_at, known_at, element_at}
use Rattle.nml_elements.specs.ElementWriting.{Part, object_of, text_part, node_parts, port_parts, link_parts, switch_parts, adapt_parts, conv_parts, element_parts, lifetime_part, entry_data}
use Rattle.nml_elements.proofs.MemberWriting.{id_written, optional_id_written, relation_written, optional_relation_written, cost_written, swapping_written, labels_written}
use Rattle.nml_elements.proofs.LifetimeWriting.{lifetime_written}
use Rattle.nml_elements.proofs.Parts.{is_object, looked_up, part_is}

typed : (ps : List Part) (text : List ℕ) → looked_up (codes "type") ps ≡ text_part text → element_at (object_of ps) ≡ known_at (kind_of text) (object_of ps)
unfolding element_at
typed ps text here = rw (is_object ps, part_is (codes "type") ps (text_part text) here) refl

-- what is written of an element with this lifetime
abbrev living : Option Lifespan → List Part → List Part
living life ps = (codes "existsDuring", lifetime_part life) ∷ ps

abbrev AreRead : Option Lifespan → List Part → Element → Type 0
AreRead life ps element = element_at (object_of (living life ps)) ≡ Ok (Some (record { element = element; lifetime = life }))

abbrev IsReadBack : Option Lifespan → Element → Type 0
IsReadBack life element = AreRead life (element_parts element) element

node_read : (life : Option Lifespan) → MayBeLifespan life → (node : NodeE) → KeepsNode node → IsReadBack life (elements.Node node)
unfolding kind_at node_at living_at
node_read life is node k =
    let ps = living life (node_parts node) in
    rw (
      typed ps (codes "Node") refl,
      id_written 8 (codes "id") ps node.id refl k.id,
      relation_written (codes "hasInboundPort") ps node.inbound refl k.inbound,
      relation_written (codes "hasOutboundPort") ps node.outbound refl k.outbound,
      relation_written (codes "hasService") ps node.services refl k.services,
      lifetime_written ps life refl is,
    ) refl

abbrev regrouped : (group : Bool) (port : PortE) → IsTrue (fits_group group port.labels) → PortE
regrouped group port fits = record {
  id = port.id;
  group = group;
  encoding = port.encoding;
  labels = port.labels;
  sources = port.sources;
  sinks = port.sinks;
  services = port.services;
  aliases = port.aliases;
  labelled = fits;
}

port_by : (group : Bool) (port : PortE) (fits : IsTrue (fits_group group port.labels)) → KeepsPort port
    → (life : Option Lifespan) → MayBeLifespan life → AreRead life (port_parts group port) (elements.Port (regrouped group port fits))
unfolding kind_at port_at living_at
port_by true port fits k life is =
    let ps = living life (port_parts true port) in
    rw (
      typed ps (codes "PortGroup") refl,
      id_written 8 (codes "id") ps port.id refl k.id,
      optional_id_written 4 (codes "encoding") ps port.encoding refl k.encoding,
      labels_written true port.labels fits k.labels ps refl,
      relation_written (codes "isSource") ps port.sources refl k.sources,
      relation_written (codes "isSink") ps port.sinks refl k.sinks,
      relation_written (codes "hasService") ps port.services refl k.services,
      relation_written (codes "isAlias") ps port.aliases refl k.aliases,
      lifetime_written ps life refl is,
    ) refl
port_by false port fits k life is =
    let ps = living life (port_parts false port) in
    rw (
      typed ps (codes "Port") refl,
      id_written 8 (codes "id") ps port.id refl k.id,
      optional_id_written 4 (codes "encoding") ps port.encoding refl k.encoding,
      labels_written false port.labels fits k.labels ps refl,
      relation_written (codes "isSource") ps port.sources refl k.sources,
      relation_written (codes "isSink") ps port.sinks refl k.sinks,
      relation_written (codes "hasService") ps port.services refl k.services,
      relation_written (codes "isAlias") ps port.aliases refl k.aliases,
      lifetime_written ps life refl is,
    ) refl

port_read : (life : Option Lifespan) → MayBeLifespan life → (port : PortE) → KeepsPort port → IsReadBack life (elements.Port port)
port_read life is port k = port_by port.group port port.labelled k life is

link_by : (group : Bool) (link : LinkE) (fits : IsTrue (fits_group group link.labels)) → KeepsLink link
    → (life : Option Lifespan) → MayBeLifespan life
    → AreRead life (link_parts group link) (elements.Link (record { id = link.id; group = group; encoding = link.encoding; labels = link.labels; cost = link.cost; labelled = fits }))
unfolding kind_at link_at living_at
link_by true link fits k life is =
    let ps = living life (link_parts true link) in
    rw (
      typed ps (codes "LinkGroup") refl,
      id_written 8 (codes "id") ps link.id refl k.id,
      optional_id_written 4 (codes "encoding") ps link.encoding refl k.encoding,
      labels_written true link.labels fits k.labels ps refl,
      cost_written ps link.cost refl,
      lifetime_written ps life refl is,
    ) refl
link_by false link fits k life is =
    let ps = living life (link_parts false link) in
    rw (
      typed ps (codes "Link") refl,
      id_written 8 (codes "id") ps link.id refl k.id,
      optional_id_written 4 (codes "encoding") ps link.encoding refl k.encoding,
      labels_written false link.labels fits k.labels ps refl,
      cost_written ps link.cost refl,
      lifetime_written ps life refl is,
    ) refl

link_read : (life : Option Lifespan) → MayBeLifespan life → (link : LinkE) → KeepsLink link → IsReadBack life (elements.Link link)
link_read life is link k = link_by link.group link link.labelled k life is

switch_read : (life : Option Lifespan) → MayBeLifespan life → (switch : SwitchE) → KeepsSwitch switch → IsReadBack life (elements.Switching switch)
unfolding kind_at switch_at living_at
switch_read life is switch k =
    let ps = living life (switch_parts switch) in
    rw (
      typed ps (codes "SwitchingService") refl,
      id_written 8 (codes "id") ps switch.id refl k.id,
      optional_id_written 4 (codes "encoding") ps switch.encoding refl k.encoding,
      swapping_written ps switch.swapping refl,
      cost_written ps switch.cost refl,
      optional_relation_written (codes "hasInboundPort") ps switch.inbound refl k.inbound,
      optional_relation_written (codes "hasOutboundPort") ps switch.outbound refl k.outbound,
      lifetime_written ps life refl is,
    ) refl

adapt_by : (life : Option Lifespan) (text : List ℕ) (adapt : AdaptE) → KeepsAdapt adapt → adapt_at (object_of (living life (adapt_parts text adapt))) ≡ Ok adapt
unfolding adapt_at
adapt_by life text adapt k =
    let ps = living life (adapt_parts text adapt) in
    rw (
      id_written 8 (codes "id") ps adapt.id refl k.id,
      id_written 11 (codes "adaptationFunction") ps adapt.function refl k.function,
      cost_written ps adapt.cost refl,
      relation_written (codes "providesPort") ps adapt.ports refl k.ports,
    ) refl

adaptation_read : (life : Option Lifespan) → MayBeLifespan life → (adapt : AdaptE) → KeepsAdapt adapt → IsReadBack life (elements.Adaptation adapt)
unfolding kind_at living_at
adaptation_read life is adapt k =
    let ps = living life (adapt_parts (codes "AdaptationService") adapt) in
    rw (typed ps (codes "AdaptationService") refl, adapt_by life (codes "AdaptationService") adapt k, lifetime_written ps life refl is) refl

deadaptation_read : (life : Option Lifespan) → MayBeLifespan life → (adapt : AdaptE) → KeepsAdapt adapt → IsReadBack life (elements.Deadaptation adapt)
unfolding kind_at living_at
deadaptation_read life is adapt k =
    let ps = living life (adapt_parts (codes "DeadaptationService") adapt) in
    rw (typed ps (codes "DeadaptationService") refl, adapt_by life (codes "DeadaptationService") adapt k, lifetime_written ps life refl is) refl

conv_read : (life : Option Lifespan) → MayBeLifespan life → (conv : ConvE) → KeepsConv conv → IsReadBack life (elements.Conversion conv)
unfolding kind_at conv_at living_at
conv_read life is conv k =
    let ps = living life (conv_parts conv) in
    rw (
      typed ps (codes "ConversionService") refl,
      id_written 8 (codes "id") ps conv.id refl k.id,
      cost_written ps conv.cost refl,
      relation_written (codes "hasInboundPort") ps conv.inbound refl k.inbound,
      relation_written (codes "hasOutboundPort") ps conv.outbound refl k.outbound,
      lifetime_written ps life refl is,
    ) refl

element_read : (life : Option Lifespan) → MayBeLifespan life → (element : Element) → Keeps element → IsReadBack life element
element_read life is (elements.Node node) k = node_read life is node k
element_read life is (elements.Port port) k = port_read life is port k
element_read life is (elements.Link link) k = link_read life is link k
element_read life is (elements.Switching switch) k = switch_read life is switch k
element_read life is (elements.Adaptation adapt) k = adaptation_read life is adapt k
element_read life is (elements.Deadaptation adapt) k = deadaptation_read life is adapt k
element_read life is (elements.Conversion conv) k = conv_read life is conv k

pub entry_read : (entry : Entry) → KeepsEntry entry → element_at (entry_data entry) ≡ Ok (Some (record { element = entry.element; lifetime = entry.lifetime }))
unfolding entry_data
entry_read entry k = element_read entry.lifetime k.lifetime entry.element k.element
