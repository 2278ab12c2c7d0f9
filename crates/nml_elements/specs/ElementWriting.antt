-- The JSON value that is written of an element and its lifetime.
use Rattle.std.specs.Prelude.{ℕ, List, [], ◌∷◌, Bool, true, false, codes, Option, Some, None}
use Rattle.serde_json.specs.Data.{Data, boolean, number, string, array, object, unsigned, Items, no_items, item, Members, no_members, put}
use Rattle.label_sets.specs.GroupText.{written}
use Rattle.nml_elements.specs.declared.elements.Labels.{Labels}
use Rattle.nml_elements.specs.declared.elements.Labels.TheVariants.{Unlabelled, Of}
use Rattle.nml_elements.specs.declared.elements.NodeE.{NodeE}
use Rattle.nml_elements.specs.declared.elements.PortE.{PortE}
use Rattle.nml_elements.specs.declared.elements.LinkE.{LinkE}
use Rattle.nml_elements.specs.declared.elements.SwitchE.{SwitchE}
use Rattle.nml_elements.specs.declared.elements.AdaptE.{AdaptE}
use Rattle.nml_elements.specs.declared.elements.ConvE.{ConvE}
use Rattle.nml_elements.specs.declared.elements.Element.{Element}
use Rattle.nml_elements.specs.declared.elements.Element.TheVariants as elements
use Rattle.nml_elements.specs.declared.elements.Entry.{Entry}
use Rattle.nml_elements.specs.Lifetimes.{Lifespan}

-- ---- objects of named parts, each there or not

abbrev pub Part : Type 0
Part = List ℕ × Option Data

abbrev pub with_part : List ℕ → Option Data → Members → Members
with_part key None members = members
with_part key (Some d) members = put key d members

abbrev pub with_parts : Members → List Part → Members
with_parts members [] = members
with_parts members (part ∷ parts) = with_parts (with_part part.0 part.1 members) parts

unfoldable pub object_of : List Part → Data
object_of parts = object (with_parts no_members parts)

-- ---- parts

abbrev pub text_part : List ℕ → Option Data
text_part text = Some (string text)

abbrev pub optional_text_part : Option (List ℕ) → Option Data
optional_text_part None = None
optional_text_part (Some text) = text_part text

abbrev pub number_part : ℕ → Option Data
number_part n = Some (number (unsigned n))

abbrev pub swapping_part : Bool → Option Data
swapping_part false = None
swapping_part true = Some (boolean true)

abbrev pub texts : List (List ℕ) → Items
texts [] = no_items
texts (id ∷ ids) = item (string id) (texts ids)

abbrev pub list_part : List (List ℕ) → Option Data
list_part ids = Some (array (texts ids))

-- an empty relation is left out
abbrev pub relation_part : List (List ℕ) → Option Data
relation_part [] = None
relation_part (id ∷ ids) = list_part (id ∷ ids)

abbrev pub optional_relation_part : Option (List (List ℕ)) → Option Data
optional_relation_part None = None
optional_relation_part (Some ids) = list_part ids

-- ---- labels

abbrev pub labels_key : Bool → List ℕ
labels_key true = codes "hasLabelGroup"
labels_key false = codes "hasLabel"

abbrev pub first_label : List (ℕ × ℕ) → ℕ
first_label [] = 0
first_label (range ∷ rest) = range.0

abbrev pub set_part : Bool → List (ℕ × ℕ) → Part
set_part true set = (codes "values", text_part (written set))
set_part false set = (codes "value", number_part (first_label set))

abbrev pub labels_part : Bool → Labels → Option Data
labels_part group Unlabelled = None
labels_part group (Of labeltype set) = Some (object_of ((codes "labeltype", text_part labeltype) ∷ set_part group set ∷ []))

-- ---- elements

abbrev pub node_parts : NodeE → List Part
node_parts node =
    (codes "hasInboundPort", relation_part node.inbound)
    ∷ (codes "hasOutboundPort", relation_part node.outbound)
    ∷ (codes "hasService", relation_part node.services)
    ∷ (codes "id", text_part node.id)
    ∷ (codes "type", text_part (codes "Node"))
    ∷ []

abbrev pub port_type : Bool → List ℕ
port_type true = codes "PortGroup"
port_type false = codes "Port"

abbrev pub port_parts : Bool → PortE → List Part
port_parts group port =
    (codes "encoding", optional_text_part port.encoding)
    ∷ (labels_key group, labels_part group port.labels)
    ∷ (codes "hasService", relation_part port.services)
    ∷ (codes "id", text_part port.id)
    ∷ (codes "isAlias", relation_part port.aliases)
    ∷ (codes "isSink", relation_part port.sinks)
    ∷ (codes "isSource", relation_part port.sources)
    ∷ (codes "type", text_part (port_type group))
    ∷ []

abbrev pub link_type : Bool → List ℕ
link_type true = codes "LinkGroup"
link_type false = codes "Link"

abbrev pub link_parts : Bool → LinkE → List Part
link_parts group link =
    (codes "cost", number_part link.cost)
    ∷ (codes "encoding", optional_text_part link.encoding)
    ∷ (labels_key group, labels_part group link.labels)
    ∷ (codes "id", text_part link.id)
    ∷ (codes "type", text_part (link_type group))
    ∷ []

abbrev pub switch_parts : SwitchE → List Part
switch_parts switch =
    (codes "cost", number_part switch.cost)
    ∷ (codes "encoding", optional_text_part switch.encoding)
    ∷ (codes "hasInboundPort", optional_relation_part switch.inbound)
    ∷ (codes "hasOutboundPort", optional_relation_part switch.outbound)
    ∷ (codes "id", text_part switch.id)
    ∷ (codes "labelSwapping", swapping_part switch.swapping)
    ∷ (codes "type", text_part (codes "SwitchingService"))
    ∷ []

abbrev pub adapt_parts : List ℕ → AdaptE → List Part
adapt_parts type_is adapt =
    (codes "adaptationFunction", text_part adapt.function)
    ∷ (codes "cost", number_part adapt.cost)
    ∷ (codes "id", text_part adapt.id)
    ∷ (codes "providesPort", relation_part adapt.ports)
    ∷ (codes "type", text_part type_is)
    ∷ []

abbrev pub conv_parts : ConvE → List Part
conv_parts conv =
    (codes "cost", number_part conv.cost)
    ∷ (codes "hasInboundPort", relation_part conv.inbound)
    ∷ (codes "hasOutboundPort", relation_part conv.outbound)
    ∷ (codes "id", text_part conv.id)
    ∷ (codes "type", text_part (codes "ConversionService"))
    ∷ []

abbrev pub element_parts : Element → List Part
element_parts (elements.Node node) = node_parts node
element_parts (elements.Port port) = port_parts port.group port
element_parts (elements.Link link) = link_parts link.group link
element_parts (elements.Switching switch) = switch_parts switch
element_parts (elements.Adaptation adapt) = adapt_parts (codes "AdaptationService") adapt
element_parts (elements.Deadaptation adapt) = adapt_parts (codes "DeadaptationService") adapt
element_parts (elements.Conversion conv) = conv_parts conv

-- ---- lifetimes

abbrev pub optional_number_part : Option ℕ → Option Data
optional_number_part None = None
optional_number_part (Some n) = number_part n

abbrev pub lifespan_parts : Lifespan → List Part
lifespan_parts life =
    (codes "end", optional_number_part life.end)
    ∷ (codes "start", number_part life.start)
    ∷ []

abbrev pub lifetime_part : Option Lifespan → Option Data
lifetime_part None = None
lifetime_part (Some life) = Some (object_of (lifespan_parts life))

-- ---- entries

abbrev pub entry_parts : Entry → List Part
entry_parts entry = (codes "existsDuring", lifetime_part entry.lifetime) ∷ element_parts entry.element

unfoldable pub entry_data : Entry → Data
entry_data entry = object_of (entry_parts entry)
