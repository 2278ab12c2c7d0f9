-- Small topologies that show what services, labels and encodings mean.
use Rattle.std.specs.Prelude.{ℕ, List, [], ◌∷◌, Bool, true, false, Option, None, Some, refl, codes}
use Rattle.std.proofs.lemmas.Bool.{eq-eqb}
use Rattle.ml_base.specs.declared.numbers.Wish.TheVariants.{Value}
use Rattle.nml_elements.specs.declared.elements.Labels.TheVariants.{Unlabelled, Of}
use Rattle.nml_elements.specs.declared.elements.Element.{Element}
use Rattle.nml_elements.specs.declared.elements.Element.TheVariants as element
use Rattle.circuit_spec.specs.declared.faults.Spot.{Spot}
use Rattle.circuit_spec.specs.declared.hops.Frame.{Frame}
use Rattle.circuit_spec.specs.declared.hops.Hop.{Hop}
use Rattle.circuit_spec.specs.declared.hops.HopKind.{HopKind}
use Rattle.circuit_spec.specs.declared.hops.HopKind.TheVariants as kind
use Rattle.circuit_spec.specs.declared.hops.PlaceName.{PlaceName}
use Rattle.circuit_spec.specs.declared.hops.Request.{Request}
use Rattle.circuit_spec.specs.declared.hops.Unit.{Unit as DataUnit}
use Rattle.circuit_spec.specs.Network.{Name, Port, Tag, Topology}
use Rattle.circuit_spec.specs.Rows.{adaptation, bare_port, deadaptation, domain_d, entries_from, labelled_hop, link}
use Rattle.circuit_spec.specs.Rows.{plain_hop, port, vlan_group}

-- Conversions

-- a port with one label of the type
abbrev pub port_of_label : Name → Name → Name → ℕ → Element
port_of_label id encoding labeltype label = element.Port (record {
  id = id;
  group = false;
  encoding = Some encoding;
  labels = Of labeltype ((label, label) ∷ []);
  sources = [];
  sinks = [];
  services = [];
  aliases = [];
  labelled = eq-eqb label label refl;
})

-- a conversion of cost 5
abbrev pub conversion : Name → List Name → List Name → Element
conversion id inbound outbound = element.Conversion (record { id = id; cost = 5; inbound = inbound; outbound = outbound })

-- the Ethernet port p with the VLAN 100 is converted into the optical port q with the channel 7
abbrev pub converted : Topology
converted =
    domain_d (
    port_of_label (codes "p") (codes "eth") (codes "vlan") 100
    ∷ port_of_label (codes "q") (codes "wdm") (codes "lambda") 7
    ∷ conversion (codes "c") (codes "p" ∷ []) (codes "q" ∷ []) ∷ []) ∷ []

-- the hop through the conversion
abbrev pub converting : Hop
converting = labelled_hop kind.Convert (codes "c") (codes "p") (Some 100) (codes "q") (Some 7)

-- a conversion leads from the VLAN group p back into it
abbrev pub relabelled : Topology
relabelled = domain_d (vlan_group (codes "p") ∷ conversion (codes "c") (codes "p" ∷ []) (codes "p" ∷ []) ∷ []) ∷ []

-- the place of the group with a label
abbrev pub at_label : ℕ → PlaceName
at_label label = record { class = codes "p"; label = Some label }

-- a request from one label of the group to another
abbrev pub within_group : ℕ → ℕ → Request
within_group from to = record { from = codes "p"; from_wish = Value from; to = codes "p"; to_wish = Value to }

-- the hop from one label of the group to another
abbrev pub relabelling : ℕ → ℕ → Hop
relabelling from to = labelled_hop kind.Convert (codes "c") (codes "p") (Some from) (codes "p") (Some to)

-- Switching services and the ports that Nodes lend them

-- the switching service s of an encoding, or none, with the ports that it lists
abbrev pub switching_of : Option Name → Option (List Name) → Option (List Name) → Element
switching_of encoding inbound outbound =
    element.Switching (record { id = codes "s"; encoding = encoding; swapping = false; cost = 1; inbound = inbound; outbound = outbound })

-- a Node with ports, that names the service s
abbrev pub node : List Name → List Name → Element
node inbound outbound = element.Node (record { id = codes "n"; inbound = inbound; outbound = outbound; services = codes "s" ∷ [] })

-- a Node with the ports a and b, whose service lists other ports
abbrev pub listing : Option (List Name) → Option (List Name) → Topology
listing inbound outbound =
    domain_d (
    bare_port (codes "a") [] []
    ∷ bare_port (codes "b") [] []
    ∷ bare_port (codes "c") [] []
    ∷ node (codes "a" ∷ []) (codes "b" ∷ [])
    ∷ switching_of None inbound outbound ∷ []) ∷ []

-- a Node with two Ethernet ports and two OTN ports, whose Ethernet service lists none
abbrev pub lending : Topology
lending =
    domain_d (
    port (codes "a") (codes "eth") [] [] []
    ∷ port (codes "b") (codes "eth") [] [] []
    ∷ port (codes "x") (codes "otn") [] [] []
    ∷ port (codes "y") (codes "otn") [] [] []
    ∷ node (codes "a" ∷ codes "x" ∷ []) (codes "b" ∷ codes "y" ∷ [])
    ∷ switching_of (Some (codes "eth")) None None ∷ []) ∷ []

-- the hop from a port through the service s to a port
abbrev pub crossing : Name → Name → Hop
crossing from to = plain_hop kind.Cross (codes "s") from to

-- Labels

-- a VLAN group with the links that it sends into and those that deliver to it
abbrev pub linked_group : Name → List Name → List Name → Element
linked_group id sources sinks = element.Port (record {
  id = id;
  group = true;
  encoding = None;
  labels = Of (codes "vlan") ((100, 200) ∷ []);
  sources = sources;
  sinks = sinks;
  services = [];
  aliases = [];
  labelled = refl;
})

-- a link leads from the VLAN group p to the VLAN group q
abbrev pub linked_groups : Topology
linked_groups =
    domain_d (
    linked_group (codes "p") (codes "l" ∷ []) []
    ∷ linked_group (codes "q") [] (codes "l" ∷ [])
    ∷ link (codes "l") ∷ []) ∷ []

-- the switching service s from p to q, that swaps labels or not
abbrev pub p_to_q_service : Bool → Element
p_to_q_service swapping = element.Switching (record {
  id = codes "s";
  encoding = None;
  swapping = swapping;
  cost = 1;
  inbound = Some (codes "p" ∷ []);
  outbound = Some (codes "q" ∷ []);
})

-- a switching service leads from the VLAN group p to the VLAN group q, and swaps labels or not
abbrev pub switched_groups : Bool → Topology
switched_groups swapping = domain_d (vlan_group (codes "p") ∷ vlan_group (codes "q") ∷ p_to_q_service swapping ∷ []) ∷ []

-- a hop from a label of p to a label of q
abbrev pub p_to_q : HopKind → Name → ℕ → ℕ → Hop
p_to_q kind element from to = labelled_hop kind element (codes "p") (Some from) (codes "q") (Some to)

-- Encodings

-- the tunnel with an encoding at c1 and one at c2
abbrev pub tunnel_between : Name → Name → Topology
tunnel_between from to =
    domain_d (
    port (codes "c1") from [] [] []
    ∷ port (codes "s1") (codes "otn") (codes "t" ∷ []) [] (codes "ad" ∷ [])
    ∷ port (codes "s2") (codes "otn") [] (codes "t" ∷ []) (codes "de" ∷ [])
    ∷ port (codes "c2") to [] [] []
    ∷ adaptation (codes "ad") (codes "gfp") (codes "c1" ∷ [])
    ∷ deadaptation (codes "de") (codes "gfp") (codes "c2" ∷ [])
    ∷ link (codes "t") ∷ []) ∷ []

-- an OTN link
abbrev pub otn_link : Element
otn_link = element.Link (record {
  id = codes "l";
  group = false;
  encoding = Some (codes "otn");
  labels = Unlabelled;
  cost = 1;
  labelled = refl;
})

-- two OTN ports at an OTN link, and a port without encoding
abbrev pub otn_elements : List Element
otn_elements =
    port (codes "a") (codes "otn") (codes "l" ∷ []) [] []
    ∷ port (codes "b") (codes "otn") [] (codes "l" ∷ []) []
    ∷ bare_port (codes "c") [] []
    ∷ otn_link ∷ []

-- these elements in a file of the encoding "eth"
abbrev pub encoded : Topology
encoded = record { id = codes "d"; encoding = Some (codes "eth"); elements = entries_from 1 otn_elements } ∷ []

-- the port a of this file as it is read
abbrev pub otn_port : Port
otn_port = record {
  id = codes "a";
  encoding = codes "otn";
  labels = Unlabelled;
  sources = codes "l" ∷ [];
  sinks = [];
  services = [];
  aliases = [];
}

-- the port c as it is read, with an encoding
abbrev pub port_c : Name → Port
port_c encoding = record { id = codes "c"; encoding = encoding; labels = Unlabelled; sources = []; sinks = []; services = []; aliases = [] }

-- Frames

-- the frame of the function GFP and the Ethernet client with a VLAN
abbrev pub vlan_frame : ℕ → Frame
vlan_frame label = record { function = codes "gfp"; encoding = codes "eth"; labeltype = Some (codes "vlan"); label = Some label }

-- a unit at a class, with a label or none
abbrev pub unit_of : Name → Tag → List Frame → DataUnit
unit_of class label stack = record { class = class; label = label; stack = stack }

-- the first hop through the tunnel with labels
abbrev pub adapting : Hop
adapting = labelled_hop kind.Adapt (codes "ad") (codes "c1") (Some 105) (codes "s1") None

-- Ids and kinds

-- where an element stands
abbrev pub spot : ℕ → ℕ → Spot
spot file element = record { file = file; element = element }

-- the port a names a port as a link, and behind it two elements have one id
abbrev pub wrong_and_double : List Element
wrong_and_double =
    bare_port (codes "a") (codes "b" ∷ []) []
    ∷ bare_port (codes "b") [] []
    ∷ bare_port (codes "c") [] []
    ∷ bare_port (codes "c") [] [] ∷ []
