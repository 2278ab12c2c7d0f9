-- What one element says, by its type. Its members are read in a fixed order, and the first fault counts.
use Rattle.std.specs.Prelude.{ℕ, List, Bool, true, false, codes, is_some, Option, Some, None, option_and_then, Result, Ok, Err, if◌then◌else◌}
use Rattle.serde_json.specs.Data.{Data}
use Rattle.serde_json.specs.Find.{as_str, as_object}
use Rattle.nml_elements.specs.declared.fault.MemberFault.{MemberFault}
use Rattle.nml_elements.specs.declared.fault.MemberFault.TheVariants.{Rule}
use Rattle.nml_elements.specs.declared.elements.NodeE.{NodeE}
use Rattle.nml_elements.specs.declared.elements.PortE.{PortE}
use Rattle.nml_elements.specs.declared.elements.LinkE.{LinkE}
use Rattle.nml_elements.specs.declared.elements.SwitchE.{SwitchE}
use Rattle.nml_elements.specs.declared.elements.AdaptE.{AdaptE}
use Rattle.nml_elements.specs.declared.elements.ConvE.{ConvE}
use Rattle.nml_elements.specs.declared.elements.Element.{Element}
use Rattle.nml_elements.specs.declared.elements.Element.TheVariants as elements
use Rattle.nml_elements.specs.declared.living.Living.{Living}
use Rattle.nml_elements.specs.declared.kind.Kind.{Kind}
use Rattle.nml_elements.specs.declared.kind.Kind.TheVariants as kinds
use Rattle.nml_elements.specs.Gives.{◌>>=◌}
use Rattle.nml_elements.specs.Kind.{kind_of}
use Rattle.nml_elements.specs.MemberReading.{part, required_id, optional_id, relation, optional_relation, cost_at, swapping_at}
use Rattle.nml_elements.specs.LabelReading.{labels_at}
use Rattle.nml_elements.specs.LifetimeReading.{lifetime_at}

abbrev pub element_id : Data → Result (List ℕ) MemberFault
element_id d = required_id 8 (codes "id") d

unfoldable pub node_at : Data → Result NodeE MemberFault
node_at d = do
  id ← element_id d
  inbound ← relation (codes "hasInboundPort") d
  outbound ← relation (codes "hasOutboundPort") d
  services ← relation (codes "hasService") d
  Ok (record { id = id; inbound = inbound; outbound = outbound; services = services })

unfoldable pub port_at : Bool → Data → Result PortE MemberFault
port_at group d = do
  id ← element_id d
  encoding ← optional_id 4 (codes "encoding") d
  fitted ← labels_at group d
  sources ← relation (codes "isSource") d
  sinks ← relation (codes "isSink") d
  services ← relation (codes "hasService") d
  aliases ← relation (codes "isAlias") d
  Ok (record { id = id; group = fitted.group; encoding = encoding; labels = fitted.labels; sources = sources; sinks = sinks; services = services; aliases = aliases; labelled = fitted.labelled })

unfoldable pub link_at : Bool → Data → Result LinkE MemberFault
link_at group d = do
  id ← element_id d
  encoding ← optional_id 4 (codes "encoding") d
  fitted ← labels_at group d
  cost ← cost_at d
  Ok (record { id = id; group = fitted.group; encoding = encoding; labels = fitted.labels; cost = cost; labelled = fitted.labelled })

unfoldable pub switch_at : Data → Result SwitchE MemberFault
switch_at d = do
  id ← element_id d
  encoding ← optional_id 4 (codes "encoding") d
  swapping ← swapping_at d
  cost ← cost_at d
  inbound ← optional_relation (codes "hasInboundPort") d
  outbound ← optional_relation (codes "hasOutboundPort") d
  Ok (record { id = id; encoding = encoding; swapping = swapping; cost = cost; inbound = inbound; outbound = outbound })

unfoldable pub adapt_at : Data → Result AdaptE MemberFault
adapt_at d = do
  id ← element_id d
  function ← required_id 11 (codes "adaptationFunction") d
  cost ← cost_at d
  ports ← relation (codes "providesPort") d
  Ok (record { id = id; function = function; cost = cost; ports = ports })

unfoldable pub conv_at : Data → Result ConvE MemberFault
conv_at d = do
  id ← element_id d
  cost ← cost_at d
  inbound ← relation (codes "hasInboundPort") d
  outbound ← relation (codes "hasOutboundPort") d
  Ok (record { id = id; cost = cost; inbound = inbound; outbound = outbound })

unfoldable pub kind_at : Kind → Data → Result Element MemberFault
kind_at kinds.Node d = do
  e ← node_at d
  Ok (elements.Node e)
kind_at kinds.Port d = do
  e ← port_at false d
  Ok (elements.Port e)
kind_at kinds.PortGroup d = do
  e ← port_at true d
  Ok (elements.Port e)
kind_at kinds.Link d = do
  e ← link_at false d
  Ok (elements.Link e)
kind_at kinds.LinkGroup d = do
  e ← link_at true d
  Ok (elements.Link e)
kind_at kinds.Switching d = do
  e ← switch_at d
  Ok (elements.Switching e)
kind_at kinds.Adaptation d = do
  e ← adapt_at d
  Ok (elements.Adaptation e)
kind_at kinds.Deadaptation d = do
  e ← adapt_at d
  Ok (elements.Deadaptation e)
kind_at kinds.Conversion d = do
  e ← conv_at d
  Ok (elements.Conversion e)

-- the element, and then its lifetime
unfoldable pub living_at : Kind → Data → Result Living MemberFault
living_at kind d = do
  e ← kind_at kind d
  lifetime ← lifetime_at d
  Ok (record { element = e; lifetime = lifetime })

-- an element of another type is not read
abbrev pub known_at : Option Kind → Data → Result (Option Living) MemberFault
known_at None d = Ok None
known_at (Some kind) d = do
  living ← living_at kind d
  Ok (Some living)

abbrev pub typed_at : Option (List ℕ) → Data → Result (Option Living) MemberFault
typed_at None d = Err (Rule 7)
typed_at (Some s) d = known_at (kind_of s) d

unfoldable pub element_at : Data → Result (Option Living) MemberFault
element_at d = if is_some (as_object d) then typed_at (option_and_then as_str (part (codes "type") d)) d else Err (Rule 6)
