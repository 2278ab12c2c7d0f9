-- What the parts of every element keep: texts are those of ids, sets are ranges that rise, and lifetimes end after they start.
use Rattle.std.specs.Prelude.{ℕ, List, Option, None, Some}
use Rattle.std.specs.List.{AllByRecursion}
use Rattle.ml_base.specs.Text.{IsIdText}
use Rattle.label_sets.specs.Ranges.{AreRanges}
use Rattle.nml_elements.specs.declared.elements.Labels.{Labels}
use Rattle.nml_elements.specs.declared.elements.Labels.TheVariants.{Unlabelled, Of}
use Rattle.nml_elements.specs.declared.elements.NodeE.{NodeE}
use Rattle.nml_elements.specs.declared.elements.PortE.{PortE}
use Rattle.nml_elements.specs.declared.elements.LinkE.{LinkE}
use Rattle.nml_elements.specs.declared.elements.SwitchE.{SwitchE}
use Rattle.nml_elements.specs.declared.elements.AdaptE.{AdaptE}
use Rattle.nml_elements.specs.declared.elements.ConvE.{ConvE}
use Rattle.nml_elements.specs.declared.elements.Element.{Element}
use Rattle.nml_elements.specs.declared.elements.Element.TheVariants as elements
use Rattle.nml_elements.specs.declared.elements.Entry.{Entry}
use Rattle.nml_elements.specs.Lifetimes.{Lifespan, IsLifespan}

abbrev pub AreIds : List (List ℕ) → Type 0
AreIds ids = AllByRecursion IsIdText ids

abbrev pub MayBeId : Option (List ℕ) → Type 0
MayBeId None = Unit {0}
MayBeId (Some id) = IsIdText id

abbrev pub MayBeIds : Option (List (List ℕ)) → Type 0
MayBeIds None = Unit {0}
MayBeIds (Some ids) = AreIds ids

abbrev pub AreLabels : Labels → Type 0
AreLabels Unlabelled = Unit {0}
AreLabels (Of labeltype set) = IsIdText labeltype × AreRanges set

pub record KeepsNode (node : NodeE) : Type 0 where
  pub id : IsIdText node.id
  pub inbound : AreIds node.inbound
  pub outbound : AreIds node.outbound
  pub services : AreIds node.services

pub record KeepsPort (port : PortE) : Type 0 where
  pub id : IsIdText port.id
  pub encoding : MayBeId port.encoding
  pub labels : AreLabels port.labels
  pub sources : AreIds port.sources
  pub sinks : AreIds port.sinks
  pub services : AreIds port.services
  pub aliases : AreIds port.aliases

pub record KeepsLink (link : LinkE) : Type 0 where
  pub id : IsIdText link.id
  pub encoding : MayBeId link.encoding
  pub labels : AreLabels link.labels

pub record KeepsSwitch (switch : SwitchE) : Type 0 where
  pub id : IsIdText switch.id
  pub encoding : MayBeId switch.encoding
  pub inbound : MayBeIds switch.inbound
  pub outbound : MayBeIds switch.outbound

pub record KeepsAdapt (adapt : AdaptE) : Type 0 where
  pub id : IsIdText adapt.id
  pub function : IsIdText adapt.function
  pub ports : AreIds adapt.ports

pub record KeepsConv (conv : ConvE) : Type 0 where
  pub id : IsIdText conv.id
  pub inbound : AreIds conv.inbound
  pub outbound : AreIds conv.outbound

abbrev pub Keeps : Element → Type 0
Keeps (elements.Node node) = KeepsNode node
Keeps (elements.Port port) = KeepsPort port
Keeps (elements.Link link) = KeepsLink link
Keeps (elements.Switching switch) = KeepsSwitch switch
Keeps (elements.Adaptation adapt) = KeepsAdapt adapt
Keeps (elements.Deadaptation adapt) = KeepsAdapt adapt
Keeps (elements.Conversion conv) = KeepsConv conv

abbrev pub MayBeLifespan : Option Lifespan → Type 0
MayBeLifespan None = Unit {0}
MayBeLifespan (Some life) = IsLifespan life

pub record KeepsEntry (entry : Entry) : Type 0 where
  pub element : Keeps entry.element
  pub lifetime : MayBeLifespan entry.lifetime
