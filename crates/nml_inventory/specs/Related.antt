-- What an inventory holds of relations.
use Rattle.std.specs.Prelude.{◌≡◌, ℕ, List, []}
use Rattle.nml_elements.specs.declared.elements.Labels.{Labels}
use Rattle.circuit_spec.specs.Faults.{duplicate_ids}
use Rattle.circuit_spec.specs.Network.{Topology}
use Rattle.nml_inventory.specs.declared.arcs.PortMember.TheVariants.{Sources, Sinks, Services}
use Rattle.nml_inventory.specs.declared.arcs.Listing.TheVariants.{Inbound, Outbound, Provided}
use Rattle.nml_inventory.specs.declared.relations.Relations.{Relations}
use Rattle.nml_inventory.specs.ClassSets.{AreMerged}
use Rattle.nml_inventory.specs.Relations.{IsClassCount, open_references}
use Rattle.nml_inventory.specs.Tables.{lent_ports, listed_ports, naming_ports}

pub record AreRelations (T : Topology) (r : Relations) : Type 0 where
  pub sources_are : r.sources ≡ naming_ports T Sources
  pub sinks_are : r.sinks ≡ naming_ports T Sinks
  pub servers_are : r.servers ≡ naming_ports T Services
  pub clients_are : r.clients ≡ listed_ports T Provided
  pub inbound_are : r.inbound ≡ listed_ports T Inbound
  pub outbound_are : r.outbound ≡ listed_ports T Outbound
  pub lent_inbound_are : r.lent_inbound ≡ lent_ports T Inbound
  pub lent_outbound_are : r.lent_outbound ≡ lent_ports T Outbound

-- what an inventory holds of its domains
pub record IsInventory (T : Topology) (relations : Relations) (labels : List Labels) (open_count class_count : ℕ) : Type 0 where
  pub once : duplicate_ids T ≡ []
  pub relations_are : AreRelations T relations
  pub labels_are : AreMerged T labels
  pub open_are : open_count ≡ open_references T
  pub classes_are : IsClassCount T class_count
