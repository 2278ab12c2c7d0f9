-- What the tables of an inventory answer of one element.
use Rattle.std.proofs.Common.{◌≡◌, ℕ, List, [], ◌∷◌, ◌++◌, Bool, true, false, ◌&&◌, cond, Some, map, length, refl, ◌∙◌, ap}
use Rattle.std.specs.Prelude.{slice_get, is_none}
use Rattle.std.proofs.lemmas.List.{length-map}
use Rattle.nml_elements.specs.declared.elements.Element.{Element}
use Rattle.nml_elements.specs.declared.elements.Element.TheVariants as element
use Rattle.circuit_spec.specs.Faults.{duplicate_ids, is_link, is_adapting}
use Rattle.circuit_spec.specs.Network.{Topology, Placed, Port, elements_of, id_of, names, port_of, ports}
use Rattle.nml_inventory.specs.declared.arcs.Listing.TheVariants.{Inbound, Outbound}
use Rattle.nml_elements.specs.declared.elements.Domain.{Domain}
use Rattle.nml_elements.specs.declared.elements.PortE.{PortE}
use Rattle.nml_inventory.specs.declared.arcs.PortMember.{PortMember}
use Rattle.nml_inventory.specs.declared.arcs.PortMember.TheVariants.{Sources, Sinks, Services}
use Rattle.nml_inventory.specs.declared.lent.Holding.TheVariants.{Own, Lent, Neither}
use Rattle.nml_inventory.specs.Relations.{is_source, is_sink, is_server, is_client, is_inbound, is_outbound}
use Rattle.nml_inventory.specs.Tables.{held_by, in_entry, in_port, inbound_in, lent_to, outbound_in, provided_in}
use Rattle.nml_inventory.proofs.Lending.{lent_inbound, lent_outbound, own_inbound, own_outbound}
use Rattle.nml_inventory.proofs.PortNumbers.{distinct_ports}
pub use Rattle.circuit_spec.proofs.Merged.{ids_once as merged_ids}

pub source_by : (e : Element) (q : Port) → is_link e ≡ true → names q.sources (id_of e) ≡ is_source e q
source_by (element.Link l) q h = refl
source_by (element.Node n) q h = cc
source_by (element.Port p) q h = cc
source_by (element.Switching s) q h = cc
source_by (element.Adaptation a) q h = cc
source_by (element.Deadaptation a) q h = cc
source_by (element.Conversion c) q h = cc

pub no_source : (e : Element) (q : Port) → is_link e ≡ false → is_source e q ≡ false
no_source (element.Link l) q h = cc
no_source (element.Node n) q h = refl
no_source (element.Port p) q h = refl
no_source (element.Switching s) q h = refl
no_source (element.Adaptation a) q h = refl
no_source (element.Deadaptation a) q h = refl
no_source (element.Conversion c) q h = refl

pub sink_by : (e : Element) (q : Port) → is_link e ≡ true → names q.sinks (id_of e) ≡ is_sink e q
sink_by (element.Link l) q h = refl
sink_by (element.Node n) q h = cc
sink_by (element.Port p) q h = cc
sink_by (element.Switching s) q h = cc
sink_by (element.Adaptation a) q h = cc
sink_by (element.Deadaptation a) q h = cc
sink_by (element.Conversion c) q h = cc

pub no_sink : (e : Element) (q : Port) → is_link e ≡ false → is_sink e q ≡ false
no_sink (element.Link l) q h = cc
no_sink (element.Node n) q h = refl
no_sink (element.Port p) q h = refl
no_sink (element.Switching s) q h = refl
no_sink (element.Adaptation a) q h = refl
no_sink (element.Deadaptation a) q h = refl
no_sink (element.Conversion c) q h = refl

pub server_by : (e : Element) (q : Port) → is_adapting e ≡ true → names q.services (id_of e) ≡ is_server e q
server_by (element.Adaptation a) q h = refl
server_by (element.Deadaptation a) q h = refl
server_by (element.Node n) q h = cc
server_by (element.Port p) q h = cc
server_by (element.Link l) q h = cc
server_by (element.Switching s) q h = cc
server_by (element.Conversion c) q h = cc

pub no_server : (e : Element) (q : Port) → is_adapting e ≡ false → is_server e q ≡ false
no_server (element.Adaptation a) q h = cc
no_server (element.Deadaptation a) q h = cc
no_server (element.Node n) q h = refl
no_server (element.Port p) q h = refl
no_server (element.Link l) q h = refl
no_server (element.Switching s) q h = refl
no_server (element.Conversion c) q h = refl

pub client_by : (e : Element) (q : Port) → is_adapting e ≡ true → names (provided_in e) q.id ≡ is_client e q
client_by (element.Adaptation a) q h = refl
client_by (element.Deadaptation a) q h = refl
client_by (element.Node n) q h = cc
client_by (element.Port p) q h = cc
client_by (element.Link l) q h = cc
client_by (element.Switching s) q h = cc
client_by (element.Conversion c) q h = cc

pub no_client : (e : Element) (q : Port) → is_adapting e ≡ false → is_client e q ≡ false
no_client (element.Adaptation a) q h = cc
no_client (element.Deadaptation a) q h = cc
no_client (element.Node n) q h = refl
no_client (element.Port p) q h = refl
no_client (element.Link l) q h = refl
no_client (element.Switching s) q h = refl
no_client (element.Conversion c) q h = refl

own_by : (b : Bool) → cond b Lent Own ≡ Own → b ≡ false
own_by true e = cc
own_by false e = refl

lent_by : (b : Bool) → cond b Lent Own ≡ Lent → b ≡ true
lent_by true e = refl
lent_by false e = cc

neither_by : (b : Bool) → cond b Lent Own ≡ Neither → ⊥
neither_by true e = cc
neither_by false e = cc

pub inbound_own : (T : Topology) (e : Element) (q : Port) → held_by e ≡ Own → names (inbound_in e) q.id ≡ is_inbound T e q
inbound_own T (element.Switching s) q h = own_inbound T s q.id (own_by (is_none s.inbound && is_none s.outbound) h)
inbound_own T (element.Conversion c) q h = refl
inbound_own T (element.Node n) q h = cc
inbound_own T (element.Port p) q h = cc
inbound_own T (element.Link l) q h = cc
inbound_own T (element.Adaptation a) q h = cc
inbound_own T (element.Deadaptation a) q h = cc

pub outbound_own : (T : Topology) (e : Element) (q : Port) → held_by e ≡ Own → names (outbound_in e) q.id ≡ is_outbound T e q
outbound_own T (element.Switching s) q h = own_outbound T s q.id (own_by (is_none s.inbound && is_none s.outbound) h)
outbound_own T (element.Conversion c) q h = refl
outbound_own T (element.Node n) q h = cc
outbound_own T (element.Port p) q h = cc
outbound_own T (element.Link l) q h = cc
outbound_own T (element.Adaptation a) q h = cc
outbound_own T (element.Deadaptation a) q h = cc

pub inbound_lent : (T : Topology) (e : Element) (j : ℕ) (q : Port) → duplicate_ids T ≡ [] → held_by e ≡ Lent → slice_get (ports T) j ≡ Some q → lent_to T Inbound e q ≡ is_inbound T e q
inbound_lent T (element.Switching s) j q once h at = lent_inbound T s j q (distinct_ports T once) (lent_by (is_none s.inbound && is_none s.outbound) h) at
inbound_lent T (element.Conversion c) j q once h at = cc
inbound_lent T (element.Node n) j q once h at = cc
inbound_lent T (element.Port p) j q once h at = cc
inbound_lent T (element.Link l) j q once h at = cc
inbound_lent T (element.Adaptation a) j q once h at = cc
inbound_lent T (element.Deadaptation a) j q once h at = cc

pub outbound_lent : (T : Topology) (e : Element) (j : ℕ) (q : Port) → duplicate_ids T ≡ [] → held_by e ≡ Lent → slice_get (ports T) j ≡ Some q → lent_to T Outbound e q ≡ is_outbound T e q
outbound_lent T (element.Switching s) j q once h at = lent_outbound T s j q (distinct_ports T once) (lent_by (is_none s.inbound && is_none s.outbound) h) at
outbound_lent T (element.Conversion c) j q once h at = cc
outbound_lent T (element.Node n) j q once h at = cc
outbound_lent T (element.Port p) j q once h at = cc
outbound_lent T (element.Link l) j q once h at = cc
outbound_lent T (element.Adaptation a) j q once h at = cc
outbound_lent T (element.Deadaptation a) j q once h at = cc

pub inbound_neither : (T : Topology) (e : Element) (q : Port) → held_by e ≡ Neither → is_inbound T e q ≡ false
inbound_neither T (element.Switching s) q h = absurd (neither_by (is_none s.inbound && is_none s.outbound) h)
inbound_neither T (element.Conversion c) q h = cc
inbound_neither T (element.Node n) q h = refl
inbound_neither T (element.Port p) q h = refl
inbound_neither T (element.Link l) q h = refl
inbound_neither T (element.Adaptation a) q h = refl
inbound_neither T (element.Deadaptation a) q h = refl

pub outbound_neither : (T : Topology) (e : Element) (q : Port) → held_by e ≡ Neither → is_outbound T e q ≡ false
outbound_neither T (element.Switching s) q h = absurd (neither_by (is_none s.inbound && is_none s.outbound) h)
outbound_neither T (element.Conversion c) q h = cc
outbound_neither T (element.Node n) q h = refl
outbound_neither T (element.Port p) q h = refl
outbound_neither T (element.Link l) q h = refl
outbound_neither T (element.Adaptation a) q h = refl
outbound_neither T (element.Deadaptation a) q h = refl

pub rows_long : (T : Topology) (f : Placed → List ℕ) (rows : List (List ℕ)) → rows ≡ map f (elements_of T) → length rows ≡ length (elements_of T)
rows_long T f rows e = ap length e ∙ length-map (elements_of T) f

-- a port's record names what the port names
pub entry_names : (member : PortMember) (d : Domain) (p : PortE) → in_entry member p ≡ in_port member (port_of d p)
entry_names Sources d p = refl
entry_names Sinks d p = refl
entry_names Services d p = refl
