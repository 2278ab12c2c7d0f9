-- Relations of all elements as tables: for each element the numbers of ports, rising.
--   pairs_named     the numbers of items with those of the ids that each names
--   naming_ports    for each element the ports that name it
--   listed_ports    for each element the ports that it lists
--   lending_nodes   for each element the Nodes that name it as a service
--   lent_ports      for each SwitchingService that lists nothing the ports that Nodes lend to it
use Rattle.std.specs.Prelude.{◌≡◌, ℕ, ◌+◌, ◌<◌, All, ◌&&◌, List, [], ◌∷◌, ◌++◌, Bool, true, false, cond, Option, None, Some, is_none, unwrap_or, option_map, map, filter, length, slice_get, slice_index_or}
use Rattle.std.specs.List.{flat_map, list_any}
use Rattle.std.specs.Str.{bytes_eq}
use Rattle.nml_elements.specs.declared.elements.PortE.{PortE}
use Rattle.nml_elements.specs.declared.elements.Element.{Element}
use Rattle.nml_elements.specs.declared.elements.Element.TheVariants as element
use Rattle.circuit_spec.specs.Network.{Name, Topology, Placed, Port, elements_of, id_of, names, ports}
use Rattle.nml_inventory.specs.declared.arcs.PortMember.{PortMember}
use Rattle.nml_inventory.specs.declared.arcs.PortMember.TheVariants.{Sources, Sinks, Services}
use Rattle.nml_inventory.specs.declared.arcs.Listing.{Listing}
use Rattle.nml_inventory.specs.declared.arcs.Listing.TheVariants.{Inbound, Outbound, Provided, Lending}
use Rattle.nml_inventory.specs.declared.lent.Holding.{Holding}
use Rattle.nml_inventory.specs.declared.lent.Holding.TheVariants.{Own, Lent, Neither}
use Rattle.nml_inventory.specs.Aliases.{pairs_in}
use Rattle.nml_inventory.specs.Relations.{numbers_where}

-- the ids that a port names in a member
abbrev pub in_port : PortMember → Port → List Name
in_port Sources q = q.sources
in_port Sinks q = q.sinks
in_port Services q = q.services

abbrev pub in_entry : PortMember → PortE → List Name
in_entry Sources q = q.sources
in_entry Sinks q = q.sinks
in_entry Services q = q.services

abbrev pub inbound_in : Element → List Name
inbound_in (element.Node n) = n.inbound
inbound_in (element.Switching s) = unwrap_or s.inbound []
inbound_in (element.Conversion c) = c.inbound
inbound_in (element.Port p) = []
inbound_in (element.Link l) = []
inbound_in (element.Adaptation a) = []
inbound_in (element.Deadaptation a) = []

abbrev pub outbound_in : Element → List Name
outbound_in (element.Node n) = n.outbound
outbound_in (element.Switching s) = unwrap_or s.outbound []
outbound_in (element.Conversion c) = c.outbound
outbound_in (element.Port p) = []
outbound_in (element.Link l) = []
outbound_in (element.Adaptation a) = []
outbound_in (element.Deadaptation a) = []

abbrev pub provided_in : Element → List Name
provided_in (element.Adaptation a) = a.ports
provided_in (element.Deadaptation a) = a.ports
provided_in (element.Node n) = []
provided_in (element.Port p) = []
provided_in (element.Link l) = []
provided_in (element.Switching s) = []
provided_in (element.Conversion c) = []

-- the services to which a Node lends its ports
abbrev pub lending_in : Element → List Name
lending_in (element.Node n) = n.services
lending_in (element.Port p) = []
lending_in (element.Link l) = []
lending_in (element.Switching s) = []
lending_in (element.Adaptation a) = []
lending_in (element.Deadaptation a) = []
lending_in (element.Conversion c) = []

-- the ids that an element lists
abbrev pub in_element : Listing → Element → List Name
in_element Inbound e = inbound_in e
in_element Outbound e = outbound_in e
in_element Provided e = provided_in e
in_element Lending e = lending_in e

-- what the items of a list and their numbers, from n on, give
abbrev pub rows_from : {A : Type 0} → (ℕ → A → List (ℕ × ℕ)) → ℕ → List A → List (ℕ × ℕ)
rows_from row n [] = []
rows_from row n (x ∷ xs) = row n x ++ rows_from row (n + 1) xs

-- the pairs of the number of each item and the numbers of the ids that the item names
abbrev pub pairs_named : {A : Type 0} → List Name → (A → List Name) → List A → List (ℕ × ℕ)
pairs_named {A} ids named xs = rows_from (λ (n : ℕ) (x : A). pairs_in ids n (named x)) 0 xs

abbrev pub naming_ports : Topology → PortMember → List (List ℕ)
naming_ports T member = map (λ (e : Placed). numbers_where (λ (q : Port). names (in_port member q) (id_of e.element)) (ports T)) (elements_of T)

abbrev pub listed_ports : Topology → Listing → List (List ℕ)
listed_ports T listing = map (λ (e : Placed). numbers_where (λ (q : Port). names (in_element listing e.element) q.id) (ports T)) (elements_of T)

abbrev pub lending_nodes : Topology → List (List ℕ)
lending_nodes T = map (λ (e : Placed). numbers_where (λ (n : Placed). names (lending_in n.element) (id_of e.element)) (elements_of T)) (elements_of T)

-- the port has the encoding, where one is stated
abbrev pub takes : Option Name → Port → Bool
takes None q = true
takes (Some encoding) q = bytes_eq q.encoding encoding

-- whether the element is a SwitchingService that lists nothing, to which a Node lends the port
abbrev pub lent_to : Topology → Listing → Element → Port → Bool
lent_to T listing (element.Switching s) q =
    (is_none s.inbound && is_none s.outbound)
    && (takes s.encoding q && list_any (λ (n : Placed). names (lending_in n.element) s.id && names (in_element listing n.element) q.id) (elements_of T))
lent_to T listing (element.Node n) q = false
lent_to T listing (element.Port p) q = false
lent_to T listing (element.Link l) q = false
lent_to T listing (element.Adaptation a) q = false
lent_to T listing (element.Deadaptation a) q = false
lent_to T listing (element.Conversion c) q = false

abbrev pub lent_ports : Topology → Listing → List (List ℕ)
lent_ports T listing = map (λ (e : Placed). numbers_where (lent_to T listing e.element) (ports T)) (elements_of T)

-- Lending by numbers

abbrev pub takes_number : Topology → Option Name → ℕ → Bool
takes_number T encoding n = unwrap_or (option_map (takes encoding) (slice_get (ports T) n)) false

-- the row with those of the ports that have the encoding
abbrev pub lent_of : Topology → ℕ → Option Name → List ℕ → List (ℕ × ℕ)
lent_of T row encoding found = map (λ p. (row, p)) (filter (takes_number T encoding) found)

-- the row with the ports of all these Nodes
abbrev pub lent_over : Topology → List (List ℕ) → ℕ → Option Name → List ℕ → List (ℕ × ℕ)
lent_over T listed row encoding nodes = flat_map (λ n. lent_of T row encoding (slice_index_or listed n [])) nodes

-- a table of this many rows of numbers below top
pub record IsTable (rows top : ℕ) (numbers : List (List ℕ)) : Type 0 where
  pub long : length numbers ≡ rows
  pub below : All (λ row. All (λ n. n < top) row) numbers

-- where the ports of an element stand that switches or converts
abbrev pub held_by : Element → Holding
held_by (element.Switching s) = cond (is_none s.inbound && is_none s.outbound) Lent Own
held_by (element.Conversion c) = Own
held_by (element.Node n) = Neither
held_by (element.Port p) = Neither
held_by (element.Link l) = Neither
held_by (element.Adaptation a) = Neither
held_by (element.Deadaptation a) = Neither
