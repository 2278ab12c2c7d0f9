-- How much of each kind a network has.
use Rattle.std.specs.Prelude.{◌≡◌, ℕ, length, filter}
use Rattle.circuit_spec.specs.Network.{Topology, Placed, elements_of, ports}
use Rattle.circuit_spec.specs.Faults.{is_link, is_service}

-- the network has these many domains, ports, links and services
pub record HasCounts (T : Topology) (domains port_count links services : ℕ) : Type 0 where
  pub domain_count : length T ≡ domains
  pub ports_counted : length (ports T) ≡ port_count
  pub links_counted : length (filter (λ (p : Placed). is_link p.element) (elements_of T)) ≡ links
  pub services_counted : length (filter (λ (p : Placed). is_service p.element) (elements_of T)) ≡ services
