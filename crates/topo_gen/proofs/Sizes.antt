-- How many of each kind a generated network has, and that its entries are counted.
use Rattle.std.proofs.Common.{◌≡◌, ℕ, zero, suc, ◌+◌, ◌*◌, ◌<◌, ◌≤◌, ◌^◌, length, filter, refl, arith}
use Rattle.std.specs.List.{AllByRecursion}
use Rattle.std.proofs.lemmas.List.FromFn.{length-map-range_with_len}
use Rattle.nml_elements.specs.declared.elements.Domain.{Domain}
use Rattle.nml_elements.specs.FileWriting.{AreCounted}
use Rattle.circuit_spec.specs.Network.{Placed, elements_of, ports}
use Rattle.circuit_spec.specs.Faults.{is_link, is_service}
use Rattle.topo_gen.specs.Tunnels.{ground, tunnel, generated_domains}
use Rattle.topo_gen.specs.Counts.{HasCounts}
use Rattle.topo_gen.proofs.Places.{upper}

upper_ports : (levels from count : ℕ) → length (ports (upper levels from count)) ≡ 3 * count
unfolding tunnel
upper_ports levels from zero = refl
upper_ports levels from (suc count) = omega (arith, upper_ports levels (from + 1) count)

upper_links : (levels from count : ℕ) → length (filter (λ (p : Placed). is_link p.element) (elements_of (upper levels from count))) ≡ 0
unfolding tunnel
upper_links levels from zero = refl
upper_links levels from (suc count) = upper_links levels (from + 1) count

upper_services : (levels from count : ℕ) → length (filter (λ (p : Placed). is_service p.element) (elements_of (upper levels from count))) ≡ 4 * count
unfolding tunnel
upper_services levels from zero = refl
upper_services levels from (suc count) = omega (arith, upper_services levels (from + 1) count)

pub counts : (levels : ℕ) → HasCounts (generated_domains levels) (levels + 1) (2 + 3 * levels) 8 (4 * levels)
unfolding ground
counts levels = record {
  domain_count = omega (arith, length-map-range_with_len (tunnel levels) 1 levels);
  ports_counted = omega (arith, upper_ports levels 1 levels);
  links_counted = omega (arith, upper_links levels 1 levels);
  services_counted = omega (arith, upper_services levels 1 levels);
}

upper_size : (levels from count : ℕ) → length (elements_of (upper levels from count)) ≡ 7 * count
unfolding tunnel
upper_size levels from zero = refl
upper_size levels from (suc count) = omega (arith, upper_size levels (from + 1) count)

pub few : (levels : ℕ) → levels ≤ 4096 → length (elements_of (generated_domains levels)) < 2 ^ 32
unfolding ground
few levels small = omega (arith, upper_size levels 1 levels)

abbrev pub IsNumbered : Domain → Type 0
IsNumbered domain = AreCounted 1 domain.elements × (length domain.elements ≤ 16777216)

tunnel_numbered : (levels k : ℕ) → IsNumbered (tunnel levels k)
unfolding tunnel
tunnel_numbered levels k = ((refl, (refl, (refl, (refl, (refl, (refl, (refl, tt))))))), omega arith)

ground_numbered : (levels : ℕ) → IsNumbered (ground levels)
unfolding ground
ground_numbered levels = ((refl, (refl, (refl, (refl, (refl, (refl, (refl, (refl, (refl, (refl, tt)))))))))), omega arith)

upper_numbered : (levels from count : ℕ) → AllByRecursion IsNumbered (upper levels from count)
upper_numbered levels from zero = tt
upper_numbered levels from (suc count) = (tunnel_numbered levels from, upper_numbered levels (from + 1) count)

pub numbered : (levels : ℕ) → AllByRecursion IsNumbered (generated_domains levels)
numbered levels = (ground_numbered levels, upper_numbered levels 1 levels)
