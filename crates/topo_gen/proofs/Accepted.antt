-- Generated networks are accepted.
use Rattle.std.proofs.Common.{◌≡◌, ℕ, ◌≤◌, [], map, refl, sym, subst, ap}
use Rattle.std.specs.List.{enumerate_from}
use Rattle.nml_elements.specs.declared.elements.Domain.{Domain}
use Rattle.circuit_spec.specs.declared.faults.MergeFault.TheVariants.{DuplicateTopology, DuplicateId}
use Rattle.circuit_spec.specs.Network.{id_of}
use Rattle.circuit_spec.specs.Faults.{IsAccepted, Located, located, duplicate_topologies, duplicate_ids}
use Rattle.topo_gen.specs.Tunnels.{generated_domains}
use Rattle.topo_gen.proofs.Rising.{Rises, rises_before_map, no_repeats}
use Rattle.topo_gen.proofs.Places.{place_of, place_at, number_in, elements_rise, domains_rise, located_elements}
use Rattle.topo_gen.proofs.Targets.{no_wrong_kinds}
use Rattle.topo_gen.proofs.Plain.{sound}

topologies_once : (levels : ℕ) → levels ≤ 4096 → duplicate_topologies (generated_domains levels) ≡ []
topologies_once levels small =
    let T = generated_domains levels in
    ap (λ pairs. map (λ (p : (ℕ × Domain) × (ℕ × Domain)). DuplicateTopology p.1.1.id p.0.0 p.1.0) pairs)
    (no_repeats (λ (f : ℕ × Domain). f.1.id) number_in 0 [] (enumerate_from 1 T) tt (domains_rise levels small))

ids_once : (levels : ℕ) → levels ≤ 4096 → duplicate_ids (generated_domains levels) ≡ []
ids_once levels small =
    let T = generated_domains levels in
    let rise = rises_before_map place_at (λ (e : Located). e.element) 0 (located T) (subst (Rises place_at 0) (sym (located_elements 1 T)) (elements_rise levels small)) in
    ap (λ pairs. map (λ (p : Located × Located). DuplicateId (id_of p.1.element) p.0.spot p.1.spot) pairs)
    (no_repeats (λ (e : Located). id_of e.element) place_of 0 [] (located T) tt rise)

pub accepted : (levels : ℕ) → levels ≤ 4096 → IsAccepted (generated_domains levels)
accepted levels small = record {
  merged = rw (topologies_once levels small, ids_once levels small, no_wrong_kinds levels small) refl;
  sound = sound levels;
}
