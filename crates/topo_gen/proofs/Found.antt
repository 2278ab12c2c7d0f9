-- Each element of each level is found by its id.
use Rattle.std.proofs.Common.{◌≡◌, ℕ, zero, suc, ◌+◌, ◌<◌, ◌≤◌, inl, inr, Some, sym, subst, arith}
use Rattle.std.proofs.lemmas.Bool.{cases_order}
use Rattle.ml_base.specs.Lists.{IsAmong}
use Rattle.ml_base.proofs.Lists.{among_left, among_right}
use Rattle.circuit_spec.specs.Network.{Placed, elements_of, element_named, id_of, placed_in}
use Rattle.topo_gen.specs.Tunnels.{ground, tunnel, generated_domains}
use Rattle.topo_gen.proofs.Rising.{found, rises_before_map}
use Rattle.topo_gen.proofs.Places.{upper, place_of, place_at, elements_rise}

-- an element of a level is one of the network
pub among_upper : (levels from count k : ℕ) (p : Placed) → from ≤ k → k < from + count → IsAmong (placed_in (tunnel levels k)) p → IsAmong (elements_of (upper levels from count)) p
among_upper levels from zero k p low high h = absurd (omega (arith, low, high))
among_upper levels from (suc count) k p low high h =
    elim (cases_order from k) [
      | inl e ↦ among_left (placed_in (tunnel levels from)) (elements_of (upper levels (from + 1) count)) p (subst (λ n. IsAmong (placed_in (tunnel levels n)) p) (sym e) h)
      | inr (inl below) ↦ among_right (placed_in (tunnel levels from)) (elements_of (upper levels (from + 1) count)) p (among_upper levels (from + 1) count k p (omega (arith, below)) (omega (arith, high)) h)
      | inr (inr above) ↦ absurd (omega (arith, low, above))
    ]

pub among_level : (levels k : ℕ) (p : Placed) → 1 ≤ k → k ≤ levels → IsAmong (placed_in (tunnel levels k)) p → IsAmong (elements_of (generated_domains levels)) p
among_level levels k p low high h = among_right (placed_in (ground levels)) (elements_of (upper levels 1 levels)) p (among_upper levels 1 levels k p low (omega (arith, high)) h)

pub among_ground : (levels : ℕ) (p : Placed) → IsAmong (placed_in (ground levels)) p → IsAmong (elements_of (generated_domains levels)) p
among_ground levels p h = among_left (placed_in (ground levels)) (elements_of (upper levels 1 levels)) p h

-- an element of the network is the one of its id
pub is_named : (levels : ℕ) (p : Placed) → levels ≤ 4096 → IsAmong (elements_of (generated_domains levels)) p → element_named (generated_domains levels) (id_of p.element) ≡ Some p
is_named levels p small h =
    let T = generated_domains levels in
    found (λ (q : Placed). id_of q.element) place_of 0 (elements_of T) p (rises_before_map place_at (λ (q : Placed). q.element) 0 (elements_of T) (elements_rise levels small)) h
