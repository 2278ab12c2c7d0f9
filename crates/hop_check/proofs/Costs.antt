-- What the hops cost.
use Rattle.std.proofs.Common.{◌≡◌, ℕ, Option, None, Some, sym, ◌∙◌, ap}
use Rattle.std.specs.Prelude.{slice_get, option_map, unwrap_or}
use Rattle.ml_base.proofs.Lists.{one_of_some}
use Rattle.nml_elements.specs.declared.elements.Element.{Element}
use Rattle.circuit_spec.specs.declared.hops.Hop.{Hop}
use Rattle.circuit_spec.specs.Network.{Name, Topology, Placed, elements_of}
use Rattle.circuit_spec.specs.Steps.{cost_of, cost_of_element}
use Rattle.nml_inventory.specs.Numbers.{element_number}
use Rattle.packet_replay.proofs.Named.{element_of_number, no_element}

cost_at : Option Placed → ℕ
cost_at o = unwrap_or (option_map (λ (p : Placed). cost_of_element p.element) o) 0

module _ (T : Topology) (h : Hop) (text : Name) (same : text ≡ h.element) where
  -- a hop without an element costs nothing
  pub no_cost : None ≡ element_number T text → 0 ≡ cost_of T h
  unfolding cost_at
  no_cost e = ap cost_at (sym (no_element T h.element (ap (element_number T) (sym same) ∙ sym e)))

  module _ (n : ℕ) (at : Some n ≡ element_number T text) where
    pub element_there : None ≡ option_map (λ (p : Placed). p.element) (slice_get (elements_of T) n) → ⊥
    element_there e =
        let f = element_of_number T h.element n (ap (element_number T) (sym same) ∙ sym at) in
        let some = ap (option_map (λ (p : Placed). p.element)) f.1 in
        absurd cc

    pub its_cost : (e : Element) → Some e ≡ option_map (λ (p : Placed). p.element) (slice_get (elements_of T) n) → cost_of_element e ≡ cost_of T h
    unfolding cost_at
    its_cost e is =
        let f = element_of_number T h.element n (ap (element_number T) (sym same) ∙ sym at) in
        let one : e ≡ f.0.element = one_of_some (is ∙ ap (option_map (λ (p : Placed). p.element)) f.1) in
        ap cost_of_element one ∙ ap cost_at (sym f.2)
