-- The first fault of the layers, by those of the classes, of the links and of the services.
use Rattle.std.proofs.Common.{◌≡◌, inl, inr, List, [], ◌++◌, ◌∙◌, ap}
use Rattle.std.specs.List.{flat_map}
use Rattle.circuit_spec.specs.declared.faults.LayerFault.{LayerFault}
use Rattle.circuit_spec.specs.Network.{Topology, ports}
use Rattle.circuit_spec.specs.Kept.{links}
use Rattle.circuit_spec.specs.Faults.{AliasFinds, ClassesFit, FirstFound, IsFirstLayerFault, IsFirstOf, IsSound, link_faults, switch_faults, switches}
use Rattle.layer_check.specs.Found.{IsAliasFault, IsFaultIn, IsLayerFault}
use Rattle.layer_check.proofs.Answering.{unless_map}

abbrev of_links : Topology → List LayerFault
of_links T = flat_map (link_faults T) (links T)

abbrev of_services : Topology → List LayerFault
of_services T = flat_map (switch_faults T) (switches T)

pub alias_first : (T : Topology) (f : LayerFault) → IsAliasFault T f → IsLayerFault T f
alias_first T f fault = unless_map (λ g. FirstFound (AliasFinds T) (ports T) g) (IsFirstLayerFault T) f (λ g first. inl first) fault

pub link_first : (T : Topology) (f : LayerFault) → ClassesFit T → IsFaultIn (flat_map (link_faults T) (links T)) f → IsLayerFault T f
link_first T f fit fault =
    unless_map (IsFirstOf (of_links T)) (IsFirstLayerFault T) f (λ g first. inr (fit, (first.0 ++ of_services T, ap (λ xs. xs ++ of_services T) first.1))) fault

pub service_first : (T : Topology) (f : LayerFault) → ClassesFit T → flat_map (link_faults T) (links T) ≡ [] → IsFaultIn (flat_map (switch_faults T) (switches T)) f → IsLayerFault T f
service_first T f fit none fault =
    unless_map (IsFirstOf (of_services T)) (IsFirstLayerFault T) f (λ g first. inr (fit, (first.0, ap (λ xs. xs ++ of_services T) none ∙ first.1))) fault

pub sound : (T : Topology) → ClassesFit T → flat_map (link_faults T) (links T) ≡ [] → flat_map (switch_faults T) (switches T) ≡ [] → IsSound T
sound T fit none last = record { classes = fit; relating = ap (λ xs. xs ++ of_services T) none ∙ last }
