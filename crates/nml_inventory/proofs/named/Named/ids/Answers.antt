use Rattle.std.proofs.Common.{◌∙◌, sym, ap, map}
use Rattle.circuit_spec.specs.Network.{Placed, Topology, elements_of, id_of}
use Rattle.nml_inventory.proofs.Stands.{ids_are}
use Rattle.nml_inventory.proofs.named.Named.ids.Goals as goal

pub returns : goal.returns
returns c =
    c.self.invariant.are ∙ sym (ids_are c.self.inside.elements) ∙ ap (λ (T : Topology). map (λ (e : Placed). id_of e.element) (elements_of T)) c.self.view_is
