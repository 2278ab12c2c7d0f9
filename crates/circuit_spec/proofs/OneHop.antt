-- Circuits of one hop, where no port states an alias.
use Rattle.std.proofs.Common.{◌≡◌, List, [], ◌∷◌, Some, refl}
use Rattle.std.specs.Str.{bytes_eq}
use Rattle.std.specs.List.{find}
use Rattle.circuit_spec.specs.declared.hops.Frame.{Frame}
use Rattle.circuit_spec.specs.declared.hops.Hop.{Hop}
use Rattle.circuit_spec.specs.declared.hops.Request.{Request}
use Rattle.circuit_spec.specs.Network.{Topology, Placed, Port, IsOpen, element_named, ports}
use Rattle.circuit_spec.specs.Steps.{Circuit, IsWished, Rule, unit_at}
use Rattle.circuit_spec.proofs.Alone.{NoAliases, alone_class}
use Rattle.circuit_spec.proofs.Plain.{alone_step}

pub one_hop : (T : Topology) (r : Request) (h : Hop) (from to : Port) (placed : Placed)
    → NoAliases (ports T)
    → element_named T h.element ≡ Some placed → h.domain ≡ placed.domain.id
    → find (λ p. bytes_eq p.id h.from) (ports T) ≡ Some from → find (λ p. bytes_eq p.id r.from) (ports T) ≡ Some from
    → find (λ p. bytes_eq p.id h.to) (ports T) ≡ Some to → find (λ p. bytes_eq p.id r.to) (ports T) ≡ Some to
    → IsOpen T from h.from_label → IsWished r.from_wish h.from_label
    → IsOpen T to h.to_label → IsWished r.to_wish h.to_label
    → ((stack : List Frame) → Rule T h from to placed.element stack stack)
    → Circuit T r (h ∷ [])
one_hop T r h from to placed none held domain from_held asked_from to_held asked_to from_open from_wished to_open to_wished rule = (
  record {
    from = from;
    from_label = h.from_label;
    to = to;
    to_label = h.to_label;
    from_allowed = record {
      place = record { is_class = alone_class T r.from from none asked_from; is_open = from_open };
      wished = from_wished;
    };
    to_allowed = record { place = record { is_class = alone_class T r.to to none asked_to; is_open = to_open }; wished = to_wished };
  },
  λ stack. (
    unit_at to h.to_label stack,
    alone_step T h from to placed stack stack none held domain from_held from_open to_held to_open (rule stack),
    refl,
  ),
)
