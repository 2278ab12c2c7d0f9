use Rattle.std.proofs.Common.{◌≡◌, [], ◌∷◌, false, codes, refl}
use Rattle.std.specs.Str.{bytes_eq}
use Rattle.circuit_spec.specs.Network.{Linked, Name, ports}
use Rattle.circuit_spec.specs.Rows.{bare_port, domain_d}
use Rattle.circuit_spec.specs.ServiceRows.{encoded, otn_port, port_c}
use Rattle.circuit_spec.proofs.Alone.{NoAliases, alone_class, linked_alone}
use Rattle.circuit_spec.proofs.Tunnel.{apart}
use Rattle.circuit_spec.proofs.rows.own_encoding_first.Goals as goal

none : NoAliases (ports encoded)
none = (refl, (refl, (refl, tt)))

not_linked : {A : Type 0} (x y : Name) → bytes_eq x y ≡ false → Linked encoded x y → A
not_linked x y differ l = absurd (apart x y differ (linked_alone encoded x y none l))

pub returns-clause-own : goal.returns-clause-own
returns-clause-own c = alone_class encoded (codes "a") otn_port none refl

pub returns-clause-given : goal.returns-clause-given
returns-clause-given c = alone_class encoded (codes "c") (port_c (codes "eth")) none refl

pub returns-clause-none : goal.returns-clause-none
returns-clause-none c =
    alone_class (domain_d (bare_port (codes "c") [] [] ∷ []) ∷ []) (codes "c") (port_c (codes "none")) (refl, tt) refl

pub returns-clause-accepted : goal.returns-clause-accepted
returns-clause-accepted c = record {
  merged = refl;
  sound = record {
    classes = (
      (λ _. (refl, refl), (λ _. (refl, refl), (not_linked (codes "a") (codes "c") refl, tt))),
      (
        (λ _. (refl, refl), (λ _. (refl, refl), (not_linked (codes "b") (codes "c") refl, tt))),
        ((not_linked (codes "c") (codes "a") refl, (not_linked (codes "c") (codes "b") refl, (λ _. (refl, refl), tt))), tt),
      ),
    );
    relating = refl;
  };
}
