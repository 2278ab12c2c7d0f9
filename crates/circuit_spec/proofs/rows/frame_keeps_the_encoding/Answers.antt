use Rattle.std.proofs.Common.{◌≡◌, [], ◌∷◌, ◌++◌, None, Some, codes, refl, sym, ◌∙◌, ap}
use Rattle.std.specs.List.{find}
use Rattle.std.specs.Str.{bytes_eq}
use Rattle.circuit_spec.specs.declared.hops.Frame.{Frame}
use Rattle.circuit_spec.specs.declared.hops.HopKind.TheVariants as kind
use Rattle.circuit_spec.specs.declared.hops.Unit.{Unit as DataUnit}
use Rattle.circuit_spec.specs.Network.{IsClass, Linked, Name, Port, ports}
use Rattle.circuit_spec.specs.Steps.{Run, frame_of, unit_at}
use Rattle.circuit_spec.specs.Rows.{plain_hop, through_tunnel}
use Rattle.circuit_spec.specs.ServiceRows.{tunnel_between}
use Rattle.circuit_spec.proofs.Alone.{NoAliases, alone_class}
use Rattle.circuit_spec.proofs.ClassLemmas.{First-unique}
use Rattle.circuit_spec.proofs.Ends.{same_last}
use Rattle.circuit_spec.proofs.Plain.{read_port, rule_at}
use Rattle.circuit_spec.proofs.rows.frame_keeps_the_encoding.Goals as goal

abbrev client : Name → Name → Port
client id encoding = read_port id encoding [] [] []

none : (x y : Name) → NoAliases (ports (tunnel_between x y))
none x y = (refl, (refl, (refl, (refl, tt))))

-- the class of a client is its port
class_is_client : (x y id encoding : Name) (class : Port)
    → find (λ p. bytes_eq p.id id) (ports (tunnel_between x y)) ≡ Some (client id encoding)
    → IsClass (tunnel_between x y) id class → class.encoding ≡ encoding
class_is_client x y id encoding class found is_class =
    let T = tunnel_between x y in
    let its_own : IsClass T id (client id encoding) = alone_class T id (client id encoding) (none x y) found in
    let same : class ≡ client id encoding = First-unique (λ q. Linked T id q.id) (ports T) class (client id encoding) is_class its_own in
    ap (λ (p : Port). p.encoding) same

same_encoding : (x y : Name) (u v : DataUnit) → Run (tunnel_between x y) u through_tunnel v → x ≡ y
same_encoding x y u v run =
    let T = tunnel_between x y in
    let on = rule_at T u (plain_hop kind.Adapt (codes "ad") (codes "c1") (codes "s1")) run.0 run.1 _ refl in
    let along = rule_at T run.0 (plain_hop kind.Link (codes "t") (codes "s1") (codes "s2")) run.2.0 run.2.1 _ refl in
    let off = rule_at T run.2.0 (plain_hop kind.Deadapt (codes "de") (codes "s2") (codes "c2")) run.2.2.0 run.2.2.1 _ refl in
    let put : Frame = frame_of (codes "gfp") run.1.from None in
    let taken : Frame = frame_of (codes "gfp") run.2.2.1.to None in
    let whole : u.stack ++ put ∷ [] ≡ run.2.2.0.stack ++ taken ∷ [] = sym on.3 ∙ sym along.5 ∙ off.3 in
    let frames : put ≡ taken = (same_last u.stack run.2.2.0.stack put taken whole).1 in
    let encodings : run.1.from.encoding ≡ run.2.2.1.to.encoding = ap (λ (f : Frame). f.encoding) frames in
    let first : run.1.from.encoding ≡ x = class_is_client x y (codes "c1") x run.1.from refl run.1.leaves.is_class in
    let last : run.2.2.1.to.encoding ≡ y = class_is_client x y (codes "c2") y run.2.2.1.to refl run.2.2.1.enters.is_class in
    sym first ∙ encodings ∙ last

pub returns : goal.returns
returns c = λ from to circuit.
    let ends = circuit.0 in
    same_encoding from to (unit_at ends.from ends.from_label []) (unit_at ends.to ends.to_label []) (circuit.1 [])
