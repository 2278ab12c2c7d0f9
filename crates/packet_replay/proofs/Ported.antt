-- The two ports of a hop, related by ids and by numbers.
use Rattle.std.proofs.Common.{◌≡◌, ◌↔◌, ℕ, [], Bool, true, false, ◌&&◌, Some, refl, sym, ◌∙◌, ap, subst}
use Rattle.std.specs.Prelude.{slice_get}
use Rattle.std.specs.Str.{bytes_eq}
use Rattle.std.proofs.lemmas.Bool.{and_parts, and_from}
use Rattle.std.proofs.lemmas.Slice.Eq.{bytes_eq-Decides}
use Rattle.ml_base.proofs.Lists.{any_among, one_of_some, same_at, place_among, among_place}
use Rattle.nml_elements.specs.declared.elements.Element.{Element}
use Rattle.nml_elements.specs.declared.elements.Element.TheVariants as element
use Rattle.circuit_spec.specs.declared.hops.Hop.{Hop}
use Rattle.circuit_spec.specs.declared.hops.HopKind.{HopKind}
use Rattle.circuit_spec.specs.declared.hops.HopKind.TheVariants as kind
use Rattle.circuit_spec.specs.Faults.{duplicate_ids, merge_faults}
use Rattle.circuit_spec.specs.Network.{Name, Topology, Port, names, port_has, ports}
use Rattle.circuit_spec.specs.Steps.{inbound_of, outbound_of}
use Rattle.circuit_spec.proofs.Alone.{found_port}
use Rattle.circuit_spec.proofs.Merged.{ids_once}
use Rattle.nml_inventory.proofs.Distinct.{same_place}
use Rattle.nml_inventory.proofs.PortNumbers.{distinct_ports}
use Rattle.packet_replay.specs.declared.numbers.Numbers.{Numbers}
use Rattle.packet_replay.specs.Conditions.{Relates, Way}
use Rattle.packet_replay.specs.Numbered.{AreNumbers, kind_of, relates_by}

same_truth : (a b : Bool) → (a ≡ true → b ≡ true) → (b ≡ true → a ≡ true) → a ≡ b
same_truth true b to back = sym (to refl)
same_truth false true to back = cc (back refl)
same_truth false false to back = refl

-- The port of an id is one
module _ (T : Topology) (once : duplicate_ids T ≡ []) where
  port_passes : (id : Name) (i : ℕ) (p : Port) (test : Port → Bool) → slice_get (ports T) i ≡ Some p → p.id ≡ id → port_has T id test ≡ test p
  port_passes id i p test at same = same_truth (port_has T id test) (test p) to back
    where
      to : port_has T id test ≡ true → test p ≡ true
      to h =
          let q = found_port T id test h in
          let j = place_among (ports T) q.0 q.1 in
          let number : i ≡ j.0 = same_place (λ (x : Port). x.id) (ports T) i j.0 p q.0 (distinct_ports T once) at j.1 (same ∙ sym q.2) in
          let one : p ≡ q.0 = same_at (ports T) i p q.0 at (subst (λ k. slice_get (ports T) k ≡ Some q.0) (sym number) j.1) in
          ap test one ∙ q.3

      back : test p ≡ true → port_has T id test ≡ true
      back t = any_among (λ x. bytes_eq x.id id && test x) (ports T) p (among_place (ports T) i p at) (and_from (bytes_eq p.id id) (test p) ((bytes_eq-Decides p.id id).1 same) t)

  module _ (h : Hop) (i j : ℕ) (p q : Port) (p_at : slice_get (ports T) i ≡ Some p) (q_at : slice_get (ports T) j ≡ Some q) (from : p.id ≡ h.from) (to : q.id ≡ h.to) where
    related_by : (e : Element) → kind_of e ≡ Some h.kind → relates_by T h.kind e p q ≡ true → Relates T h e
    related_by (element.Link l) k r =
        let same : h.kind ≡ kind.Link = sym (one_of_some k) in
        let b = and_parts (names p.sources l.id) (names q.sinks l.id) (ap (λ k. relates_by T k (element.Link l) p q) (sym same) ∙ r) in
        (same, port_passes h.from i p (λ x. names x.sources l.id) p_at from ∙ b.0, port_passes h.to j q (λ x. names x.sinks l.id) q_at to ∙ b.1)
    related_by (element.Switching s) k r =
        let same : h.kind ≡ kind.Cross = sym (one_of_some k) in
        let b = and_parts (names (inbound_of T s) p.id) (names (outbound_of T s) q.id) (ap (λ k. relates_by T k (element.Switching s) p q) (sym same) ∙ r) in
        (same, ap (names (inbound_of T s)) (sym from) ∙ b.0, ap (names (outbound_of T s)) (sym to) ∙ b.1)
    related_by (element.Adaptation a) k r =
        let same : h.kind ≡ kind.Adapt = sym (one_of_some k) in
        let b = and_parts (names a.ports p.id) (names q.services a.id) (ap (λ k. relates_by T k (element.Adaptation a) p q) (sym same) ∙ r) in
        (same, ap (names a.ports) (sym from) ∙ b.0, port_passes h.to j q (λ x. names x.services a.id) q_at to ∙ b.1)
    related_by (element.Deadaptation a) k r =
        let same : h.kind ≡ kind.Deadapt = sym (one_of_some k) in
        let b = and_parts (names p.services a.id) (names a.ports q.id) (ap (λ k. relates_by T k (element.Deadaptation a) p q) (sym same) ∙ r) in
        (same, port_passes h.from i p (λ x. names x.services a.id) p_at from ∙ b.0, ap (names a.ports) (sym to) ∙ b.1)
    related_by (element.Conversion c) k r =
        let same : h.kind ≡ kind.Convert = sym (one_of_some k) in
        let b = and_parts (names c.inbound p.id) (names c.outbound q.id) (ap (λ k. relates_by T k (element.Conversion c) p q) (sym same) ∙ r) in
        (same, ap (names c.inbound) (sym from) ∙ b.0, ap (names c.outbound) (sym to) ∙ b.1)
    related_by (element.Node n) k r = absurd (cc)
    related_by (element.Port x) k r = absurd (cc)

    kind_related : (e : Element) → Relates T h e → (kind_of e ≡ Some h.kind) × (relates_by T h.kind e p q ≡ true)
    kind_related (element.Link l) r = (
      ap Some (sym r.0),
      ap (λ k. relates_by T k (element.Link l) p q) r.0
          ∙ and_from (names p.sources l.id) (names q.sinks l.id) (sym (port_passes h.from i p (λ x. names x.sources l.id) p_at from) ∙ r.1) (sym (port_passes h.to j q (λ x. names x.sinks l.id) q_at to) ∙ r.2),
    )
    kind_related (element.Switching s) r = (
      ap Some (sym r.0),
      ap (λ k. relates_by T k (element.Switching s) p q) r.0
          ∙ and_from (names (inbound_of T s) p.id) (names (outbound_of T s) q.id) (ap (names (inbound_of T s)) from ∙ r.1) (ap (names (outbound_of T s)) to ∙ r.2),
    )
    kind_related (element.Adaptation a) r = (
      ap Some (sym r.0),
      ap (λ k. relates_by T k (element.Adaptation a) p q) r.0
          ∙ and_from (names a.ports p.id) (names q.services a.id) (ap (names a.ports) from ∙ r.1) (sym (port_passes h.to j q (λ x. names x.services a.id) q_at to) ∙ r.2),
    )
    kind_related (element.Deadaptation a) r = (
      ap Some (sym r.0),
      ap (λ k. relates_by T k (element.Deadaptation a) p q) r.0
          ∙ and_from (names p.services a.id) (names a.ports q.id) (sym (port_passes h.from i p (λ x. names x.services a.id) p_at from) ∙ r.1) (ap (names a.ports) to ∙ r.2),
    )
    kind_related (element.Conversion c) r = (
      ap Some (sym r.0),
      ap (λ k. relates_by T k (element.Conversion c) p q) r.0
          ∙ and_from (names c.inbound p.id) (names c.outbound q.id) (ap (names c.inbound) from ∙ r.1) (ap (names c.outbound) to ∙ r.2),
    )
    kind_related (element.Node n) r = absurd r
    kind_related (element.Port x) r = absurd r

-- whether the element relates the two ports, by its kind and its numbers
pub related_known : (T : Topology) → merge_faults T ≡ [] → (h : Hop) (way : Way) (numbers : Numbers) (are : AreNumbers T h way numbers) (k : HopKind) (b : Bool) → h.kind ≡ k → Some k ≡ kind_of way.placed.element
    → b ≡ relates_by T k way.placed.element are.from.port are.to.port → (b ≡ true) ↔ Relates T h way.placed.element
related_known T merged h way numbers are k b same is by =
    let once : duplicate_ids T ≡ [] = ids_once T merged in
    let e = way.placed.element in
    let p = are.from.port in
    let q = are.to.port in
    let by_kind : b ≡ relates_by T h.kind e p q = by ∙ ap (λ k. relates_by T k e p q) (sym same) in (
      λ t. related_by T once h numbers.from.port.0 numbers.to.port.0 p q are.from.port_at are.to.port_at are.from.same_id are.to.same_id e (sym is ∙ ap Some (sym same)) (sym by_kind ∙ t),
      λ r. by_kind ∙ (kind_related T once h numbers.from.port.0 numbers.to.port.0 p q are.from.port_at are.to.port_at are.from.same_id are.to.same_id e r).1,
    )
