-- A unit has one next unit at most over a hop, with one frame more at most.
use Rattle.std.proofs.Common.{◌≡◌, ◌≤◌, ◌+◌, List, [], ◌∷◌, length, length-append, sym, ◌∙◌, ap, subst, arith}
use Rattle.std.proofs.lemmas.List.{same_from_push}
use Rattle.std.proofs.lemmas.Option.{same_Some}
use Rattle.nml_elements.specs.declared.elements.Element.{Element}
use Rattle.nml_elements.specs.declared.elements.Element.TheVariants as element
use Rattle.circuit_spec.specs.declared.hops.Frame.{Frame}
use Rattle.circuit_spec.specs.declared.hops.Hop.{Hop}
use Rattle.circuit_spec.specs.declared.hops.Unit.{Unit as DataUnit}
use Rattle.circuit_spec.specs.Network.{Name, Tag, Topology, Placed, Port}
use Rattle.circuit_spec.specs.Steps.{Rule, Step, frame_of}
use Rattle.circuit_spec.proofs.ClassLemmas.{one_class}

-- the element leaves one stack
one_stack : (T : Topology) (h : Hop) (from to : Port) (e : Element) (old new other : List Frame) → Rule T h from to e old new → Rule T h from to e old other → new ≡ other
one_stack T h from to (element.Link l) old new other r s = r.5 ∙ sym s.5
one_stack T h from to (element.Switching x) old new other r s = r.4 ∙ sym s.4
one_stack T h from to (element.Adaptation a) old new other r s = r.3 ∙ sym s.3
one_stack T h from to (element.Deadaptation a) old new other r s =
    let frame = frame_of a.function to h.to_label in
    (same_from_push new other frame frame (sym r.3 ∙ s.3)).0
one_stack T h from to (element.Conversion c) old new other r s = r.3 ∙ sym s.3
one_stack T h from to (element.Node n) old new other r s = absurd r
one_stack T h from to (element.Port p) old new other r s = absurd r

unit_with : Name → Tag → List Frame → DataUnit
unit_with class label stack = record { class = class; label = label; stack = stack }

same_unit : (v w : DataUnit) → v.class ≡ w.class → v.label ≡ w.label → v.stack ≡ w.stack → v ≡ w
unfolding unit_with
same_unit v w e f g =
    ap (λ (c : Name). unit_with c v.label v.stack) e ∙ ap (λ (l : Tag). unit_with w.class l v.stack) f ∙ ap (unit_with w.class w.label) g

pub one_next : (T : Topology) (u : DataUnit) (h : Hop) (v w : DataUnit) → Step T u h v → Step T u h w → v ≡ w
one_next T u h v w s t =
    let placed : s.placed ≡ t.placed = same_Some s.placed t.placed (sym s.element ∙ t.element) in
    let from : s.from ≡ t.from = one_class T h.from s.from t.from s.leaves.is_class t.leaves.is_class in
    let to : s.to ≡ t.to = one_class T h.to s.to t.to s.enters.is_class t.enters.is_class in
    let by_from = subst (λ (p : Port). Rule T h p s.to s.placed.element u.stack v.stack) from s.rule in
    let by_to = subst (λ (p : Port). Rule T h t.from p s.placed.element u.stack v.stack) to by_from in
    let by_element = subst (λ (p : Placed). Rule T h t.from t.to p.element u.stack v.stack) placed by_to in
    same_unit v w
    (s.after.same_class ∙ ap (λ (p : Port). p.id) to ∙ sym t.after.same_class)
    (s.after.same_label ∙ sym t.after.same_label)
    (one_stack T h t.from t.to t.placed.element u.stack v.stack w.stack by_element t.rule)

rule_height : (T : Topology) (h : Hop) (from to : Port) (e : Element) (old new : List Frame) → Rule T h from to e old new → length new ≤ length old + 1
rule_height T h from to (element.Link l) old new r = omega (arith, ap length r.5)
rule_height T h from to (element.Switching s) old new r = omega (arith, ap length r.4)
rule_height T h from to (element.Adaptation a) old new r = omega (arith, ap length r.3, length-append old (frame_of a.function from h.from_label ∷ []))
rule_height T h from to (element.Deadaptation a) old new r = omega (arith, ap length r.3, length-append new (frame_of a.function to h.to_label ∷ []))
rule_height T h from to (element.Conversion c) old new r = omega (arith, ap length r.3)
rule_height T h from to (element.Node n) old new r = absurd r
rule_height T h from to (element.Port p) old new r = absurd r

-- a step puts one frame on at most
pub step_height : (T : Topology) (u : DataUnit) (h : Hop) (v : DataUnit) → Step T u h v → length v.stack ≤ length u.stack + 1
step_height T u h v s = rule_height T h s.from s.to s.placed.element u.stack v.stack s.rule
