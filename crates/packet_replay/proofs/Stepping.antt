-- A hop that fits a unit is a step of it, and a step is a hop that fits.
use Rattle.std.proofs.Common.{◌≡◌, ◌-◌, List, [], ◌∷◌, ◌++◌, length, take, refl, sym, ◌∙◌, ap, arith, length-append}
use Rattle.std.proofs.Math.Seq.{take-append_seam}
use Rattle.ml_base.proofs.Lists.{one_of_some}
use Rattle.nml_elements.specs.declared.elements.Element.{Element}
use Rattle.nml_elements.specs.declared.elements.Element.TheVariants as element
use Rattle.circuit_spec.specs.declared.hops.Frame.{Frame}
use Rattle.circuit_spec.specs.declared.hops.Hop.{Hop}
use Rattle.circuit_spec.specs.declared.hops.Unit.{Unit as DataUnit}
use Rattle.circuit_spec.specs.Network.{Name, Tag, Topology, Placed, Port}
use Rattle.circuit_spec.specs.Steps.{Rule, Step, frame_of}
use Rattle.circuit_spec.proofs.ClassLemmas.{one_class}
use Rattle.packet_replay.specs.Conditions.{Fits, IsWay, KeepsLabel, Relates, TakesTop, Way, stack_after, unit_after}

-- The hop of an element has one way

pub one_way : (T : Topology) (h : Hop) (x y : Way) → IsWay T h x → IsWay T h y → x ≡ y
one_way T h x y f g =
    let make : Placed → Port → Port → Way = λ placed from to. record { placed = placed; from = from; to = to } in
    let placed : x.placed ≡ y.placed = one_of_some (sym f.element ∙ g.element) in
    let from : x.from ≡ y.from = one_class T h.from x.from y.from f.from g.from in
    let to : x.to ≡ y.to = one_class T h.to x.to y.to f.to g.to in
    ap (λ p. make p x.from x.to) placed ∙ ap (λ p. make y.placed p x.to) from ∙ ap (λ p. make y.placed y.from p) to

-- The rule of the element

below_top : (below : List Frame) (frame : Frame) (stack : List Frame) → stack ≡ below ++ frame ∷ [] → take (length stack - 1) stack ≡ below
below_top below frame stack e =
    let n : length stack - 1 ≡ length below = omega (arith, ap length e, length-append below (frame ∷ [])) in
    ap (λ k. take k stack) n ∙ ap (take (length below)) e ∙ take-append_seam below (frame ∷ [])

rule_kept : (T : Topology) (h : Hop) (from to : Port) (e : Element) (stack : List Frame) → Relates T h e → KeepsLabel h e → TakesTop h to e stack → Rule T h from to e stack (stack_after h from e stack)
rule_kept T h from to (element.Link l) stack r k t = (r.0, r.1, r.2, k.0, k.1, refl)
rule_kept T h from to (element.Switching s) stack r k t = (r.0, r.1, r.2, k, refl)
rule_kept T h from to (element.Adaptation a) stack r k t = (r.0, r.1, r.2, refl)
rule_kept T h from to (element.Deadaptation a) stack r k t =
    let frame = frame_of a.function to h.to_label in
    (r.0, r.1, r.2, t.1 ∙ ap (λ (fs : List Frame). fs ++ frame ∷ []) (sym (below_top t.0 frame stack t.1)))
rule_kept T h from to (element.Conversion c) stack r k t = (r.0, r.1, r.2, refl)
rule_kept T h from to (element.Node n) stack r k t = absurd r
rule_kept T h from to (element.Port p) stack r k t = absurd r

pub record RuleParts (T : Topology) (h : Hop) (from to : Port) (e : Element) (old new : List Frame) : Type 0 where
  pub relates : Relates T h e
  pub keeps : KeepsLabel h e
  pub takes : TakesTop h to e old
  pub leaves : new ≡ stack_after h from e old

rule_parts : (T : Topology) (h : Hop) (from to : Port) (e : Element) (old new : List Frame) → Rule T h from to e old new → RuleParts T h from to e old new
rule_parts T h from to (element.Link l) old new r = record { relates = (r.0, r.1, r.2); keeps = (r.3, r.4); takes = tt; leaves = r.5 }
rule_parts T h from to (element.Switching s) old new r = record { relates = (r.0, r.1, r.2); keeps = r.3; takes = tt; leaves = r.4 }
rule_parts T h from to (element.Adaptation a) old new r = record { relates = (r.0, r.1, r.2); keeps = tt; takes = tt; leaves = r.3 }
rule_parts T h from to (element.Deadaptation a) old new r =
    record { relates = (r.0, r.1, r.2); keeps = tt; takes = (new, r.3); leaves = sym (below_top new (frame_of a.function to h.to_label) old r.3) }
rule_parts T h from to (element.Conversion c) old new r = record { relates = (r.0, r.1, r.2); keeps = tt; takes = tt; leaves = r.3 }
rule_parts T h from to (element.Node n) old new r = absurd r
rule_parts T h from to (element.Port p) old new r = absurd r

-- Steps

pub fitting_steps : (T : Topology) (u : DataUnit) (h : Hop) (way : Way) → Fits T u h way → Step T u h (unit_after h way u)
fitting_steps T u h way f = record {
  placed = way.placed;
  from = way.from;
  to = way.to;
  element = f.related.is_way.element;
  domain = f.related.domain;
  leaves = record { is_class = f.related.is_way.from; is_open = f.labels.leaves };
  enters = record { is_class = f.related.is_way.to; is_open = f.labels.enters };
  before = record { same_class = f.related.class; same_label = f.labels.label };
  after = record { same_class = refl; same_label = refl };
  rule = rule_kept T h way.from way.to way.placed.element u.stack f.related.relates f.labels.rule f.frame;
}

unit_is : (v : DataUnit) (class : Name) (label : Tag) (stack : List Frame) → v.class ≡ class → v.label ≡ label → v.stack ≡ stack → v ≡ record { class = class; label = label; stack = stack }
unit_is v class label stack e f g =
    let make : Name → Tag → List Frame → DataUnit = λ class label stack. record { class = class; label = label; stack = stack } in
    ap (λ c. make c v.label v.stack) e ∙ ap (λ l. make class l v.stack) f ∙ ap (λ s. make class label s) g

pub steps_fit : (T : Topology) (u : DataUnit) (h : Hop) (v : DataUnit) → Step T u h v → (way : Way) × Fits T u h way × (v ≡ unit_after h way u)
steps_fit T u h v s =
    let way : Way = record { placed = s.placed; from = s.from; to = s.to } in
    let r : RuleParts T h s.from s.to s.placed.element u.stack v.stack = rule_parts T h s.from s.to s.placed.element u.stack v.stack s.rule in (
      way,
      record {
        related = record {
          is_way = record { element = s.element; from = s.leaves.is_class; to = s.enters.is_class };
          domain = s.domain;
          relates = r.relates;
          class = s.before.same_class;
        };
        labels = record { label = s.before.same_label; leaves = s.leaves.is_open; enters = s.enters.is_open; rule = r.keeps };
        frame = r.takes;
      },
      unit_is v s.to.id h.to_label (stack_after h s.from s.placed.element u.stack) s.after.same_class s.after.same_label r.leaves,
    )
