-- A unit has one next unit at most over a hop, so hops get stuck at one place at most, and then they are no run.
use Rattle.std.proofs.Common.{◌≡◌, inl, inr, List, [], ◌∷◌, ◌++◌, length, sym, ◌∙◌, ap, subst}
use Rattle.std.proofs.lemmas.List.{same_from_push}
use Rattle.std.proofs.lemmas.Option.{same_Some}
use Rattle.nml_elements.specs.declared.elements.Element.{Element}
use Rattle.nml_elements.specs.declared.elements.Element.TheVariants as element
use Rattle.circuit_spec.specs.declared.hops.Frame.{Frame}
use Rattle.circuit_spec.specs.declared.hops.Hop.{Hop}
use Rattle.circuit_spec.specs.declared.hops.Unit.{Unit as DataUnit}
use Rattle.circuit_spec.specs.Network.{Name, Tag, Topology, Placed, Port, IsClass, Linked, ports}
use Rattle.circuit_spec.specs.Steps.{Rule, Run, Step, frame_of}
use Rattle.circuit_spec.proofs.ClassLemmas.{First-unique}
use Rattle.circuit_spec.proofs.Ends.{Behind, splits}

pub one_class : (T : Topology) (port : Name) (x y : Port) → IsClass T port x → IsClass T port y → x ≡ y
one_class T port x y f g = First-unique (λ (q : Port). Linked T port q.id) (ports T) x y f g

-- the element leaves one stack
one_stack : (T : Topology) (h : Hop) (from to : Port) (e : Element) (old new other : List Frame) → Rule T h from to e old new → Rule T h from to e old other → new ≡ other
one_stack T h from to (element.Link l) old new other r s = r.5 ∙ sym s.5
one_stack T h from to (element.Switching x) old new other r s = r.4 ∙ sym s.4
one_stack T h from to (element.Adaptation a) old new other r s = r.3 ∙ sym s.3
one_stack T h from to (element.Deadaptation a) old new other r s =
    let frame = frame_of a.function to h.to_label in
    (same_from_push new other frame frame (sym r.3 ∙ s.3)).0
one_stack T h from to (element.Conversion c) old new other r s = r.3 ∙ sym s.3
one_stack T h from to (element.Node n) old new other r s = absurd r
one_stack T h from to (element.Port p) old new other r s = absurd r

unit_with : Name → Tag → List Frame → DataUnit
unit_with class label stack = record { class = class; label = label; stack = stack }

same_unit : (v w : DataUnit) → v.class ≡ w.class → v.label ≡ w.label → v.stack ≡ w.stack → v ≡ w
unfolding unit_with
same_unit v w e f g =
    ap (λ (c : Name). unit_with c v.label v.stack) e ∙ ap (λ (l : Tag). unit_with w.class l v.stack) f ∙ ap (unit_with w.class w.label) g

pub one_next : (T : Topology) (u : DataUnit) (h : Hop) (v w : DataUnit) → Step T u h v → Step T u h w → v ≡ w
one_next T u h v w s t =
    let placed : s.placed ≡ t.placed = same_Some s.placed t.placed (sym s.element ∙ t.element) in
    let from : s.from ≡ t.from = one_class T h.from s.from t.from s.leaves.is_class t.leaves.is_class in
    let to : s.to ≡ t.to = one_class T h.to s.to t.to s.enters.is_class t.enters.is_class in
    let by_from = subst (λ (p : Port). Rule T h p s.to s.placed.element u.stack v.stack) from s.rule in
    let by_to = subst (λ (p : Port). Rule T h t.from p s.placed.element u.stack v.stack) to by_from in
    let by_element = subst (λ (p : Placed). Rule T h t.from t.to p.element u.stack v.stack) placed by_to in
    same_unit v w
    (s.after.same_class ∙ ap (λ (p : Port). p.id) to ∙ sym t.after.same_class)
    (s.after.same_label ∙ sym t.after.same_label)
    (one_stack T h t.from t.to t.placed.element u.stack v.stack w.stack by_element t.rule)

-- the hop takes the unit nowhere
abbrev pub IsStuck : Topology → DataUnit → Hop → Type 0
IsStuck T u h = (next : DataUnit) → ¬ Step T u h next

pub stuck_runs_end : (T : Topology) (u : DataUnit) (before : List Hop) (hop : Hop) (after : List Hop) (left end : DataUnit) → Run T u before left → IsStuck T left hop → Run T u (before ++ hop ∷ after) end → ⊥
stuck_runs_end T u [] hop after left end run stuck whole = stuck whole.0 (subst (λ (w : DataUnit). Step T w hop whole.0) (sym run) whole.1)
stuck_runs_end T u (h ∷ before) hop after left end run stuck whole =
    let same : whole.0 ≡ run.0 = one_next T u h whole.0 run.0 whole.1 run.1 in
    stuck_runs_end T run.0 before hop after left end run.2 stuck (subst (λ (w : DataUnit). Run T w (before ++ hop ∷ after) end) same whole.2)

-- hops that run past the place where a unit is stuck are no run
not_past : (T : Topology) (u : DataUnit) (b : List Hop) (h : Hop) (c : List Hop) (v w : DataUnit) → Behind b h c → Run T u b v → IsStuck T v h → Run T u c w → ⊥
not_past T u b h c v w behind run stuck past = stuck_runs_end T u b h behind.more v w run stuck (subst (λ (hs : List Hop). Run T u hs w) behind.whole past)

pub one_stuck : (T : Topology) (u : DataUnit) (b : List Hop) (h : Hop) (a : List Hop) (v : DataUnit) (c : List Hop) (k : Hop) (d : List Hop) (w : DataUnit) → b ++ h ∷ a ≡ c ++ k ∷ d → Run T u b v → IsStuck T v h → Run T u c w → IsStuck T w k → length b ≡ length c
one_stuck T u b h a v c k d w same run stuck other stuck' =
    elim (splits b h a c k d same) [
      | inl s ↦ ap length s.0
      | inr more ↦ elim more [
        | inl behind ↦ absurd (not_past T u b h c v w behind run stuck other)
        | inr behind ↦ absurd (not_past T u c k b w v behind other stuck' run)
      ]
    ]

-- hops lead a unit to one unit at most
pub one_run : (T : Topology) (u : DataUnit) (hops : List Hop) (v w : DataUnit) → Run T u hops v → Run T u hops w → v ≡ w
one_run T u [] v w run other = run ∙ sym other
one_run T u (h ∷ hops) v w run other =
    let same : other.0 ≡ run.0 = one_next T u h other.0 run.0 other.1 run.1 in
    one_run T run.0 hops v w run.2 (subst (λ (x : DataUnit). Run T x hops w) same other.2)
