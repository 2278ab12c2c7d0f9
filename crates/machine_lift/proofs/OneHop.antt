-- A step has one hop, and a hop does one thing to the stack.
use Rattle.std.proofs.Common.{◌≡◌, ℕ, [], ◌∷◌, ◌++◌, Some, refl, sym, ◌∙◌, ap, subst}
use Rattle.std.specs.Prelude.{slice_get}
use Rattle.ml_base.proofs.Lists.{same_at}
use Rattle.nml_elements.specs.declared.elements.Element.{Element}
use Rattle.nml_elements.specs.declared.elements.Element.TheVariants as element
use Rattle.adapt_machine.specs.declared.MachineStep.{MachineStep}
use Rattle.circuit_spec.specs.declared.hops.Frame.{Frame}
use Rattle.circuit_spec.specs.declared.hops.Hop.{Hop}
use Rattle.circuit_spec.specs.declared.hops.HopKind.{HopKind}
use Rattle.circuit_spec.specs.declared.hops.HopKind.TheVariants as kind
use Rattle.circuit_spec.specs.declared.hops.PlaceName.{PlaceName}
use Rattle.circuit_spec.specs.declared.hops.Unit.{Unit as DataUnit}
use Rattle.circuit_spec.specs.Network.{Name, Tag, Topology, Placed, Port, Linked, elements_of, id_of, ports}
use Rattle.circuit_spec.specs.Steps.{Rule, Step}
use Rattle.circuit_spec.specs.Segments.{unit_in}
use Rattle.circuit_spec.proofs.ClassLemmas.{First-unique}
use Rattle.circuit_spec.proofs.Effects.{Effect, keeps, puts, takes, Keeps, effect}
use Rattle.machine_build.specs.Built.{BuiltValue, IsHopAt, IsState, kind_of}
use Rattle.machine_build.specs.declared.built.Site.{Site}

-- The hop of a step

abbrev hop_with : HopKind → Name → Name → Tag → Name → Tag → Name → Hop
hop_with kind element from from_label to to_label domain = record {
  kind = kind;
  element = element;
  from = from;
  from_label = from_label;
  to = to;
  to_label = to_label;
  domain = domain;
}

same_parts : (g h : Hop) → g.kind ≡ h.kind → g.element ≡ h.element → g.from ≡ h.from → g.from_label ≡ h.from_label → g.to ≡ h.to → g.to_label ≡ h.to_label → g.domain ≡ h.domain → g ≡ h
same_parts g h k e f l t m d =
    ap (λ x. hop_with x g.element g.from g.from_label g.to g.to_label g.domain) k
    ∙ ap (λ x. hop_with h.kind x g.from g.from_label g.to g.to_label g.domain) e
    ∙ ap (λ x. hop_with h.kind h.element x g.from_label g.to g.to_label g.domain) f
    ∙ ap (λ x. hop_with h.kind h.element h.from x g.to g.to_label g.domain) l
    ∙ ap (λ x. hop_with h.kind h.element h.from h.from_label x g.to_label g.domain) t
    ∙ ap (λ x. hop_with h.kind h.element h.from h.from_label h.to x g.domain) m
    ∙ ap (λ x. hop_with h.kind h.element h.from h.from_label h.to h.to_label x) d

pub one_hop : (T : Topology) (b : BuiltValue) (k : ℕ) (g h : Hop) → IsHopAt T b k g → IsHopAt T b k h → g ≡ h
one_hop T b k g h a c =
    let step : a.step ≡ c.step = same_at b.machine.steps k a.step c.step a.step_at c.step_at in
    let site : a.site ≡ c.site = same_at b.sites k a.site c.site a.site_at c.site_at in
    let placed : a.placed ≡ c.placed = same_at (elements_of T) a.site.element a.placed c.placed a.element_at (subst (λ (s : Site). slice_get (elements_of T) s.element ≡ Some c.placed) (sym site) c.element_at) in
    let from : a.from ≡ c.from = same_at (ports T) a.site.from.0 a.from c.from a.from_at (subst (λ (s : Site). slice_get (ports T) s.from.0 ≡ Some c.from) (sym site) c.from_at) in
    let to : a.to ≡ c.to = same_at (ports T) a.site.to.0 a.to c.to a.to_at (subst (λ (s : Site). slice_get (ports T) s.to.0 ≡ Some c.to) (sym site) c.to_at) in
    let leaves : a.leaves ≡ c.leaves = same_at b.places a.step.from.0 a.leaves c.leaves a.leaves_at (subst (λ (s : MachineStep). IsState b s.from c.leaves) (sym step) c.leaves_at) in
    let enters : a.enters ≡ c.enters = same_at b.places a.step.to.0 a.enters c.enters a.enters_at (subst (λ (s : MachineStep). IsState b s.to c.enters) (sym step) c.enters_at) in
    let kinds : Some g.kind ≡ Some h.kind = sym a.same_kind ∙ ap (λ (p : Placed). kind_of p.element) placed ∙ c.same_kind in
    same_parts g h (cc) (a.same_element ∙ ap (λ (p : Placed). id_of p.element) placed ∙ sym c.same_element)
    (a.same_from ∙ ap (λ (p : Port). p.id) from ∙ sym c.same_from) (a.from_label ∙ ap (λ (p : PlaceName). p.label) leaves ∙ sym c.from_label)
    (a.same_to ∙ ap (λ (p : Port). p.id) to ∙ sym c.same_to) (a.to_label ∙ ap (λ (p : PlaceName). p.label) enters ∙ sym c.to_label)
    (a.same_domain ∙ ap (λ (p : Placed). p.domain.id) placed ∙ sym c.same_domain)

-- What a hop does to the stack, by its kind

keeping_kind : (T : Topology) (u : DataUnit) (h : Hop) (v : DataUnit) → u.stack ≡ [] → v.stack ≡ [] → Effect T u h v → Keeps h.kind
keeping_kind T u h v low high (keeps k e _) = k
keeping_kind T u h v low high (puts g k e _) = let f : [] ≡ [] ++ g ∷ [] = sym high ∙ e ∙ ap (λ s. s ++ g ∷ []) low in cc
keeping_kind T u h v low high (takes g k e _) = let f : [] ≡ [] ++ g ∷ [] = sym low ∙ e ∙ ap (λ s. s ++ g ∷ []) high in cc

putting_kind : (T : Topology) (u : DataUnit) (h : Hop) (v : DataUnit) (frame : Frame) → u.stack ≡ [] → v.stack ≡ frame ∷ [] → Effect T u h v → h.kind ≡ kind.Adapt
putting_kind T u h v frame low high (keeps k e _) = let f : frame ∷ [] ≡ [] = sym high ∙ e ∙ low in cc
putting_kind T u h v frame low high (puts g k e _) = k
putting_kind T u h v frame low high (takes g k e _) = let f : [] ≡ (frame ∷ []) ++ g ∷ [] = sym low ∙ e ∙ ap (λ s. s ++ g ∷ []) high in cc

taking_kind : (T : Topology) (u : DataUnit) (h : Hop) (v : DataUnit) (frame : Frame) → u.stack ≡ frame ∷ [] → v.stack ≡ [] → Effect T u h v → h.kind ≡ kind.Deadapt
taking_kind T u h v frame low high (keeps k e _) = let f : [] ≡ frame ∷ [] = sym high ∙ e ∙ low in cc
taking_kind T u h v frame low high (puts g k e _) = let f : [] ≡ (frame ∷ []) ++ g ∷ [] = sym high ∙ e ∙ ap (λ s. s ++ g ∷ []) low in cc
taking_kind T u h v frame low high (takes g k e _) = k

pub kept_kind : (T : Topology) (x : PlaceName) (h : Hop) (y : PlaceName) → Step T (unit_in x []) h (unit_in y []) → Keeps h.kind
kept_kind T x h y s = keeping_kind T (unit_in x []) h (unit_in y []) refl refl (effect T (unit_in x []) h (unit_in y []) s)

pub put_kind : (T : Topology) (x : PlaceName) (h : Hop) (y : PlaceName) (frame : Frame) → Step T (unit_in x []) h (unit_in y (frame ∷ [])) → h.kind ≡ kind.Adapt
put_kind T x h y frame s = putting_kind T (unit_in x []) h (unit_in y (frame ∷ [])) frame refl refl (effect T (unit_in x []) h (unit_in y (frame ∷ [])) s)

pub taken_kind : (T : Topology) (x : PlaceName) (h : Hop) (y : PlaceName) (frame : Frame) → Step T (unit_in x (frame ∷ [])) h (unit_in y []) → h.kind ≡ kind.Deadapt
taken_kind T x h y frame s = taking_kind T (unit_in x (frame ∷ [])) h (unit_in y []) frame refl refl (effect T (unit_in x (frame ∷ [])) h (unit_in y []) s)

-- One frame

put_by_rule : (T : Topology) (h : Hop) (from to : Port) (e : Element) (f g : Frame) → Rule T h from to e [] (f ∷ []) → Rule T h from to e [] (g ∷ []) → f ≡ g
put_by_rule T h from to (element.Link l) f g r q = let e : f ∷ [] ≡ [] = r.5 in absurd (cc)
put_by_rule T h from to (element.Switching s) f g r q = let e : f ∷ [] ≡ [] = r.4 in absurd (cc)
put_by_rule T h from to (element.Conversion c) f g r q = let e : f ∷ [] ≡ [] = r.3 in absurd (cc)
put_by_rule T h from to (element.Adaptation a) f g r q = let e : f ∷ [] ≡ g ∷ [] = r.3 ∙ sym q.3 in cc
put_by_rule T h from to (element.Deadaptation a) f g r q = let k : kind.Deadapt ≡ h.kind = sym r.0 in let e = r.3 in absurd (cc)
put_by_rule T h from to (element.Node n) f g r q = absurd r
put_by_rule T h from to (element.Port p) f g r q = absurd r

taken_by_rule : (T : Topology) (h : Hop) (from to : Port) (e : Element) (f g : Frame) → Rule T h from to e (f ∷ []) [] → Rule T h from to e (g ∷ []) [] → f ≡ g
taken_by_rule T h from to (element.Link l) f g r q = let e : [] ≡ f ∷ [] = r.5 in absurd (cc)
taken_by_rule T h from to (element.Switching s) f g r q = let e : [] ≡ f ∷ [] = r.4 in absurd (cc)
taken_by_rule T h from to (element.Conversion c) f g r q = let e : [] ≡ f ∷ [] = r.3 in absurd (cc)
taken_by_rule T h from to (element.Adaptation a) f g r q = let e = r.3 in absurd (cc)
taken_by_rule T h from to (element.Deadaptation a) f g r q = let e : f ∷ [] ≡ g ∷ [] = r.3 ∙ sym q.3 in cc
taken_by_rule T h from to (element.Node n) f g r q = absurd r
taken_by_rule T h from to (element.Port p) f g r q = absurd r

-- the rule of one step, said of the element and the classes of another of the same hop
same_rule : (T : Topology) (h : Hop) (u v w z : DataUnit) (s : Step T u h v) (t : Step T w h z) → Rule T h s.from s.to s.placed.element w.stack z.stack
same_rule T h u v w z s t =
    let placed : t.placed ≡ s.placed = let e : Some t.placed ≡ Some s.placed = sym t.element ∙ s.element in cc in
    let from : t.from ≡ s.from = First-unique (λ q. Linked T h.from q.id) (ports T) t.from s.from t.leaves.is_class s.leaves.is_class in
    let to : t.to ≡ s.to = First-unique (λ q. Linked T h.to q.id) (ports T) t.to s.to t.enters.is_class s.enters.is_class in
    subst (λ (p : Placed). Rule T h s.from s.to p.element w.stack z.stack) placed
    (subst (λ p. Rule T h s.from p t.placed.element w.stack z.stack) to (subst (λ p. Rule T h p t.to t.placed.element w.stack z.stack) from t.rule))

pub one_put : (T : Topology) (x : PlaceName) (h : Hop) (y : PlaceName) (f g : Frame) → Step T (unit_in x []) h (unit_in y (f ∷ [])) → Step T (unit_in x []) h (unit_in y (g ∷ [])) → f ≡ g
one_put T x h y f g s t = put_by_rule T h s.from s.to s.placed.element f g s.rule (same_rule T h (unit_in x []) (unit_in y (f ∷ [])) (unit_in x []) (unit_in y (g ∷ [])) s t)

pub one_taken : (T : Topology) (x : PlaceName) (h : Hop) (y : PlaceName) (f g : Frame) → Step T (unit_in x (f ∷ [])) h (unit_in y []) → Step T (unit_in x (g ∷ [])) h (unit_in y []) → f ≡ g
one_taken T x h y f g s t = taken_by_rule T h s.from s.to s.placed.element f g s.rule (same_rule T h (unit_in x (f ∷ [])) (unit_in y []) (unit_in x (g ∷ [])) (unit_in y []) s t)
