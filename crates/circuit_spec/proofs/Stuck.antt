-- Where no element leads out of FROM, or none into TO, or each keeps the label, some requests have no walk.
use Rattle.std.proofs.Common.{◌≡◌, ◌⊎◌, inl, inr, ℕ, List, [], ◌∷◌, Bool, true, false, Some, sym, ◌∙◌, ap, subst}
use Rattle.std.specs.Str.{bytes_eq}
use Rattle.std.specs.List.{list_any}
use Rattle.std.proofs.lemmas.Bool.{false≢true}
use Rattle.ml_base.specs.declared.numbers.Wish.TheVariants.{Value}
use Rattle.ml_base.proofs.Lists.{any_among}
use Rattle.ml_base.specs.Lists.{IsAmong}
use Rattle.nml_elements.specs.declared.elements.Element.{Element}
use Rattle.nml_elements.specs.declared.elements.Element.TheVariants as element
use Rattle.circuit_spec.specs.declared.hops.Frame.{Frame}
use Rattle.circuit_spec.specs.declared.hops.Hop.{Hop}
use Rattle.circuit_spec.specs.declared.hops.Outcome.TheVariants.{NoWalk}
use Rattle.circuit_spec.specs.declared.hops.Request.{Request}
use Rattle.circuit_spec.specs.declared.hops.Unit.{Unit as DataUnit}
use Rattle.circuit_spec.specs.Network.{Name, Topology, Placed, Port}
use Rattle.circuit_spec.specs.Network.{elements_of, id_of, names, ports, sends_into, serves, takes_from}
use Rattle.circuit_spec.specs.Steps.{Ends, IsOutcome, Rule, Run, Step, inbound_of, outbound_of, unit_at}
use Rattle.circuit_spec.proofs.Among.{among_find}
use Rattle.circuit_spec.proofs.Alone.{NoAliases, class_alone}
use Rattle.circuit_spec.proofs.Tunnel.{apart}

-- hops of the element may begin at the port
abbrev pub leads_from : Topology → Name → Element → Bool
leads_from T port (element.Link l) = sends_into T port l.id
leads_from T port (element.Switching s) = names (inbound_of T s) port
leads_from T port (element.Adaptation a) = names a.ports port
leads_from T port (element.Deadaptation a) = serves T port a.id
leads_from T port (element.Conversion c) = names c.inbound port
leads_from T port (element.Node n) = false
leads_from T port (element.Port p) = false

-- hops of the element may end at the port
abbrev pub leads_to : Topology → Name → Element → Bool
leads_to T port (element.Link l) = takes_from T port l.id
leads_to T port (element.Switching s) = names (outbound_of T s) port
leads_to T port (element.Adaptation a) = serves T port a.id
leads_to T port (element.Deadaptation a) = names a.ports port
leads_to T port (element.Conversion c) = names c.outbound port
leads_to T port (element.Node n) = false
leads_to T port (element.Port p) = false

Rule-leads_from : (T : Topology) (h : Hop) (from to : Port) (e : Element) (old new : List Frame)
    → Rule T h from to e old new → leads_from T h.from e ≡ true
Rule-leads_from T h from to (element.Link l) old new r = r.1
Rule-leads_from T h from to (element.Switching s) old new r = r.1
Rule-leads_from T h from to (element.Adaptation a) old new r = r.1
Rule-leads_from T h from to (element.Deadaptation a) old new r = r.1
Rule-leads_from T h from to (element.Conversion c) old new r = r.1
Rule-leads_from T h from to (element.Node n) old new r = absurd r
Rule-leads_from T h from to (element.Port p) old new r = absurd r

Rule-leads_to : (T : Topology) (h : Hop) (from to : Port) (e : Element) (old new : List Frame)
    → Rule T h from to e old new → leads_to T h.to e ≡ true
Rule-leads_to T h from to (element.Link l) old new r = r.2
Rule-leads_to T h from to (element.Switching s) old new r = r.2
Rule-leads_to T h from to (element.Adaptation a) old new r = r.2
Rule-leads_to T h from to (element.Deadaptation a) old new r = r.2
Rule-leads_to T h from to (element.Conversion c) old new r = r.2
Rule-leads_to T h from to (element.Node n) old new r = absurd r
Rule-leads_to T h from to (element.Port p) old new r = absurd r

-- some element leads from the port
abbrev pub has_exit : Topology → Name → Bool
has_exit T port = list_any (λ (p : Placed). leads_from T port p.element) (elements_of T)

-- some element leads to the port
abbrev pub has_entrance : Topology → Name → Bool
has_entrance T port = list_any (λ (p : Placed). leads_to T port p.element) (elements_of T)

-- the element of a step is one of the topology
pub step_among : (T : Topology) (u : DataUnit) (h : Hop) (v : DataUnit) (s : Step T u h v) → IsAmong (elements_of T) s.placed
step_among T u h v s =
    let test : Placed → Bool = λ p. bytes_eq (id_of p.element) h.element in
    (among_find test (elements_of T) s.placed s.element).0

leaving : (T : Topology) (u : DataUnit) (h : Hop) (v : DataUnit) → NoAliases (ports T) → Step T u h v → has_exit T u.class ≡ true
leaving T u h v none s =
    let at_from : h.from ≡ u.class = (class_alone T h.from s.from none s.leaves.is_class).0 ∙ sym s.before.same_class in
    let leads : leads_from T h.from s.placed.element ≡ true = Rule-leads_from T h s.from s.to s.placed.element u.stack v.stack s.rule in
    let test : Placed → Bool = λ p. leads_from T h.from p.element in
    subst (λ x. has_exit T x ≡ true) at_from (any_among test (elements_of T) s.placed (step_among T u h v s) leads)

entering : (T : Topology) (u : DataUnit) (h : Hop) (v : DataUnit)
    → NoAliases (ports T) → Step T u h v → has_entrance T v.class ≡ true
entering T u h v none s =
    let at_to : h.to ≡ v.class = (class_alone T h.to s.to none s.enters.is_class).0 ∙ sym s.after.same_class in
    let leads : leads_to T h.to s.placed.element ≡ true = Rule-leads_to T h s.from s.to s.placed.element u.stack v.stack s.rule in
    let test : Placed → Bool = λ p. leads_to T h.to p.element in
    subst (λ x. has_entrance T x ≡ true) at_to (any_among test (elements_of T) s.placed (step_among T u h v s) leads)

Run-enters : (T : Topology) (u : DataUnit) (h : Hop) (hops : List Hop) (v : DataUnit)
    → NoAliases (ports T) → Run T u (h ∷ hops) v → has_entrance T v.class ≡ true
Run-enters T u h [] v none r = subst (λ (w : DataUnit). has_entrance T w.class ≡ true) (sym r.2) (entering T u h r.0 none r.1)
Run-enters T u h (i ∷ hops) v none r = Run-enters T r.0 i hops v none r.2

-- nothing leaves the one class, or nothing enters the other
abbrev pub AreCutOff : Topology → Name → Name → Type 0
AreCutOff T from to = (has_exit T from ≡ false) ⊎ (has_entrance T to ≡ false)

Run-cut_off : (T : Topology) (from to : Name) (u : DataUnit) (hops : List Hop) (v : DataUnit)
    → NoAliases (ports T) → u.class ≡ from → v.class ≡ to → AreCutOff T from to → bytes_eq from to ≡ false → Run T u hops v → ⊥
Run-cut_off T from to u [] v none at_from at_to cut differ r =
    let same : v.class ≡ u.class = ap (λ (w : DataUnit). w.class) r in
    apart from to differ (sym at_from ∙ sym same ∙ at_to)
Run-cut_off T from to u (h ∷ hops) v none at_from at_to (inl stuck) differ r =
    let leaves : has_exit T from ≡ true = subst (λ x. has_exit T x ≡ true) at_from (leaving T u h r.0 none r.1) in
    false≢true (sym stuck ∙ leaves)
Run-cut_off T from to u (h ∷ hops) v none at_from at_to (inr stuck) differ r =
    let enters : has_entrance T to ≡ true = subst (λ x. has_entrance T x ≡ true) at_to (Run-enters T u h hops v none r) in
    false≢true (sym stuck ∙ enters)

-- where no hop leaves FROM, or none enters TO, there is no walk
pub cut_off : (T : Topology) (r : Request)
    → NoAliases (ports T) → AreCutOff T r.from r.to → bytes_eq r.from r.to ≡ false → IsOutcome T r NoWalk
cut_off T r none cut differ = λ hops walk.
    let ends : Ends T r = walk.0 in
    let at_from : ends.from.id ≡ r.from = sym (class_alone T r.from ends.from none ends.from_allowed.place.is_class).0 in
    let at_to : ends.to.id ≡ r.to = sym (class_alone T r.to ends.to none ends.to_allowed.place.is_class).0 in
    let first_unit : DataUnit = unit_at ends.from ends.from_label [] in
    let last_unit : DataUnit = unit_at ends.to ends.to_label [] in
    Run-cut_off T r.from r.to first_unit hops last_unit none at_from at_to cut differ walk.1

-- each hop of the element keeps the label
abbrev pub KeepsLabel : Topology → Placed → Type 0
KeepsLabel T p = (h : Hop) (from to : Port) (old new : List Frame) → Rule T h from to p.element old new → h.to_label ≡ h.from_label

-- each hop keeps the label
abbrev pub KeepsLabels : Topology → Type 0
KeepsLabels T = (p : Placed) → IsAmong (elements_of T) p → KeepsLabel T p

Run-same_label : (T : Topology) (u : DataUnit) (hops : List Hop) (v : DataUnit) → KeepsLabels T → Run T u hops v → v.label ≡ u.label
Run-same_label T u [] v keeps r = ap (λ (w : DataUnit). w.label) r
Run-same_label T u (h ∷ hops) v keeps r =
    let s : Step T u h r.0 = r.1 in
    let kept : h.to_label ≡ h.from_label = keeps s.placed (step_among T u h r.0 s) h s.from s.to u.stack r.0.stack s.rule in
    Run-same_label T r.0 hops v keeps r.2 ∙ s.after.same_label ∙ kept ∙ sym s.before.same_label

-- where each hop keeps the label, there is no walk between two labels
pub labels_kept : (T : Topology) (from to : Name) (m n : ℕ)
    → KeepsLabels T → (m ≡ n → ⊥) → IsOutcome T (record { from = from; from_wish = Value m; to = to; to_wish = Value n }) NoWalk
labels_kept T from to m n keeps differ = λ hops walk.
    let first_unit : DataUnit = unit_at walk.0.from walk.0.from_label [] in
    let last_unit : DataUnit = unit_at walk.0.to walk.0.to_label [] in
    let kept : walk.0.to_label ≡ walk.0.from_label = Run-same_label T first_unit hops last_unit keeps walk.1 in
    let tags : Some m ≡ Some n = sym walk.0.from_allowed.wished ∙ sym kept ∙ walk.0.to_allowed.wished in
    let same : m ≡ n = cc in
    differ same
