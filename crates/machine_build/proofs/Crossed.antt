-- The moves from a near end to the far side of an element.
use Rattle.std.proofs.Common.{◌≡◌, ℕ, ◌+◌, ◌<◌, ◌≤◌, List, Bool, Some, map, length, sym, ◌∙◌, ap, subst, arith}
use Rattle.std.specs.Prelude.{slice_get}
use Rattle.std.proofs.lemmas.Option.{slice_get_within}
use Rattle.ml_base.specs.declared.numbers.PortNo.{PortNo}
use Rattle.ml_base.proofs.Lists.{one_of_some, some_at, same_at}
use Rattle.circuit_spec.specs.declared.hops.PlaceName.{PlaceName}
use Rattle.circuit_spec.specs.Network.{Tag, Topology, Port, IsClass, Linked, ports}
use Rattle.circuit_spec.proofs.ClassLemmas.{First-unique}
use Rattle.nml_inventory.specs.Relations.{AreNumbersOf}
use Rattle.open_places.specs.declared.span.Span.{Span}
use Rattle.machine_build.specs.declared.ways.Crossing.{Crossing}
use Rattle.machine_build.specs.declared.ways.End.{End}
use Rattle.machine_build.specs.declared.ways.Move.{Move}
use Rattle.machine_build.specs.Adding.{Adds, Between}
use Rattle.machine_build.specs.Frames.{HasClass}
use Rattle.machine_build.specs.Ways.{AreFitting, GoesFrom, HasLabel, IsEnd, IsFarPort, Lets, Way, is_far}
use Rattle.machine_build.proofs.Growing.{adds_first, adds_next, adds_same}
use Rattle.machine_build.proofs.Listed.{at_listed, listed_at, listed_once}

pub numbered_class : (T : Topology) (number : ℕ) (class : Port) → HasClass T number class → (p other : Port) → slice_get (ports T) number ≡ Some p → IsClass T p.id other → other ≡ class
numbered_class T number class has p other at is =
    let same : p ≡ has.port = same_at (ports T) number p has.port at has.port_at in
    First-unique (λ q. Linked T has.port.id q.id) (ports T) other class (subst (λ (x : Port). IsClass T x.id other) same is) has.is_class

-- Loops over the states of a span

module _ (T : Topology) (places : List PlaceName) (port : PortNo) (any : Bool) (label : Tag) (span : Span) (fit : AreFitting T places port.0 any label span) where
  -- a state of the span is an end with the label
  pub end_in : (k : ℕ) → span.first ≤ k → k < span.end → HasLabel T places any label (record { port = port; state = record { 0 = k } })
  end_in k low high =
      let x = some_at places k (omega (arith, high, fit.within)) in
      let f = (fit.are k x.0 x.1).1 (low, high) in
      record {
        port = fit.has_class.port;
        place = x.0;
        is_end = record { class = fit.class; port_at = fit.has_class.port_at; is_class = fit.has_class.is_class; place_at = x.1; named = f.0 };
        lets = f.1;
      }

  -- and the other way round
  pub in_span : (end : End) → end.port ≡ port → (p : Port) (place : PlaceName) → IsEnd T places end p place → Lets any label place.label → (span.first ≤ end.state.0) × (end.state.0 < span.end)
  in_span end at p place is lets =
      let same : is.class ≡ fit.class = numbered_class T port.0 fit.class fit.has_class p is.class (subst (λ (q : PortNo). slice_get (ports T) q.0 ≡ Some p) at is.port_at) is.is_class in
      (fit.are end.state.0 place is.place_at).0 (is.named ∙ ap (λ (x : Port). x.id) same, lets)

  pub end_is : (end : End) → end.port ≡ port → end ≡ record { port = port; state = record { 0 = end.state.0 } }
  end_is end at = let make : PortNo → End = λ p. record { port = p; state = end.state } in ap make at

module _ (T : Topology) (places : List PlaceName) (c : Crossing) where
  abbrev pub ToState : PortNo → ℕ → Way → Type 0
  ToState port state w = (w.element ≡ c.element) × (w.near ≡ c.near) × (w.far ≡ record { port = port; state = record { 0 = state } })

  pub to_state_apart : (port : PortNo) (j k : ℕ) (w : Way) → ToState port j w → ToState port k w → j ≡ k
  to_state_apart port j k w f g = ap (λ (e : End). e.state.0) (sym f.2 ∙ g.2)

  goes_far : (w : Way) (end : End) → w.element ≡ c.element → w.near ≡ c.near → w.far ≡ end → HasLabel T places c.any c.label end → GoesFrom T places c w
  goes_far w end e n f has = record { same_element = e; same_near = n; far = subst (λ x. HasLabel T places c.any c.label x) (sym f) has }

  pub far_port_whole : (port : PortNo) (span : Span) (state : ℕ) (old new : List Move) → AreFitting T places port.0 c.any c.label span → span.end ≤ state → state ≤ span.end
      → Adds (Between span.first state (ToState port)) (λ m. m.effect ≡ c.effect) old new → Adds (λ w. GoesFrom T places c w × (w.far.port ≡ port)) (λ m. m.effect ≡ c.effect) old new
  far_port_whole port span state old new fit past within a = adds_same (Between span.first state (ToState port)) (λ w. GoesFrom T places c w × (w.far.port ≡ port)) (λ m. m.effect ≡ c.effect) (λ m. m.effect ≡ c.effect) old new a
      (λ w u. let b = in_span T places port c.any c.label span fit w.far u.1 u.0.far.port u.0.far.place u.0.far.is_end u.0.far.lets in
      (w.far.state.0, b.0, omega (arith, b.1, past), (u.0.same_element, u.0.same_near, end_is T places port c.any c.label span fit w.far u.1)))
      (λ w r. (
        goes_far w (record { port = port; state = record { 0 = r.0 } }) r.3.0 r.3.1 r.3.2 (end_in T places port c.any c.label span fit r.0 r.1 (omega (arith, r.2, within))),
        ap (λ (e : End). e.port) r.3.2,
      ))
      (λ m r s. s)

  -- The loop over the ports of the far side
  module _ (ports_found : List PortNo) (listed : AreNumbersOf T (is_far T) c.element (map (λ (p : PortNo). p.0) ports_found)) where
    abbrev pub ToPort : ℕ → Way → Type 0
    ToPort j w = GoesFrom T places c w × (slice_get ports_found j ≡ Some w.far.port)

    pub far_side_first : (old : List Move) → Adds (Between 0 0 ToPort) (λ m. m.effect ≡ c.effect) old old
    far_side_first old = adds_first ToPort (λ m. m.effect ≡ c.effect) 0 old

    pub far_side_next : (n : ℕ) (q : PortNo) (old mid new : List Move) → slice_get ports_found n ≡ Some q → Adds (Between 0 n ToPort) (λ m. m.effect ≡ c.effect) old mid
        → Adds (λ w. GoesFrom T places c w × (w.far.port ≡ q)) (λ m. m.effect ≡ c.effect) mid new → Adds (Between 0 (n + 1) ToPort) (λ m. m.effect ≡ c.effect) old new
    far_side_next n q old mid new at a b = adds_next ToPort (λ m. m.effect ≡ c.effect) 0 n old mid new (omega arith)
        (λ j k w f g. listed_once T (is_far T) c.element ports_found listed j k w.far.port f.1 g.1) a
        (adds_same (λ w. GoesFrom T places c w × (w.far.port ≡ q)) (ToPort n) (λ m. m.effect ≡ c.effect) (λ m. m.effect ≡ c.effect) mid new b
        (λ w u. (u.0, one_of_some (sym u.1 ∙ at)))
        (λ w r. (r.0, at ∙ ap Some (sym r.1)))
        (λ m r s. s))

    pub far_side_whole : (n : ℕ) (old new : List Move) → length ports_found ≤ n → Adds (Between 0 n ToPort) (λ m. m.effect ≡ c.effect) old new
        → Adds (λ w. GoesFrom T places c w × IsFarPort T c.element w.far.port.0) (λ m. m.effect ≡ c.effect) old new
    far_side_whole n old new long a = adds_same (Between 0 n ToPort) (λ w. GoesFrom T places c w × IsFarPort T c.element w.far.port.0) (λ m. m.effect ≡ c.effect) (λ m. m.effect ≡ c.effect) old new a
        (λ w u. let j = at_listed T (is_far T) c.element ports_found listed w.far.port u.1.placed u.1.p u.1.element_at u.1.port_at u.1.far in
        (j.0, omega arith, let l = slice_get_within ports_found j.0 w.far.port j.1 in omega (arith, l, long), (u.0, j.1)))
        (λ w r. let l = listed_at T (is_far T) c.element ports_found listed r.0 w.far.port r.3.1 in
        (r.3.0, record { placed = l.0; p = l.1; element_at = l.2; port_at = l.3; far = l.4 }))
        (λ m r s. s)
