-- The moves through elements.
use Rattle.std.proofs.Common.{◌≡◌, ℕ, ◌+◌, ◌<◌, ◌≤◌, inl, List, [], ◌++◌, Bool, true, false, None, Some, map, length, refl, sym, ◌∙◌, ap, subst, arith}
use Rattle.std.specs.Prelude.{option_map, slice_get}
use Rattle.std.proofs.lemmas.Bool.{both_ways}
use Rattle.std.proofs.lemmas.List.{append_assoc, append-nil}
use Rattle.std.proofs.lemmas.Option.{slice_get_within}
use Rattle.ml_base.specs.declared.numbers.PortNo.{PortNo}
use Rattle.ml_base.proofs.Lists.{one_of_some, same_at, at_left}
use Rattle.nml_elements.specs.declared.elements.Element.{Element}
use Rattle.nml_elements.specs.declared.elements.Element.TheVariants as element
use Rattle.circuit_spec.specs.declared.hops.Frame.{Frame}
use Rattle.circuit_spec.specs.declared.hops.PlaceName.{PlaceName}
use Rattle.circuit_spec.specs.Network.{Tag, Topology, Placed, Port, elements_of, ports}
use Rattle.nml_inventory.specs.Relations.{AreNumbersOf}
use Rattle.open_places.specs.declared.span.Span.{Span}
use Rattle.machine_build.specs.declared.ways.Crossing.{Crossing}
use Rattle.machine_build.specs.declared.ways.Effect.{Effect}
use Rattle.machine_build.specs.declared.ways.End.{End}
use Rattle.machine_build.specs.declared.ways.Move.{Move}
use Rattle.machine_build.specs.Adding.{Adds, AreMoves, Between}
use Rattle.machine_build.specs.Frames.{GoesOn, IsEffect, IsFramed}
use Rattle.machine_build.specs.Ways.{AreFitting, GoesFrom, IsDone, IsEnd, IsFarPort, IsFrom, IsNearEnd, IsNearPort, IsWay, Lets, Way, changes, is_far, is_near, takes, way_of}
use Rattle.machine_build.proofs.Crossed.{end_in, end_is, in_span}
use Rattle.machine_build.proofs.Growing.{adds_next, adds_none, adds_same}
use Rattle.machine_build.proofs.Listed.{at_listed, listed_at, listed_once}

-- Frames that go on

pub goes_on_none : {A : Type 0} (xs : List A) → GoesOn xs xs
goes_on_none xs = ([], sym (append-nil xs))

pub goes_on_then : {A : Type 0} (xs ys zs : List A) → GoesOn xs ys → GoesOn ys zs → GoesOn xs zs
goes_on_then xs ys zs a b = (a.0 ++ b.0, b.1 ∙ ap (λ l. l ++ b.0) a.1 ∙ append_assoc xs a.0 b.0)

still_at : {A : Type 0} (xs ys : List A) (k : ℕ) (x : A) → GoesOn xs ys → slice_get xs k ≡ Some x → slice_get ys k ≡ Some x
still_at xs ys k x a at = subst (λ l. slice_get l k ≡ Some x) (sym a.1) (at_left xs a.0 k x at)

still_framed : (old new : List Frame) (e : Element) (class : Port) (label : Tag) (number : ℕ) → GoesOn old new → IsFramed old e class label number → IsFramed new e class label number
still_framed old new (element.Adaptation a) class label number on f = still_at old new number _ on f
still_framed old new (element.Deadaptation a) class label number on f = still_at old new number _ on f
still_framed old new (element.Link l) class label number on f = tt
still_framed old new (element.Switching s) class label number on f = tt
still_framed old new (element.Conversion c) class label number on f = tt
still_framed old new (element.Node n) class label number on f = tt
still_framed old new (element.Port p) class label number on f = tt

still_effect : (T : Topology) (old new : List Frame) (e : Element) (near : ℕ) (label : Tag) (x : Effect) → GoesOn old new → IsEffect T old e near label x → IsEffect T new e near label x
still_effect T old new e near label x on is = record { class = is.class; has_class = is.has_class; kind_is = is.kind_is; cost_is = is.cost_is; framed = still_framed old new e is.class label x.frame.0 on is.framed }

pub still_done : (T : Topology) (places : List PlaceName) (old new : List Frame) → GoesOn old new → (m : Move) → IsDone T places old m → IsDone T places new m
still_done T places old new on m d = record { placed = d.placed; place = d.place; element_at = d.element_at; place_at = d.place_at; effect = still_effect T old new d.placed.element m.near.port.0 d.place.label m.effect on d.effect }

-- one addition of a loop, with more frames
module _ (T : Topology) (places : List PlaceName) (F : ℕ → Way → Type 0) (low n : ℕ) (frames more : List Frame) (old mid new : List Move) where
  pub done_next : low ≤ n → ((j k : ℕ) (w : Way) → F j w → F k w → j ≡ k) → GoesOn frames more
      → Adds (Between low n F) (IsDone T places frames) old mid → Adds (F n) (IsDone T places more) mid new → Adds (Between low (n + 1) F) (IsDone T places more) old new
  done_next from apart on a b = adds_next F (IsDone T places more) low n old mid new from apart
      (adds_same (Between low n F) (Between low n F) (IsDone T places frames) (IsDone T places more) old mid a (λ w u. u) (λ w r. r) (λ m r s. still_done T places frames more on m s)) b

-- Between one near end and the far side

pub element_there : (T : Topology) (places : List PlaceName) (number : ℕ) (near : End) (is : IsNearEnd T places number near) (e : Element) → option_map (λ (p : Placed). p.element) (slice_get (elements_of T) number) ≡ Some e → e ≡ is.near.placed.element
element_there T places number near is e at = one_of_some (sym at ∙ ap (option_map (λ (p : Placed). p.element)) is.near.element_at)

pub label_there : (T : Topology) (places : List PlaceName) (number : ℕ) (near : End) (is : IsNearEnd T places number near) (place : PlaceName) → slice_get places near.state.0 ≡ Some place → place.label ≡ is.place.label
label_there T places number near is place at = ap (λ (p : PlaceName). p.label) (same_at places near.state.0 place is.place at is.is_end.place_at)

module _ (T : Topology) (places : List PlaceName) (number : ℕ) (near : End) (is : IsNearEnd T places number near) (e : Element) (label : Tag)
    (element_is : e ≡ is.near.placed.element) (label_is : label ≡ is.place.label) where
  -- the element and the place of a way from there
  way_element : (w : Way) (way : IsWay T places w) → w.element ≡ number → way.placed.element ≡ e
  way_element w way same = ap (λ (p : Placed). p.element) (same_at (elements_of T) number way.placed is.near.placed (subst (λ k. slice_get (elements_of T) k ≡ Some way.placed) same way.element_at) is.near.element_at) ∙ sym element_is

  way_label : (w : Way) (way : IsWay T places w) → w.near ≡ near → way.leaves.label ≡ label
  way_label w way same = ap (λ (p : PlaceName). p.label) (same_at places near.state.0 way.leaves is.place (subst (λ (x : End). slice_get places x.state.0 ≡ Some way.leaves) same way.near.place_at) is.is_end.place_at) ∙ sym label_is

  -- a label that the element does not take goes nowhere
  pub takes_none : (frames : List Frame) (old : List Move) → takes e label ≡ false → Adds (λ w. IsWay T places w × (w.element ≡ number) × (w.near ≡ near)) (IsDone T places frames) old old
  takes_none frames old not_taken = adds_none (λ w. IsWay T places w × (w.element ≡ number) × (w.near ≡ near)) (IsDone T places frames) old
      (λ w r. both_ways (takes e label) not_taken (sym (ap (λ x. takes x r.0.leaves.label) (way_element w r.0 r.1) ∙ ap (takes e) (way_label w r.0 r.2)) ∙ r.0.taken))

  module _ (effect : Effect) (frames : List Frame) (taken : takes e label ≡ true) (does : IsEffect T frames e near.port.0 label effect) where
    abbrev here : Crossing
    here = record { element = number; near = near; label = label; any = changes e; effect = effect }

    goes : (w : Way) → IsWay T places w × (w.element ≡ number) × (w.near ≡ near) → GoesFrom T places here w × IsFarPort T number w.far.port.0
    goes w r =
        let way : IsWay T places w = r.0 in (
          record {
            same_element = r.1;
            same_near = r.2;
            far = record {
              port = way.to;
              place = way.enters;
              is_end = way.far;
              lets = subst (λ x. Lets (changes e) x way.enters.label) (way_label w way r.2) (subst (λ x. Lets (changes x) way.leaves.label way.enters.label) (way_element w way r.1) way.lets);
            };
          },
          record { placed = way.placed; p = way.to; element_at = subst (λ k. slice_get (elements_of T) k ≡ Some way.placed) r.1 way.element_at; port_at = way.far.port_at; far = way.to_far },
        )

    comes : (w : Way) → GoesFrom T places here w × IsFarPort T number w.far.port.0 → IsWay T places w × (w.element ≡ number) × (w.near ≡ near)
    comes w r =
        let g : GoesFrom T places here w = r.0 in
        let f : IsFarPort T number w.far.port.0 = r.1 in
        let placed : f.placed ≡ is.near.placed = same_at (elements_of T) number f.placed is.near.placed f.element_at is.near.element_at in
        let p : is.near.p ≡ is.port = same_at (ports T) near.port.0 is.near.p is.port is.near.port_at is.is_end.port_at in
        let q : f.p ≡ g.far.port = same_at (ports T) w.far.port.0 f.p g.far.port f.port_at g.far.is_end.port_at in (
          record {
            placed = is.near.placed;
            from = is.port;
            to = g.far.port;
            leaves = is.place;
            enters = g.far.place;
            element_at = subst (λ k. slice_get (elements_of T) k ≡ Some is.near.placed) (sym g.same_element) is.near.element_at;
            near = subst (λ x. IsEnd T places x is.port is.place) (sym g.same_near) is.is_end;
            far = g.far.is_end;
            from_near = subst (λ x. is_near T is.near.placed.element x ≡ true) p is.near.near;
            to_far = subst (λ (x : Placed). is_far T x.element g.far.port ≡ true) placed (subst (λ x. is_far T f.placed.element x ≡ true) q f.far);
            taken = subst (λ x. takes is.near.placed.element x ≡ true) label_is (subst (λ x. takes x label ≡ true) element_is taken);
            lets = subst (λ x. Lets (changes is.near.placed.element) x g.far.place.label) label_is (subst (λ x. Lets (changes x) label g.far.place.label) element_is g.far.lets);
          },
          g.same_element,
          g.same_near,
        )

    done : (m : Move) → GoesFrom T places here (way_of m) → m.effect ≡ effect → IsDone T places frames m
    done m g same = record {
      placed = is.near.placed;
      place = is.place;
      element_at = subst (λ k. slice_get (elements_of T) k ≡ Some is.near.placed) (sym g.same_element) is.near.element_at;
      place_at = subst (λ (x : End). slice_get places x.state.0 ≡ Some is.place) (sym g.same_near) is.is_end.place_at;
      effect = subst (λ x. IsEffect T frames is.near.placed.element m.near.port.0 is.place.label x) (sym same)
          (subst (λ (x : End). IsEffect T frames is.near.placed.element x.port.0 is.place.label effect) (sym g.same_near)
          (subst (λ x. IsEffect T frames is.near.placed.element near.port.0 x effect) label_is (subst (λ x. IsEffect T frames x near.port.0 label effect) element_is does)));
    }

    pub near_end_whole : (old new : List Move) → Adds (λ w. GoesFrom T places here w × IsFarPort T number w.far.port.0) (λ m. m.effect ≡ effect) old new
        → Adds (λ w. IsWay T places w × (w.element ≡ number) × (w.near ≡ near)) (IsDone T places frames) old new
    near_end_whole old new a = adds_same (λ w. GoesFrom T places here w × IsFarPort T number w.far.port.0) (λ w. IsWay T places w × (w.element ≡ number) × (w.near ≡ near)) (λ m. m.effect ≡ effect) (IsDone T places frames) old new a
        goes comes (λ m r s. done m r.0 s)

    pub near_end_by : (any : Bool) (old new : List Move) → any ≡ changes e
        → Adds (λ w. GoesFrom T places (record { element = number; near = near; label = label; any = any; effect = effect }) w × IsFarPort T number w.far.port.0) (λ m. m.effect ≡ effect) old new
        → Adds (λ w. IsWay T places w × (w.element ≡ number) × (w.near ≡ near)) (IsDone T places frames) old new
    near_end_by any old new same a =
        near_end_whole old new (subst (λ b. Adds (λ w. GoesFrom T places (record { element = number; near = near; label = label; any = b; effect = effect }) w × IsFarPort T number w.far.port.0) (λ m. m.effect ≡ effect) old new) same a)

-- The loop over the states of a near port

module _ (T : Topology) (places : List PlaceName) (number : ℕ) where
  abbrev pub FromState : PortNo → ℕ → Way → Type 0
  FromState port state w = IsFrom T places number port state w

  pub from_state_apart : (port : PortNo) (j k : ℕ) (w : Way) → FromState port j w → FromState port k w → j ≡ k
  from_state_apart port j k w f g = ap (λ (e : End). e.state.0) (sym f.2 ∙ g.2)

  pub near_end : (port : PortNo) (span : Span) (state : ℕ) → AreFitting T places port.0 true None span → IsNearPort T number port.0 → span.first ≤ state → state < span.end → IsNearEnd T places number (record { port = port; state = record { 0 = state } })
  near_end port span state fit near low high = let has = end_in T places port true None span fit state low high in record { port = has.port; place = has.place; is_end = has.is_end; near = near }

  pub near_port_whole : (port : PortNo) (span : Span) (state : ℕ) (frames : List Frame) (old new : List Move) → AreFitting T places port.0 true None span → span.end ≤ state
      → Adds (Between span.first state (FromState port)) (IsDone T places frames) old new → Adds (λ w. IsWay T places w × (w.element ≡ number) × (w.near.port ≡ port)) (IsDone T places frames) old new
  near_port_whole port span state frames old new fit past a = adds_same (Between span.first state (FromState port)) (λ w. IsWay T places w × (w.element ≡ number) × (w.near.port ≡ port)) (IsDone T places frames) (IsDone T places frames) old new a
      (λ w u. let b = in_span T places port true None span fit w.near u.2 u.0.from u.0.leaves u.0.near (inl refl) in
      (w.near.state.0, b.0, omega (arith, b.1, past), (u.0, u.1, end_is T places port true None span fit w.near u.2)))
      (λ w r. (r.3.0, r.3.1, ap (λ (e : End). e.port) r.3.2))
      (λ m r s. s)

  -- The loop over the ports of the near side
  module _ (ports_found : List PortNo) (listed : AreNumbersOf T (is_near T) number (map (λ (p : PortNo). p.0) ports_found)) where
    abbrev pub FromPort : ℕ → Way → Type 0
    FromPort j w = IsWay T places w × (w.element ≡ number) × (slice_get ports_found j ≡ Some w.near.port)

    pub from_port_apart : (j k : ℕ) (w : Way) → FromPort j w → FromPort k w → j ≡ k
    from_port_apart j k w f g = listed_once T (is_near T) number ports_found listed j k w.near.port f.2 g.2

    pub near_port : (n : ℕ) (q : PortNo) → slice_get ports_found n ≡ Some q → IsNearPort T number q.0
    near_port n q at = let l = listed_at T (is_near T) number ports_found listed n q at in record { placed = l.0; p = l.1; element_at = l.2; port_at = l.3; near = l.4 }

    pub from_port : (n : ℕ) (q : PortNo) (frames : List Frame) (old new : List Move) → slice_get ports_found n ≡ Some q
        → Adds (λ w. IsWay T places w × (w.element ≡ number) × (w.near.port ≡ q)) (IsDone T places frames) old new → Adds (FromPort n) (IsDone T places frames) old new
    from_port n q frames old new at a = adds_same (λ w. IsWay T places w × (w.element ≡ number) × (w.near.port ≡ q)) (FromPort n) (IsDone T places frames) (IsDone T places frames) old new a
        (λ w u. (u.0, u.1, one_of_some (sym u.2 ∙ at)))
        (λ w r. (r.0, r.1, at ∙ ap Some (sym r.2)))
        (λ m r s. s)

    pub element_whole : (n : ℕ) (frames : List Frame) (old new : List Move) → length ports_found ≤ n → Adds (Between 0 n FromPort) (IsDone T places frames) old new
        → Adds (λ w. IsWay T places w × (w.element ≡ number)) (IsDone T places frames) old new
    element_whole n frames old new long a = adds_same (Between 0 n FromPort) (λ w. IsWay T places w × (w.element ≡ number)) (IsDone T places frames) (IsDone T places frames) old new a
        (λ w u. let j = at_listed T (is_near T) number ports_found listed w.near.port u.0.placed u.0.from (subst (λ k. slice_get (elements_of T) k ≡ Some u.0.placed) u.1 u.0.element_at) u.0.near.port_at u.0.from_near in
        (j.0, omega arith, let l = slice_get_within ports_found j.0 w.near.port j.1 in omega (arith, l, long), (u.0, u.1, j.1)))
        (λ w r. (r.3.0, r.3.1))
        (λ m r s. s)

-- an element without far ports has no ways
pub no_far : (T : Topology) (places : List PlaceName) (number : ℕ) (found : List PortNo) → AreNumbersOf T (is_far T) number (map (λ (p : PortNo). p.0) found) → length found ≡ 0 → (frames : List Frame) (old : List Move)
    → Adds (λ w. IsWay T places w × (w.element ≡ number)) (IsDone T places frames) old old
no_far T places number found listed none frames old = adds_none (λ w. IsWay T places w × (w.element ≡ number)) (IsDone T places frames) old
    (λ w r. let j = at_listed T (is_far T) number found listed w.far.port r.0.placed r.0.to (subst (λ k. slice_get (elements_of T) k ≡ Some r.0.placed) r.1 r.0.element_at) r.0.far.port_at r.0.to_far in
    let l = slice_get_within found j.0 w.far.port j.1 in omega (arith, l, none))

-- The loop over the elements

module _ (T : Topology) (places : List PlaceName) where
  abbrev pub Through : ℕ → Way → Type 0
  Through number w = IsWay T places w × (w.element ≡ number)

  pub through_apart : (j k : ℕ) (w : Way) → Through j w → Through k w → j ≡ k
  through_apart j k w f g = sym f.1 ∙ g.1

  pub moves_whole : (n : ℕ) (frames : List Frame) (new : List Move) → length (elements_of T) ≤ n → Adds (Between 0 n Through) (IsDone T places frames) [] new → AreMoves T places frames new
  moves_whole n frames new long a = adds_same (Between 0 n Through) (IsWay T places) (IsDone T places frames) (IsDone T places frames) [] new a
      (λ w u. (w.element, omega arith, let l = slice_get_within (elements_of T) w.element u.placed u.element_at in omega (arith, l, long), (u, refl)))
      (λ w r. r.3.0)
      (λ m r s. s)
