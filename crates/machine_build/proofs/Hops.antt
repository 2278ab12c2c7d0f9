-- The steps of the machine are the hops of the network.
use Rattle.std.proofs.Common.{◌≡◌, ℕ, List, [], Option, Some, map, refl, sym, ◌∙◌, ap, subst, Contains}
use Rattle.std.specs.Prelude.{slice_get, unwrap_or, option_map}
use Rattle.ml_base.specs.declared.numbers.StateNo.{StateNo}
use Rattle.ml_base.proofs.Lists.{same_at, place_among, among_place}
use Rattle.circuit_spec.specs.declared.hops.Frame.{Frame}
use Rattle.circuit_spec.specs.declared.hops.Hop.{Hop}
use Rattle.circuit_spec.specs.declared.hops.PlaceName.{PlaceName}
use Rattle.circuit_spec.specs.Faults.{duplicate_ids}
use Rattle.circuit_spec.specs.Network.{Topology, Placed, Port, IsClass, IsPlace, elements_of, element_named, id_of, ports}
use Rattle.circuit_spec.specs.Segments.{unit_in}
use Rattle.circuit_spec.specs.Steps.{Rule, Step, cost_of, cost_of_element}
use Rattle.circuit_spec.proofs.ClassLemmas.{class_of_itself, one_class}
use Rattle.open_places.specs.Places.{IsRising}
use Rattle.adapt_machine.specs.declared.MachineStep.{MachineStep}
use Rattle.adapt_machine.specs.Machine.{MachineValue}
use Rattle.machine_build.specs.declared.built.Site.{Site}
use Rattle.machine_build.specs.declared.ways.End.{End}
use Rattle.machine_build.specs.declared.ways.Move.{Move}
use Rattle.machine_build.specs.Adding.{AreMoves, HasWay}
use Rattle.machine_build.specs.Built.{BuiltValue, IsDoneBy, IsHopAt, IsState, MovesBy, kind_of}
use Rattle.machine_build.specs.Frames.{IsFramed, step_kind}
use Rattle.machine_build.specs.Ways.{AreOpen, IsDone, IsEnd, IsWay, Way, far_by, from_of, near_by, site_by, site_of, step_by, step_of, to_of, way_of}
use Rattle.machine_build.proofs.Crossed.{numbered_class}
use Rattle.machine_build.proofs.Fitting.{one_state, same_place}
use Rattle.machine_build.proofs.Items.{at_contains, at_mapped, mapped_at}
use Rattle.machine_build.proofs.Named.{element_found, element_id, element_numbered, one_element, one_number}
use Rattle.machine_build.proofs.Passages.{IsFramedBy, Passage, Passes, Related, Sides, far_is, from_is, kind_is, makes_hops, moved, near_is, passage, rule_related, sides, site_element, step_cost, to_is}

module _ (T : Topology) (places : List PlaceName) (frames : List Frame) where
  -- what is known of a move and of its hop
  pub record HopOf (m : Move) (h : Hop) : Type 0 where
    pub placed : Placed
    pub element_at : slice_get (elements_of T) m.element ≡ Some placed
    pub passage : Passage T places frames placed.element (from_of (step_of m) (site_of m)) (to_of (step_of m) (site_of m)) (step_of m).frame.0
    pub kind_is : m.effect.kind ≡ step_kind placed.element
    pub cost_is : m.effect.cost ≡ cost_of_element placed.element
    pub same_kind : kind_of placed.element ≡ Some h.kind
    pub same_element : h.element ≡ id_of placed.element
    pub same_from : h.from ≡ passage.p.id
    pub from_label : h.from_label ≡ passage.leaves.label
    pub same_to : h.to ≡ passage.q.id
    pub to_label : h.to_label ≡ passage.enters.label
    pub same_domain : h.domain ≡ placed.domain.id

  module _ (m : Move) (way : IsWay T places (way_of m)) (d : IsDone T places frames m) where
    same_placed : d.placed ≡ way.placed
    same_placed = same_at (elements_of T) m.element d.placed way.placed d.element_at way.element_at

    kind_there : m.effect.kind ≡ step_kind way.placed.element
    kind_there = d.effect.kind_is ∙ ap (λ (p : Placed). step_kind p.element) same_placed

    cost_there : m.effect.cost ≡ cost_of_element way.placed.element
    cost_there = d.effect.cost_is ∙ ap (λ (p : Placed). cost_of_element p.element) same_placed

    framed_there : IsFramed frames way.placed.element way.near.class way.leaves.label m.effect.frame.0
    framed_there =
        let class : way.near.class ≡ d.effect.class = numbered_class T m.near.port.0 d.effect.class d.effect.has_class way.from way.near.class way.near.port_at way.near.is_class in
        let place : d.place ≡ way.leaves = same_at places m.near.state.0 d.place way.leaves d.place_at way.near.place_at in
        subst (λ c. IsFramed frames way.placed.element c way.leaves.label m.effect.frame.0) (sym class)
        (subst (λ (x : PlaceName). IsFramed frames way.placed.element d.effect.class x.label m.effect.frame.0) place
        (subst (λ (x : Placed). IsFramed frames x.element d.effect.class d.place.label m.effect.frame.0) same_placed d.effect.framed))

    pub passage_there : Passage T places frames way.placed.element (from_of (step_of m) (site_of m)) (to_of (step_of m) (site_of m)) (step_of m).frame.0
    passage_there = subst (λ k. Passage T places frames way.placed.element (from_of (step_by k m) (site_by k m)) (to_of (step_by k m) (site_by k m)) (step_by k m).frame.0) (sym kind_there)
        (passage T places frames way.placed.element m way.from way.to way.leaves way.enters way.near way.far way.from_near way.to_far way.taken way.lets framed_there)

-- a place of an end is open
open_end : (T : Topology) (places : List PlaceName) → AreOpen T places → (end : End) (p : Port) (x : PlaceName) (is : IsEnd T places end p x) → IsPlace T p.id x.label is.class
open_end T places opened end p x is =
    let o = opened end.state.0 x is.place_at in
    let same : o.0 ≡ is.class = one_class T is.class.id o.0 is.class (subst (λ id. IsClass T id o.0) (sym o.1 ∙ is.named) o.2.is_class) (class_of_itself T p.id is.class is.is_class) in
    record { is_class = is.is_class; is_open = (subst (λ (c : Port). IsPlace T o.0.id x.label c) same o.2).is_open }

module _ (T : Topology) (none : duplicate_ids T ≡ []) (places : List PlaceName) (opened : AreOpen T places) (frames : List Frame) (m : Move) (h : Hop) (of : HopOf T places frames m h) where
  named : element_named T h.element ≡ Some of.placed
  named = ap (element_named T) of.same_element ∙ element_found T m.element of.placed none of.element_at

  costs : cost_of T h ≡ (step_of m).cost
  costs = ap (λ (o : Option Placed). unwrap_or (option_map (λ (p : Placed). cost_of_element p.element) o) 0) named ∙ sym of.cost_is ∙ sym (step_cost m.effect.kind m)

  stepped : (old new : List Frame) → Rule T h of.passage.from_end.class of.passage.to_end.class of.placed.element old new → Step T (unit_in of.passage.leaves old) h (unit_in of.passage.enters new)
  stepped old new rule = record {
    placed = of.placed;
    from = of.passage.from_end.class;
    to = of.passage.to_end.class;
    element = named;
    domain = of.same_domain;
    leaves = subst (λ id. IsPlace T id h.from_label of.passage.from_end.class) (sym of.same_from)
        (subst (λ l. IsPlace T of.passage.p.id l of.passage.from_end.class) (sym of.from_label) (open_end T places opened (from_of (step_of m) (site_of m)) of.passage.p of.passage.leaves of.passage.from_end));
    enters = subst (λ id. IsPlace T id h.to_label of.passage.to_end.class) (sym of.same_to)
        (subst (λ l. IsPlace T of.passage.q.id l of.passage.to_end.class) (sym of.to_label) (open_end T places opened (to_of (step_of m) (site_of m)) of.passage.q of.passage.enters of.passage.to_end));
    before = record { same_class = of.passage.from_end.named; same_label = sym of.from_label };
    after = record { same_class = of.passage.to_end.named; same_label = sym of.to_label };
    rule = rule;
  }

  pub hop_done : IsDoneBy T frames of.passage.leaves of.passage.enters (step_of m) h
  hop_done =
      let pa : Passage T places frames of.placed.element (from_of (step_of m) (site_of m)) (to_of (step_of m) (site_of m)) (step_of m).frame.0 = of.passage in
      record {
        costs = costs;
        moves = subst (λ k. MovesBy T frames of.passage.leaves of.passage.enters h (step_of m).frame.0 k) (sym (kind_is m.effect.kind m ∙ of.kind_is))
            (moved T frames h of.passage.from_end.class of.passage.to_end.class of.passage.p of.passage.q
            (among_place (ports T) (site_of m).from.0 of.passage.p of.passage.from_end.port_at) (among_place (ports T) (site_of m).to.0 of.passage.q of.passage.to_end.port_at)
            of.same_from of.same_to of.passage.leaves of.passage.enters of.placed.element (step_of m).frame.0 stepped of.same_kind
            (subst (λ x. Passes T of.placed.element of.passage.p x of.passage.q h.to_label) (sym of.from_label)
            (subst (λ y. Passes T of.placed.element of.passage.p of.passage.leaves.label of.passage.q y) (sym of.to_label) of.passage.passes))
            (subst (λ x. IsFramedBy frames of.placed.element of.passage.from_end.class x of.passage.to_end.class h.to_label (step_of m).frame.0) (sym of.from_label)
            (subst (λ y. IsFramedBy frames of.placed.element of.passage.from_end.class of.passage.leaves.label of.passage.to_end.class y (step_of m).frame.0) (sym of.to_label) of.passage.framed)));
      }

module _ (T : Topology) (none : duplicate_ids T ≡ []) (places : List PlaceName) (rise : IsRising places) (opened : AreOpen T places) (frames : List Frame) (moves : List Move) (adds : AreMoves T places frames moves)
    (machine : MachineValue) (sites : List Site) (starts targets : List StateNo) (steps_are : machine.steps ≡ map step_of moves) (sites_are : sites ≡ map site_of moves) where
  abbrev b : BuiltValue
  b = record { machine = machine; places = places; sites = sites; starts = starts; targets = targets }

  has_way : (w : Way) → IsWay T places w → HasWay moves w
  has_way w is = subst (λ l. HasWay l w) (sym adds.whole) (adds.all w is)

  way_at : (k : ℕ) (m : Move) → slice_get moves k ≡ Some m → IsWay T places (way_of m)
  way_at k m at = adds.only k m (subst (λ l. slice_get l k ≡ Some m) adds.whole at)

  done_at : (k : ℕ) (m : Move) → slice_get moves k ≡ Some m → IsDone T places frames m
  done_at k m at = adds.done k m (subst (λ l. slice_get l k ≡ Some m) adds.whole at)

  way_once : (i j : ℕ) (m n : Move) → slice_get moves i ≡ Some m → slice_get moves j ≡ Some n → way_of m ≡ way_of n → i ≡ j
  way_once i j m n at_i at_j same = adds.once i j m n (subst (λ l. slice_get l i ≡ Some m) adds.whole at_i) (subst (λ l. slice_get l j ≡ Some n) adds.whole at_j) same

  step_there : (k : ℕ) (m : Move) → slice_get moves k ≡ Some m → slice_get machine.steps k ≡ Some (step_of m)
  step_there k m at = subst (λ l. slice_get l k ≡ Some (step_of m)) (sym steps_are) (mapped_at step_of moves k m at)

  site_there : (k : ℕ) (m : Move) → slice_get moves k ≡ Some m → slice_get sites k ≡ Some (site_of m)
  site_there k m at = subst (λ l. slice_get l k ≡ Some (site_of m)) (sym sites_are) (mapped_at site_of moves k m at)

  move_of : (k : ℕ) (t : MachineStep) → slice_get machine.steps k ≡ Some t → (m : Move) × (slice_get moves k ≡ Some m) × (t ≡ step_of m)
  move_of k t at = at_mapped step_of moves k t (subst (λ l. slice_get l k ≡ Some t) steps_are at)

  -- The hop of each step

  pub a_hop : (k : ℕ) (t : MachineStep) → slice_get machine.steps k ≡ Some t → (h : Hop) × IsHopAt T b k h
  a_hop k t at =
      let m = move_of k t at in
      let way : IsWay T places (way_of m.0) = way_at k m.0 m.1 in
      let pa : Passage T places frames way.placed.element (from_of (step_of m.0) (site_of m.0)) (to_of (step_of m.0) (site_of m.0)) (step_of m.0).frame.0 = passage_there T places frames m.0 way (done_at k m.0 m.1) in
      let kind = makes_hops T way.placed.element pa.p pa.q pa.leaves.label pa.enters.label pa.passes in
      let h : Hop = record { kind = kind.0; element = id_of way.placed.element; from = pa.p.id; from_label = pa.leaves.label; to = pa.q.id; to_label = pa.enters.label; domain = way.placed.domain.id } in (
        h,
        record {
          step = step_of m.0;
          site = site_of m.0;
          placed = way.placed;
          from = pa.p;
          to = pa.q;
          leaves = pa.leaves;
          enters = pa.enters;
          step_at = step_there k m.0 m.1;
          site_at = site_there k m.0 m.1;
          element_at = subst (λ n. slice_get (elements_of T) n ≡ Some way.placed) (sym (site_element m.0.effect.kind m.0)) way.element_at;
          from_at = pa.from_end.port_at;
          to_at = pa.to_end.port_at;
          leaves_at = pa.from_end.place_at;
          enters_at = pa.to_end.place_at;
          same_kind = kind.1;
          same_element = refl;
          same_from = refl;
          from_label = refl;
          same_to = refl;
          to_label = refl;
          same_domain = refl;
        },
      )

  -- what a hop at a place is of
  record Made (k : ℕ) (h : Hop) (hop : IsHopAt T b k h) : Type 0 where
    pub move : Move
    pub at : slice_get moves k ≡ Some move
    pub of : HopOf T places frames move h
    pub step_is : hop.step ≡ step_of move
    pub site_is : hop.site ≡ site_of move
    pub leaves_is : hop.leaves ≡ of.passage.leaves
    pub enters_is : hop.enters ≡ of.passage.enters

  made : (k : ℕ) (h : Hop) (hop : IsHopAt T b k h) → Made k h hop
  made k h hop =
      let f = move_of k hop.step hop.step_at in
      let m : Move = f.0 in
      let site : hop.site ≡ site_of m = same_at sites k hop.site (site_of m) hop.site_at (site_there k m f.1) in
      let way : IsWay T places (way_of m) = way_at k m f.1 in
      let d : IsDone T places frames m = done_at k m f.1 in
      let pa : Passage T places frames way.placed.element (from_of (step_of m) (site_of m)) (to_of (step_of m) (site_of m)) (step_of m).frame.0 = passage_there T places frames m way d in
      let placed : hop.placed ≡ way.placed = same_at (elements_of T) m.element hop.placed way.placed (subst (λ n. slice_get (elements_of T) n ≡ Some hop.placed) (ap (λ (s : Site). s.element) site ∙ site_element m.effect.kind m) hop.element_at) way.element_at in
      let from : hop.from ≡ pa.p = same_at (ports T) (site_of m).from.0 hop.from pa.p (subst (λ (s : Site). slice_get (ports T) s.from.0 ≡ Some hop.from) site hop.from_at) pa.from_end.port_at in
      let to : hop.to ≡ pa.q = same_at (ports T) (site_of m).to.0 hop.to pa.q (subst (λ (s : Site). slice_get (ports T) s.to.0 ≡ Some hop.to) site hop.to_at) pa.to_end.port_at in
      let leaves : hop.leaves ≡ pa.leaves = same_at places (step_of m).from.0 hop.leaves pa.leaves (subst (λ (t : MachineStep). slice_get places t.from.0 ≡ Some hop.leaves) f.2 hop.leaves_at) pa.from_end.place_at in
      let enters : hop.enters ≡ pa.enters = same_at places (step_of m).to.0 hop.enters pa.enters (subst (λ (t : MachineStep). slice_get places t.to.0 ≡ Some hop.enters) f.2 hop.enters_at) pa.to_end.place_at in
      record {
        move = m;
        at = f.1;
        of = record {
          placed = way.placed;
          element_at = way.element_at;
          passage = pa;
          kind_is = kind_there T places frames m way d;
          cost_is = cost_there T places frames m way d;
          same_kind = ap (λ (p : Placed). kind_of p.element) (sym placed) ∙ hop.same_kind;
          same_element = hop.same_element ∙ ap (λ (p : Placed). id_of p.element) placed;
          same_from = hop.same_from ∙ ap (λ (p : Port). p.id) from;
          from_label = hop.from_label ∙ ap (λ (x : PlaceName). x.label) leaves;
          same_to = hop.same_to ∙ ap (λ (p : Port). p.id) to;
          to_label = hop.to_label ∙ ap (λ (x : PlaceName). x.label) enters;
          same_domain = hop.same_domain ∙ ap (λ (p : Placed). p.domain.id) placed;
        };
        step_is = f.2;
        site_is = site;
        leaves_is = leaves;
        enters_is = enters;
      }

  -- does what the step does
  pub hop_sound : (k : ℕ) (t : MachineStep) (h : Hop) (x y : PlaceName) → slice_get machine.steps k ≡ Some t → IsHopAt T b k h → IsState b t.from x → IsState b t.to y → IsDoneBy T frames x y t h
  hop_sound k t h x y at hop x_at y_at =
      let f : Made k h hop = made k h hop in
      let step : t ≡ step_of f.move = same_at machine.steps k t (step_of f.move) at (step_there k f.move f.at) in
      let leaves : x ≡ f.of.passage.leaves = same_at places (step_of f.move).from.0 x f.of.passage.leaves (subst (λ (s : MachineStep). slice_get places s.from.0 ≡ Some x) step x_at) f.of.passage.from_end.place_at in
      let enters : y ≡ f.of.passage.enters = same_at places (step_of f.move).to.0 y f.of.passage.enters (subst (λ (s : MachineStep). slice_get places s.to.0 ≡ Some y) step y_at) f.of.passage.to_end.place_at in
      subst (λ s. IsDoneBy T frames x y s h) (sym step) (subst (λ p. IsDoneBy T frames p y (step_of f.move) h) (sym leaves) (subst (λ q. IsDoneBy T frames f.of.passage.leaves q (step_of f.move) h) (sym enters) (hop_done T none places opened frames f.move h f.of)))

  -- Each hop is that of a step

  pub hop_there : (x y : PlaceName) (s u : List Frame) (h : Hop) → Contains places x → Contains places y → Step T (unit_in x s) h (unit_in y u) → (k : ℕ) × (hop : IsHopAt T b k h) × (hop.leaves ≡ x) × (hop.enters ≡ y)
  hop_there x y s u h x_in y_in st =
      let e = element_numbered T h.element st.placed st.element in
      let r : Related T h st.placed.element = rule_related T h st.from st.to st.placed.element s u st.leaves.is_class st.enters.is_class st.rule in
      let i = place_among (ports T) r.p r.p_in in
      let j = place_among (ports T) r.q r.q_in in
      let x_at = at_contains places x x_in in
      let y_at = at_contains places y y_in in
      let from : End = record { port = record { 0 = i.0 }; state = record { 0 = x_at.0 } } in
      let to : End = record { port = record { 0 = j.0 }; state = record { 0 = y_at.0 } } in
      let from_end : IsEnd T places from r.p x = record { class = st.from; port_at = i.1; is_class = subst (λ id. IsClass T id st.from) (sym r.p_id) st.leaves.is_class; place_at = x_at.1; named = st.before.same_class } in
      let to_end : IsEnd T places to r.q y = record { class = st.to; port_at = j.1; is_class = subst (λ id. IsClass T id st.to) (sym r.q_id) st.enters.is_class; place_at = y_at.1; named = st.after.same_class } in
      let passes : Passes T st.placed.element r.p x.label r.q y.label =
      subst (λ l. Passes T st.placed.element r.p l r.q y.label) (sym st.before.same_label) (subst (λ l. Passes T st.placed.element r.p h.from_label r.q l) (sym st.after.same_label) r.passes) in
      let side : Sides T places frames st.placed.element (near_by (step_kind st.placed.element) from to) (far_by (step_kind st.placed.element) from to) = sides T places frames st.placed.element from to r.p r.q x y from_end to_end passes in
      let w : Way = record { element = e.0; near = near_by (step_kind st.placed.element) from to; far = far_by (step_kind st.placed.element) from to } in
      let way : HasWay moves w = has_way w (record { placed = st.placed; from = side.p; to = side.q; leaves = side.x; enters = side.y; element_at = e.1; near = side.near_end; far = side.far_end; from_near = side.at_near; to_far = side.at_far; taken = side.taken; lets = side.lets }) in
      let m : Move = way.move in
      let there : IsWay T places (way_of m) = way_at way.place m way.at in
      let number : m.element ≡ e.0 = ap (λ (v : Way). v.element) way.is in
      let placed : there.placed ≡ st.placed = same_at (elements_of T) e.0 there.placed st.placed (subst (λ n. slice_get (elements_of T) n ≡ Some there.placed) number there.element_at) e.1 in
      let kind : m.effect.kind ≡ step_kind st.placed.element = kind_there T places frames m there (done_at way.place m way.at) ∙ ap (λ (p : Placed). step_kind p.element) placed in
      let near : m.near ≡ near_by m.effect.kind from to = ap (λ (v : Way). v.near) way.is ∙ ap (λ k. near_by k from to) (sym kind) in
      let far : m.far ≡ far_by m.effect.kind from to = ap (λ (v : Way). v.far) way.is ∙ ap (λ k. far_by k from to) (sym kind) in
      let f : from_of (step_of m) (site_of m) ≡ from = from_is m.effect.kind m from to near far in
      let t : to_of (step_of m) (site_of m) ≡ to = to_is m.effect.kind m from to near far in (
        way.place,
        record {
          step = step_of m;
          site = site_of m;
          placed = st.placed;
          from = r.p;
          to = r.q;
          leaves = x;
          enters = y;
          step_at = step_there way.place m way.at;
          site_at = site_there way.place m way.at;
          element_at = subst (λ n. slice_get (elements_of T) n ≡ Some st.placed) (sym (site_element m.effect.kind m ∙ number)) e.1;
          from_at = subst (λ (v : End). slice_get (ports T) v.port.0 ≡ Some r.p) (sym f) i.1;
          to_at = subst (λ (v : End). slice_get (ports T) v.port.0 ≡ Some r.q) (sym t) j.1;
          leaves_at = subst (λ (v : End). slice_get places v.state.0 ≡ Some x) (sym f) x_at.1;
          enters_at = subst (λ (v : End). slice_get places v.state.0 ≡ Some y) (sym t) y_at.1;
          same_kind = r.is_kind;
          same_element = element_id T h.element st.placed st.element;
          same_from = sym r.p_id;
          from_label = sym st.before.same_label;
          same_to = sym r.q_id;
          to_label = sym st.after.same_label;
          same_domain = st.domain;
        },
        refl,
        refl,
      )

  -- and of one alone

  same_end : (d e : End) (p q : Port) (x y : PlaceName) → IsEnd T places d p x → IsEnd T places e q y → p.id ≡ q.id → x.label ≡ y.label → d ≡ e
  same_end d e p q x y is_d is_e ids labels =
      let number : d.port.0 ≡ e.port.0 = one_number T d.port.0 e.port.0 p q none is_d.port_at is_e.port_at ids in
      let class : is_d.class ≡ is_e.class = one_class T q.id is_d.class is_e.class (subst (λ id. IsClass T id is_d.class) ids is_d.is_class) is_e.is_class in
      let place : x ≡ y = same_place x y (is_d.named ∙ ap (λ (c : Port). c.id) class ∙ sym is_e.named) labels in
      let state : d.state.0 ≡ e.state.0 = one_state places rise d.state.0 e.state.0 y (subst (λ z. slice_get places d.state.0 ≡ Some z) place is_d.place_at) is_e.place_at in
      let make : ℕ → ℕ → End = λ n k. record { port = record { 0 = n }; state = record { 0 = k } } in
      ap (λ n. make n d.state.0) number ∙ ap (λ k. make e.port.0 k) state

  pub hop_once : (j k : ℕ) (h : Hop) → IsHopAt T b j h → IsHopAt T b k h → j ≡ k
  hop_once j k h hop_j hop_k =
      let f : Made j h hop_j = made j h hop_j in
      let g : Made k h hop_k = made k h hop_k in
      let m : Move = f.move in
      let n : Move = g.move in
      let number : m.element ≡ n.element = one_element T m.element n.element f.of.placed g.of.placed none f.of.element_at g.of.element_at (sym f.of.same_element ∙ g.of.same_element) in
      let placed : f.of.placed ≡ g.of.placed = same_at (elements_of T) n.element f.of.placed g.of.placed (subst (λ i. slice_get (elements_of T) i ≡ Some f.of.placed) number f.of.element_at) g.of.element_at in
      let kind : m.effect.kind ≡ n.effect.kind = f.of.kind_is ∙ ap (λ (p : Placed). step_kind p.element) placed ∙ sym g.of.kind_is in
      let from : from_of (step_of m) (site_of m) ≡ from_of (step_of n) (site_of n) = same_end (from_of (step_of m) (site_of m)) (from_of (step_of n) (site_of n)) f.of.passage.p g.of.passage.p f.of.passage.leaves g.of.passage.leaves f.of.passage.from_end g.of.passage.from_end
      (sym f.of.same_from ∙ g.of.same_from) (sym f.of.from_label ∙ g.of.from_label) in
      let to : to_of (step_of m) (site_of m) ≡ to_of (step_of n) (site_of n) = same_end (to_of (step_of m) (site_of m)) (to_of (step_of n) (site_of n)) f.of.passage.q g.of.passage.q f.of.passage.enters g.of.passage.enters f.of.passage.to_end g.of.passage.to_end
      (sym f.of.same_to ∙ g.of.same_to) (sym f.of.to_label ∙ g.of.to_label) in
      let near : m.near ≡ n.near = near_is m.effect.kind m ∙ ap (λ i. near_by i (from_of (step_of m) (site_of m)) (to_of (step_of m) (site_of m))) kind
      ∙ ap (λ v. near_by n.effect.kind v (to_of (step_of m) (site_of m))) from ∙ ap (λ v. near_by n.effect.kind (from_of (step_of n) (site_of n)) v) to ∙ sym (near_is n.effect.kind n) in
      let far : m.far ≡ n.far = far_is m.effect.kind m ∙ ap (λ i. far_by i (from_of (step_of m) (site_of m)) (to_of (step_of m) (site_of m))) kind
      ∙ ap (λ v. far_by n.effect.kind v (to_of (step_of m) (site_of m))) from ∙ ap (λ v. far_by n.effect.kind (from_of (step_of n) (site_of n)) v) to ∙ sym (far_is n.effect.kind n) in
      let make : ℕ → End → End → Way = λ i v w. record { element = i; near = v; far = w } in
      way_once j k m n f.at g.at (ap (λ i. make i m.near m.far) number ∙ ap (λ v. make n.element v m.far) near ∙ ap (λ w. make n.element n.near w) far)
