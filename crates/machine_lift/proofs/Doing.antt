-- The machine of a network and the network do what the other does.
use Rattle.std.proofs.Common.{◌≡◌, ℕ, List, [], ◌∷◌, None, Some, refl, sym, ◌∙◌, ap, subst, Contains}
use Rattle.std.specs.Prelude.{slice_get}
use Rattle.ml_base.specs.declared.numbers.FrameNo.{FrameNo}
use Rattle.ml_base.specs.declared.numbers.StateNo.{StateNo}
use Rattle.ml_base.specs.declared.numbers.Wish.{Wish}
use Rattle.ml_base.proofs.Lists.{same_at}
use Rattle.adapt_machine.specs.declared.MachineKind.{MachineKind}
use Rattle.adapt_machine.specs.declared.MachineKind.TheVariants.{Flat, Push, Pop}
use Rattle.adapt_machine.specs.declared.MachineStep.{MachineStep}
use Rattle.adapt_machine.specs.Walks.{IsStep, cost_found, system_of}
use Rattle.segment_grammar.proofs.Places.{at_contains, contains_at}
use Rattle.circuit_spec.specs.declared.hops.Frame.{Frame}
use Rattle.circuit_spec.specs.declared.hops.Hop.{Hop}
use Rattle.circuit_spec.specs.declared.hops.HopKind.TheVariants as kind
use Rattle.circuit_spec.specs.declared.hops.PlaceName.{PlaceName}
use Rattle.circuit_spec.specs.declared.hops.Request.{Request}
use Rattle.circuit_spec.specs.Kept.{HasKept, IsOverKept}
use Rattle.circuit_spec.specs.Network.{Name, Tag, Topology, Port, IsClass, IsOpen}
use Rattle.circuit_spec.specs.Segments.{unit_in, IsStart, IsTarget}
use Rattle.circuit_spec.specs.Steps.{Step, cost_of}
use Rattle.circuit_spec.proofs.ClassLemmas.{class_of_itself, one_class}
use Rattle.circuit_spec.proofs.HopSegments.{kept_system}
use Rattle.circuit_spec.proofs.Matching.{not_kept, unlike}
use Rattle.kept_table.specs.Table.{IsKeptTable, KeptOfType}
use Rattle.open_places.specs.Places.{IsListed, IsStatePlace}
use Rattle.open_places.proofs.Ordered.{states_once}
use Rattle.machine_build.specs.Built.{BuiltValue, IsAllowedState, IsBuilt, IsHopAt, IsState, MovesBy}
use Rattle.machine_lift.proofs.OneHop.{kept_kind, one_put, one_taken, put_kind, taken_kind}
use Rattle.machine_lift.proofs.Simulations.{Relating, Simulates}

module _ (T : Topology) (r : Request) (table : List KeptOfType) (kept : IsKeptTable T r table) where
  -- a label of the table is kept, and a kept one is in the table
  listed_kept : (class : Port) (label : Tag) → IsListed table class label → HasKept T r class label
  listed_kept class None l = tt
  listed_kept class (Some label) l = (l.0, l.1, (kept.labels_are l.0 label).0 l.2)

  kept_listed : (class : Port) (label : Tag) → HasKept T r class label → IsListed table class label
  kept_listed class None h = tt
  kept_listed class (Some label) h = (h.0, h.1, (kept.labels_are h.0 label).1 h.2)

  -- the place of a port's class and a label, where the label is in the table
  kept_at : (place : PlaceName) (id : Name) (class other : Port) (label : Tag) → IsStatePlace T table place → IsClass T id class → place.class ≡ class.id → place.label ≡ label
      → IsClass T id other → HasKept T r other label
  kept_at place id class other label state is named labelled other_is =
      let own : IsClass T place.class class = subst (λ i. IsClass T i class) (sym named) (class_of_itself T id class is) in
      let same : state.class ≡ class = one_class T place.class state.class class state.is_class own in
      let also : class ≡ other = one_class T id class other is other_is in
      subst (λ c. HasKept T r c label) also (subst (λ c. HasKept T r c label) same (subst (λ l. HasKept T r state.class l) labelled (listed_kept state.class place.label state.listed)))

  over_kept : (x y : PlaceName) (s u : List Frame) (h : Hop) → IsStatePlace T table x → IsStatePlace T table y → Step T (unit_in x s) h (unit_in y u) → IsOverKept T r h
  over_kept x y s u h from to step = record {
    from = λ class is. kept_at x h.from step.from class h.from_label from step.leaves.is_class step.before.same_class step.before.same_label is;
    to = λ class is. kept_at y h.to step.to class h.to_label to step.enters.is_class step.after.same_class step.after.same_label is;
  }

  state_of : (place : PlaceName) (id : Name) (class : Port) (label : Tag) → IsClass T id class → IsOpen T class label → place.class ≡ class.id → place.label ≡ label → HasKept T r class label → IsStatePlace T table place
  state_of place id class label is open_ named labelled has = record {
    class = class;
    named = sym named;
    is_class = subst (λ i. IsClass T i class) (sym named) (class_of_itself T id class is);
    is_open = subst (λ l. IsOpen T class l) (sym labelled) open_;
    listed = subst (λ l. IsListed table class l) (sym labelled) (kept_listed class label has);
  }

  -- the place that a hop over kept labels enters
  entered_place : (x y : PlaceName) (s u : List Frame) (h : Hop) → IsOverKept T r h → Step T (unit_in x s) h (unit_in y u) → IsStatePlace T table y
  entered_place x y s u h over step = state_of y h.to step.to h.to_label step.enters.is_class step.enters.is_open step.after.same_class step.after.same_label (over.to step.to step.enters.is_class)

  pub start_place : (place : PlaceName) → IsStart T r place → IsStatePlace T table place
  start_place place is = state_of place r.from is.class place.label is.allowed.place.is_class is.allowed.place.is_open is.named refl is.kept

  pub target_place : (place : PlaceName) → IsTarget T r place → IsStatePlace T table place
  target_place place is = state_of place r.to is.class place.label is.allowed.place.is_class is.allowed.place.is_open is.named refl is.kept

  module _ (b : BuiltValue) (built : IsBuilt T table r b) where
    state_place : (x : StateNo) (place : PlaceName) → IsState b x place → IsStatePlace T table place
    state_place x place at = (built.places_are place).0 (contains_at b.places x.0 place at)

    pub place_state : (place : PlaceName) → IsStatePlace T table place → (x : StateNo) × IsState b x place
    place_state place is = let at = at_contains b.places place ((built.places_are place).1 is) in (record { 0 = at.0 }, at.2)

    abbrev as_state : ℕ → StateNo
    as_state n = record { 0 = n }

    one_state : (place : PlaceName) (x y : StateNo) → IsState b x place → IsState b y place → x ≡ y
    one_state place x y atx aty = let same : x.0 ≡ y.0 = states_once b.places x.0 y.0 place built.rise atx aty in ap (λ n. as_state n) same

    -- the label of an allowed state is kept
    pub kept_end : (port : Name) (wish : Wish) (x : StateNo) (a : IsAllowedState T b.places port wish x) → HasKept T r a.class a.place.label
    kept_end port wish x a = kept_at a.place port a.class a.class a.place.label (state_place x a.place a.is_state) a.allowed.place.is_class a.named refl a.allowed.place.is_class

    -- The network does what the machine does

    abbrev pub down : Relating StateNo FrameNo ℕ PlaceName Frame Hop
    down = record {
      states = λ x place. IsState b x place;
      frames = λ f frame. slice_get built.frames f.0 ≡ Some frame;
      steps = λ k h. IsHopAt T b k h;
    }

    record Hopped (x : StateNo) (k : ℕ) (t : MachineStep) (y : StateNo) (X : PlaceName) (kind_ : MachineKind) : Type 0 where
      pub hop : Hop
      pub is_hop : IsHopAt T b k hop
      pub enters : PlaceName
      pub enters_at : IsState b y enters
      pub entered : IsStatePlace T table enters
      pub cost : cost_of T hop ≡ (system_of b.machine.steps).cost k
      pub moves : MovesBy T built.frames X enters hop t.frame.0 kind_

    hopped : (kind_ : MachineKind) (x : StateNo) (k : ℕ) (t : MachineStep) (y : StateNo) (X : PlaceName) → IsStep b.machine.steps kind_ x k t y → IsState b x X → Hopped x k t y X kind_
    hopped kind_ x k t y X is at =
        let hop = built.hop k t is.found in
        let a : IsHopAt T b k hop.0 = hop.1 in
        let same : a.step ≡ t = same_at b.machine.steps k a.step t a.step_at is.found in
        let to : IsState b t.to a.enters = subst (λ (s : MachineStep). IsState b s.to a.enters) same a.enters_at in
        let from : IsState b t.from X = subst (λ s. IsState b s X) (sym is.leaves) at in
        let done = built.sound k t hop.0 X a.enters is.found a from to in
        let found : cost_found (Some t) ≡ cost_found (slice_get b.machine.steps k) = ap cost_found (sym is.found) in
        record {
          hop = hop.0;
          is_hop = a;
          enters = a.enters;
          enters_at = subst (λ s. IsState b s a.enters) is.enters to;
          entered = state_place t.to a.enters to;
          cost = done.costs ∙ found;
          moves = subst (λ m. MovesBy T built.frames X a.enters hop.0 t.frame.0 m) is.is_kind done.moves;
        }

    pub network_does : Simulates (system_of b.machine.steps) (kept_system T r) down (λ a. Contains b.starts a) (IsStart T r)
    network_does = record {
      keeps = λ x k y X is at.
          let g = hopped Flat x k is.0 y X is.1 at in
          record { step = g.hop; to = g.enters; same_step = g.is_hop; same_to = g.enters_at; cost = g.cost; does = (over_kept X g.enters [] [] g.hop (state_place x X at) g.entered g.moves, g.moves) };
      pushes = λ x k f y X is at.
          let g = hopped Push x k is.0 y X is.1 at in
          let m = g.moves in
          record {
            step = g.hop;
            to = g.enters;
            same_step = g.is_hop;
            same_to = g.enters_at;
            cost = g.cost;
            does = (m.0, subst (λ (n : FrameNo). slice_get built.frames n.0 ≡ Some m.0) is.2 m.1, (over_kept X g.enters [] (m.0 ∷ []) g.hop (state_place x X at) g.entered m.2, m.2));
          };
      pops = λ x k f y X frame is at same.
          let g = hopped Pop x k is.0 y X is.1 at in
          let m = g.moves in
          let held : slice_get built.frames f.0 ≡ Some m.0 = subst (λ (n : FrameNo). slice_get built.frames n.0 ≡ Some m.0) is.2 m.1 in
          let one : m.0 ≡ frame = same_at built.frames f.0 m.0 frame held same in
          let step : Step T (unit_in X (frame ∷ [])) g.hop (unit_in g.enters []) = subst (λ v. Step T (unit_in X (v ∷ [])) g.hop (unit_in g.enters [])) one m.2 in
          record { step = g.hop; to = g.enters; same_step = g.is_hop; same_to = g.enters_at; cost = g.cost; does = (over_kept X g.enters (frame ∷ []) [] g.hop (state_place x X at) g.entered step, step) };
      starts = λ x is.
          let a = (built.starts_are x).0 is in
          (a.place, a.is_state, record { class = a.class; allowed = a.allowed; named = a.named; kept = kept_end r.from r.from_wish x a });
      one = λ x X Y atx aty. same_at b.places x.0 X Y atx aty;
    }

    -- The machine does what the network does

    abbrev pub up : Relating PlaceName Frame Hop StateNo FrameNo ℕ
    up = record {
      states = λ place x. IsState b x place;
      frames = λ frame f. slice_get built.frames f.0 ≡ Some frame;
      steps = λ h k. IsHopAt T b k h;
    }

    record Stepped (X : PlaceName) (h : Hop) (Y : PlaceName) (x : StateNo) : Type 0 where
      pub number : ℕ
      pub step : MachineStep
      pub found : slice_get b.machine.steps number ≡ Some step
      pub is_hop : IsHopAt T b number h
      pub leaves : step.from ≡ x
      pub enters_at : IsState b step.to Y
      pub cost : (system_of b.machine.steps).cost number ≡ cost_of T h
      pub moves : MovesBy T built.frames X Y h step.frame.0 step.kind

    stepped : (X Y : PlaceName) (s u : List Frame) (h : Hop) (x : StateNo) → IsOverKept T r h → Step T (unit_in X s) h (unit_in Y u) → IsState b x X → Stepped X h Y x
    stepped X Y s u h x over step at =
        let c = built.complete X Y s u h (state_place x X at) (entered_place X Y s u h over step) step in
        let a : IsHopAt T b c.0 h = c.1 in
        let from : IsState b a.step.from X = subst (λ p. IsState b a.step.from p) c.2 a.leaves_at in
        let to : IsState b a.step.to Y = subst (λ p. IsState b a.step.to p) c.3 a.enters_at in
        let done = built.sound c.0 a.step h X Y a.step_at a from to in
        let found : cost_found (slice_get b.machine.steps c.0) ≡ cost_found (Some a.step) = ap cost_found a.step_at in
        record {
          number = c.0;
          step = a.step;
          found = a.step_at;
          is_hop = a;
          leaves = one_state X a.step.from x from at;
          enters_at = to;
          cost = found ∙ sym done.costs;
          moves = done.moves;
        }

    flat_by : (X Y : PlaceName) (number : ℕ) (h : Hop) (m : MachineKind) → Step T (unit_in X []) h (unit_in Y []) → MovesBy T built.frames X Y h number m → m ≡ Flat
    flat_by X Y number h Flat step moves = refl
    flat_by X Y number h Push step moves = not_kept h.kind kind.Adapt _ (put_kind T X h Y moves.0 moves.2) (λ never. never) (kept_kind T X h Y step)
    flat_by X Y number h Pop step moves = not_kept h.kind kind.Deadapt _ (taken_kind T X h Y moves.0 moves.2) (λ never. never) (kept_kind T X h Y step)

    push_by : (X Y : PlaceName) (number : ℕ) (h : Hop) (frame : Frame) (m : MachineKind) → Step T (unit_in X []) h (unit_in Y (frame ∷ [])) → MovesBy T built.frames X Y h number m → (m ≡ Push) × (slice_get built.frames number ≡ Some frame)
    push_by X Y number h frame Flat step moves = not_kept h.kind kind.Adapt _ (put_kind T X h Y frame step) (λ never. never) (kept_kind T X h Y moves)
    push_by X Y number h frame Push step moves = (refl, moves.1 ∙ ap Some (one_put T X h Y moves.0 frame moves.2 step))
    push_by X Y number h frame Pop step moves = unlike h.kind _ (put_kind T X h Y frame step) (taken_kind T X h Y moves.0 moves.2)

    pop_by : (X Y : PlaceName) (number : ℕ) (h : Hop) (frame : Frame) (m : MachineKind) → Step T (unit_in X (frame ∷ [])) h (unit_in Y []) → MovesBy T built.frames X Y h number m → (m ≡ Pop) × (slice_get built.frames number ≡ Some frame)
    pop_by X Y number h frame Flat step moves = not_kept h.kind kind.Deadapt _ (taken_kind T X h Y frame step) (λ never. never) (kept_kind T X h Y moves)
    pop_by X Y number h frame Push step moves = unlike h.kind _ (put_kind T X h Y moves.0 moves.2) (taken_kind T X h Y frame step)
    pop_by X Y number h frame Pop step moves = (refl, moves.1 ∙ ap Some (one_taken T X h Y moves.0 frame moves.2 step))

    abbrev as_frame : ℕ → FrameNo
    as_frame n = record { 0 = n }

    pub machine_does : Simulates (kept_system T r) (system_of b.machine.steps) up (IsStart T r) (λ a. Contains b.starts a)
    machine_does = record {
      keeps = λ X h Y x is at.
          let g = stepped X Y [] [] h x is.0 is.1 at in
          let flat = flat_by X Y g.step.frame.0 h g.step.kind is.1 g.moves in
          record {
            step = g.number;
            to = g.step.to;
            same_step = g.is_hop;
            same_to = g.enters_at;
            cost = g.cost;
            does = (g.step, record { found = g.found; is_kind = flat; leaves = g.leaves; enters = refl });
          };
      pushes = λ X h frame Y x is at.
          let g = stepped X Y [] (frame ∷ []) h x is.0 is.1 at in
          let push = push_by X Y g.step.frame.0 h frame g.step.kind is.1 g.moves in
          record {
            step = g.number;
            to = g.step.to;
            same_step = g.is_hop;
            same_to = g.enters_at;
            cost = g.cost;
            does = (g.step.frame, push.1, (g.step, record { found = g.found; is_kind = push.0; leaves = g.leaves; enters = refl }, refl));
          };
      pops = λ X h frame Y x f is at same.
          let g = stepped X Y (frame ∷ []) [] h x is.0 is.1 at in
          let pop = pop_by X Y g.step.frame.0 h frame g.step.kind is.1 g.moves in
          let one : g.step.frame.0 ≡ f.0 = built.frames_differ g.step.frame.0 f.0 frame pop.1 same in
          record {
            step = g.number;
            to = g.step.to;
            same_step = g.is_hop;
            same_to = g.enters_at;
            cost = g.cost;
            does = (g.step, record { found = g.found; is_kind = pop.0; leaves = g.leaves; enters = refl }, ap (λ n. as_frame n) one);
          };
      starts = λ X is.
          let s = place_state X (start_place X is) in
          (s.0, s.1, (built.starts_are s.0).1 (record { place = X; class = is.class; is_state = s.1; named = is.named; allowed = is.allowed }));
      one = λ X x y atx aty. one_state X x y atx aty;
    }
