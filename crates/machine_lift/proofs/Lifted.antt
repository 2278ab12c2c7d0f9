-- Segments of the machine as segments of its network, and back.
use Rattle.std.proofs.Common.{◌≡◌, ℕ, zero, suc, ◌<◌, List, [], ◌∷◌, Some, length, refl, sym, ◌∙◌, ap, subst, inl, inr, arith, Contains}
use Rattle.std.specs.Prelude.{slice_get}
use Rattle.std.specs.List.{AllByRecursion}
use Rattle.std.proofs.lemmas.Option.{slice_get_within}
use Rattle.ml_base.specs.Weight.{FullWeight}
use Rattle.ml_base.specs.declared.numbers.FrameNo.{FrameNo}
use Rattle.ml_base.specs.declared.numbers.StateNo.{StateNo}
use Rattle.ml_base.specs.declared.numbers.Root.{Root}
use Rattle.ml_base.specs.declared.numbers.Root.TheVariants as root
use Rattle.walk_grammar.specs.System.{Goes, Run, IsSegmentUnder as IsUnder, cost_of as system_cost}
use Rattle.adapt_machine.specs.declared.MachineStep.{MachineStep}
use Rattle.adapt_machine.specs.Walks.{full_weight_of, system_of}
use Rattle.segment_grammar.specs.Reached.{IsReached as IsReachedState, IsSegmentUnder, origin_of}
use Rattle.circuit_spec.specs.declared.hops.Hop.{Hop}
use Rattle.circuit_spec.specs.declared.hops.PlaceName.{PlaceName}
use Rattle.circuit_spec.specs.declared.hops.Request.{Request}
use Rattle.circuit_spec.specs.Network.{Topology}
use Rattle.circuit_spec.specs.Segments.{RootPlace, request, entry, IsReached, IsSegmentOf, IsStart, IsTarget}
use Rattle.circuit_spec.specs.Steps.{weight_of}
use Rattle.circuit_spec.proofs.HopSegments.{kept_system, origin, same_cost, segment_in, segment_out}
use Rattle.kept_table.specs.Table.{IsKeptTable, KeptOfType}
use Rattle.machine_build.specs.Built.{BuiltValue, IsBuilt, IsHopAt, IsState}
use Rattle.machine_lift.specs.Lift.{AreHopsAt, AreLifted, ArePaired, AreStatesOf, IsMachineOf, IsRootAt}
use Rattle.machine_lift.proofs.Doing.{down, kept_end, machine_does, network_does, place_state, start_place, target_place, up}
use Rattle.machine_lift.proofs.OneHop.{one_hop}
use Rattle.machine_lift.proofs.Simulations.{AreRelated, Stands, end_met, root_met, stands}

-- Hops of steps

one_list : (T : Topology) (b : BuiltValue) (ks : List ℕ) (gs hs : List Hop) → AreRelated (λ k h. IsHopAt T b k h) ks gs → AreHopsAt T b ks hs → gs ≡ hs
one_list T b [] gs hs r a = r ∙ sym a
one_list T b (k ∷ ks) [] hs r a = absurd r
one_list T b (k ∷ ks) (g ∷ gs) [] r a = absurd a
one_list T b (k ∷ ks) (g ∷ gs) (h ∷ hs) r a =
    let first : g ≡ h = one_hop T b k g h r.0 a.0 in
    let rest : gs ≡ hs = one_list T b ks gs hs r.1 a.1 in
    cc

as_long : {A B : Type 0} (R : A → B → Type 0) (xs : List A) (ys : List B) → AreRelated R xs ys → length ys ≡ length xs
as_long R [] ys r = ap length r
as_long R (x ∷ xs) [] r = absurd r
as_long R (x ∷ xs) (y ∷ ys) r = let rest : length ys ≡ length xs = as_long R xs ys r.1 in cc

turned : (T : Topology) (b : BuiltValue) (hs : List Hop) (ks : List ℕ) → AreRelated (λ h k. IsHopAt T b k h) hs ks → AreHopsAt T b ks hs
turned T b [] ks r = subst (λ l. AreHopsAt T b l []) (sym r) refl
turned T b (h ∷ hs) [] r = absurd r
turned T b (h ∷ hs) (k ∷ ks) r = (r.0, turned T b hs ks r.1)

-- Steps of runs

goes_within : (steps : List MachineStep) (x : StateNo) (s : List FrameNo) (k : ℕ) (y : StateNo) (u : List FrameNo) → Goes (system_of steps) x s k y u → k < length steps
goes_within steps x s k y u (inl a) = slice_get_within steps k a.0.0 a.0.1.found
goes_within steps x s k y u (inr (inl a)) = slice_get_within steps k a.1.0 a.1.1.found
goes_within steps x s k y u (inr (inr a)) = slice_get_within steps k a.1.0 a.1.1.found

run_within : (steps : List MachineStep) (ks : List ℕ) (x : StateNo) (s : List FrameNo) (y : StateNo) (u : List FrameNo) → Run (system_of steps) x s ks y u → AllByRecursion (λ k. k < length steps) ks
run_within steps [] x s y u run = tt
run_within steps (k ∷ ks) x s y u run = (goes_within steps x s k run.0 run.1 run.2, run_within steps ks run.0 run.1 y u run.3)

step_below : (steps : List MachineStep) (k : ℕ) → k < length steps → (t : MachineStep) × (slice_get steps k ≡ Some t)
step_below [] k l = absurd (omega (arith, l))
step_below (t ∷ steps) zero l = (t, refl)
step_below (t ∷ steps) (suc k) l = step_below steps k (omega (arith, l))

module _ (T : Topology) (r : Request) (table : List KeptOfType) (kept : IsKeptTable T r table) (b : BuiltValue) (built : IsBuilt T table r b) where
  abbrev Start : StateNo → Type 0
  Start a = Contains b.starts a

  abbrev Machine-segment : Root → List ℕ → StateNo → Type 0
  Machine-segment root ks state = IsSegmentUnder b.machine.steps b.starts root ks state

  abbrev Stands-down : RootPlace → List ℕ → PlaceName → Type 0
  Stands-down at ks place = Stands (system_of b.machine.steps) (kept_system T r) (down T r table kept b built) Start (IsStart T r) (network_does T r table kept b built) (origin at) ks place

  stands_down : (root : Root) (ks : List ℕ) (state : StateNo) (at : RootPlace) (place : PlaceName) → IsRootAt b root at → IsState b state place → Machine-segment root ks state → Stands-down at ks place
  stands_down root.Request ks state request place roots here is = stands _ _ _ _ _ (network_does T r table kept b built) (origin_of root.Request) (origin request) ks state place tt here is
  stands_down root.Request ks state (entry x) place roots here is = absurd roots
  stands_down (root.Entry e) ks state request place roots here is = absurd roots
  stands_down (root.Entry e) ks state (entry x) place roots here is = stands _ _ _ _ _ (network_does T r table kept b built) (origin_of (root.Entry e)) (origin (entry x)) ks state place roots here is

  segment_at : (at : RootPlace) (hops : List Hop) (place : PlaceName) → IsUnder (kept_system T r) (IsStart T r) (origin at) hops place → IsSegmentOf T r at hops place
  segment_at request hops place is = segment_out T r (origin request) hops place is
  segment_at (entry x) hops place is = segment_out T r (origin (entry x)) hops place is

  to_hops : (root : Root) (ks : List ℕ) (state : StateNo) → Machine-segment root ks state → (at : RootPlace) (place : PlaceName) (hops : List Hop) → IsRootAt b root at → IsState b state place → AreHopsAt T b ks hops
      → IsSegmentOf T r at hops place × (weight_of T hops ≡ full_weight_of b.machine.steps ks)
  to_hops root ks state is at place hops roots here are =
      let s = stands_down root ks state at place roots here is in
      let same : s.steps ≡ hops = one_list T b ks s.steps hops s.same_steps are in
      let weight : ℕ → ℕ → FullWeight = λ cost n. record { cost = cost; hops = n } in
      let weights : weight_of T s.steps ≡ full_weight_of b.machine.steps ks = ap (λ c. weight c (length s.steps)) (same_cost T r s.steps ∙ s.cost)
      ∙ ap (λ n. weight (system_cost (system_of b.machine.steps) ks) n) (as_long (λ k h. IsHopAt T b k h) ks s.steps s.same_steps) in
      (subst (λ hs. IsSegmentOf T r at hs place) same (segment_at at s.steps place s.segment), subst (λ hs. weight_of T hs ≡ full_weight_of b.machine.steps ks) same weights)

  abbrev Stands-up : Root → List Hop → StateNo → Type 0
  Stands-up root hops state = Stands (kept_system T r) (system_of b.machine.steps) (up T r table kept b built) (IsStart T r) Start (machine_does T r table kept b built) (origin_of root) hops state

  stands_up : (at : RootPlace) (hops : List Hop) (place : PlaceName) (root : Root) (state : StateNo) → IsRootAt b root at → IsState b state place → IsSegmentOf T r at hops place → Stands-up root hops state
  stands_up request hops place root.Request state roots here is = stands _ _ _ _ _ (machine_does T r table kept b built) (origin request) (origin_of root.Request) hops place state tt here (segment_in T r request hops place is)
  stands_up (entry x) hops place root.Request state roots here is = absurd roots
  stands_up request hops place (root.Entry e) state roots here is = absurd roots
  stands_up (entry x) hops place (root.Entry e) state roots here is = stands _ _ _ _ _ (machine_does T r table kept b built) (origin (entry x)) (origin_of (root.Entry e)) hops place state roots here (segment_in T r (entry x) hops place is)

  to_steps : (at : RootPlace) (hops : List Hop) (place : PlaceName) → IsSegmentOf T r at hops place → (root : Root) (state : StateNo) → IsRootAt b root at → IsState b state place
      → (ks : List ℕ) × Machine-segment root ks state × AreHopsAt T b ks hops
  to_steps at hops place is root state roots here =
      let s = stands_up at hops place root state roots here is in
      (s.steps, s.segment, turned T b hops s.steps s.same_steps)

  -- Steps and their hops

  segment_within : (root : Root) (ks : List ℕ) (state : StateNo) → Machine-segment root ks state → AllByRecursion (λ k. k < length b.machine.steps) ks
  segment_within root.Request ks state is = run_within b.machine.steps ks is.0 [] state [] is.2
  segment_within (root.Entry x) ks state is = run_within b.machine.steps ks x [] state [] is.1

  hops_made : (ks : List ℕ) → AllByRecursion (λ k. k < length b.machine.steps) ks → (hops : List Hop) × AreHopsAt T b ks hops
  hops_made [] within = ([], refl)
  hops_made (k ∷ ks) within =
      let t = step_below b.machine.steps k within.0 in
      let h = built.hop k t.0 t.1 in
      let rest = hops_made ks within.1 in
      (h.0 ∷ rest.0, (h.1, rest.1))

  -- The ends

  starts_are : AreStatesOf b (IsStart T r) b.starts
  starts_are = record {
    only = λ state c.
        let a = (built.starts_are state).0 c in
        (a.place, a.is_state, record { class = a.class; allowed = a.allowed; named = a.named; kept = kept_end T r table kept b built r.from r.from_wish state a });
    all = λ place is.
        let s = place_state T r table kept b built place (start_place T r table kept place is) in
        (s.0, s.1, (built.starts_are s.0).1 (record { place = place; class = is.class; is_state = s.1; named = is.named; allowed = is.allowed }));
  }

  targets_are : AreStatesOf b (IsTarget T r) b.targets
  targets_are = record {
    only = λ state c.
        let a = (built.targets_are state).0 c in
        (a.place, a.is_state, record { class = a.class; allowed = a.allowed; named = a.named; kept = kept_end T r table kept b built r.to r.to_wish state a });
    all = λ place is.
        let s = place_state T r table kept b built place (target_place T r table kept place is) in
        (s.0, s.1, (built.targets_are s.0).1 (record { place = place; class = is.class; is_state = s.1; named = is.named; allowed = is.allowed }));
  }

  pub lifted : AreLifted T r b
  lifted = record {
    hops = to_hops;
    steps = to_steps;
    within = segment_within;
    made = λ root ks state is. hops_made ks (segment_within root ks state is);
    starts = starts_are;
    targets = targets_are;
  }

  -- Pairs of the other side

  placed_root : (root : Root) (ks : List ℕ) (state : StateNo) → Machine-segment root ks state → (at : RootPlace) × IsRootAt b root at
  placed_root root.Request ks state is = (request, tt)
  placed_root (root.Entry e) ks state is = let x = root_met _ _ _ _ _ (network_does T r table kept b built) e is.0 in (entry x.0, x.1)

  stated_root : (at : RootPlace) (hops : List Hop) (place : PlaceName) → IsSegmentOf T r at hops place → (root : Root) × IsRootAt b root at
  stated_root request hops place is = (root.Request, tt)
  stated_root (entry x) hops place is = let e = root_met _ _ _ _ _ (machine_does T r table kept b built) x (segment_in T r (entry x) hops place is).0 in (root.Entry e.0, e.1)

  places_met : (root : Root) (state : StateNo) → IsReachedState b.machine.steps b.starts root state → (at : RootPlace) × (place : PlaceName) × IsRootAt b root at × IsState b state place
  places_met root state is =
      let at = placed_root root is.0 state is.1 in
      let place = end_met _ _ _ _ _ (network_does T r table kept b built) (origin_of root) is.0 state is.1 in
      (at.0, place.0, at.1, place.1)

  states_met : (at : RootPlace) (place : PlaceName) → IsReached T r at place → (root : Root) × (state : StateNo) × IsRootAt b root at × IsState b state place
  states_met at place is =
      let root = stated_root at is.0 place is.1 in
      let state = end_met _ _ _ _ _ (machine_does T r table kept b built) (origin at) is.0 place (segment_in T r at is.0 place is.1) in
      (root.0, state.0, root.1, state.1)

pub paired : (T : Topology) (r : Request) (b : BuiltValue) → IsMachineOf T r b → ArePaired T r b
paired T r b m = record {
  places = places_met T r m.table m.kept b m.built;
  states = states_met T r m.table m.kept b m.built;
}
