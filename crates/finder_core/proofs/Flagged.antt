-- The flags of steps by their states are the flags of their hops by their places.
use Rattle.std.proofs.Common.{◌≡◌, ◌≢◌, ℕ, ◌+◌, ◌⊎◌, inl, inr, List, [], ◌∷◌, ◌++◌, Bool, true, false, Option, Some, cond, length, nat_eq, refl, sym, ◌∙◌, ap, subst}
use Rattle.std.specs.Prelude.{slice_get, unwrap_or, option_map}
use Rattle.std.specs.List.{position, position_from}
use Rattle.std.proofs.lemmas.Bool.{cases_eq, eq-eqb, ne_eqb}
use Rattle.std.proofs.lemmas.Iterator.Adapters.{position_from-zero}
use Rattle.ml_base.proofs.Lists.{same_at}
use Rattle.adapt_machine.specs.declared.MachineKind.{MachineKind}
use Rattle.adapt_machine.specs.declared.MachineKind.TheVariants.{Flat, Push, Pop}
use Rattle.adapt_machine.specs.declared.MachineStep.{MachineStep}
use Rattle.circuit_spec.specs.declared.hops.Frame.{Frame}
use Rattle.circuit_spec.specs.declared.hops.Hop.{Hop}
use Rattle.circuit_spec.specs.declared.hops.PlaceName.{PlaceName}
use Rattle.circuit_spec.specs.declared.hops.Request.{Request}
use Rattle.circuit_spec.specs.Faults.{IsKnown}
use Rattle.circuit_spec.specs.Flags.{Enters, flags_after, same_place}
use Rattle.circuit_spec.specs.Network.{Name, Tag, Topology, Port, Linked, ports}
use Rattle.circuit_spec.specs.Segments.{unit_in}
use Rattle.circuit_spec.specs.Steps.{Ends, Joins, Step, Walk}
use Rattle.circuit_spec.proofs.ClassLemmas.{First-unique}
use Rattle.circuit_spec.proofs.Places.{same_places, place_itself}
use Rattle.circuit_spec.proofs.Flags.{length-flags_after, length-enters}
use Rattle.open_places.specs.Places.{IsRising}
use Rattle.open_places.proofs.Ordered.{states_once}
use Rattle.machine_build.specs.Built.{BuiltValue, IsHopAt, MovesBy}
use Rattle.machine_lift.specs.Lift.{AreHopsAt, IsMachineOf}
use Rattle.answer_spec.specs.Arriving.{start_of}
use Rattle.answer_spec.specs.Certificate.{AreFlagged}
use Rattle.answer_spec.proofs.Carried.{walk_flagged}
use Rattle.finder_core.specs.Passing.{flags_of, repeats_after, state_entered, state_left, states_entered}

-- Places are the same where their states are

make_place : Name → Tag → PlaceName
make_place class label = record { class = class; label = label }

-- the test of states and the test of their places
same_test : (places : List PlaceName) (s t : ℕ) (x y : PlaceName) → IsRising places → slice_get places s ≡ Some x → slice_get places t ≡ Some y → nat_eq t s ≡ same_place x y
same_test places s t x y rise atx aty = go (cases_eq t s)
  where
    other : (b : Bool) → same_place x y ≡ b → t ≢ s → false ≡ same_place x y
    other true e ne = absurd (ne (states_once places t s x rise (subst (λ z. slice_get places t ≡ Some z) (sym (same_places x y e)) aty) atx))
    other false e ne = sym e

    go : (t ≡ s) ⊎ (t ≡ s → ⊥) → nat_eq t s ≡ same_place x y
    go (inl e) =
        let same : x ≡ y = same_at places s x y atx (subst (λ n. slice_get places n ≡ Some y) e aty) in
        eq-eqb t s e ∙ sym (subst (λ z. same_place x z ≡ true) same (place_itself x))
    go (inr ne) = ne_eqb t s ne ∙ other (same_place x y) refl ne

-- each state has its place
abbrev pub ArePlacesAt : List PlaceName → List ℕ → List PlaceName → Type 0
ArePlacesAt places [] named = named ≡ []
ArePlacesAt places (s ∷ states) [] = ⊥
ArePlacesAt places (s ∷ states) (x ∷ named) = (slice_get places s ≡ Some x) × ArePlacesAt places states named

one_more : (places : List PlaceName) (states : List ℕ) (named : List PlaceName) (s : ℕ) (x : PlaceName) → ArePlacesAt places states named → slice_get places s ≡ Some x → ArePlacesAt places (states ++ s ∷ []) (named ++ x ∷ [])
one_more places [] named s x are at = subst (λ ns. ArePlacesAt places (s ∷ []) (ns ++ x ∷ [])) (sym are) (at, refl)
one_more places (t ∷ states) [] s x are at = absurd are
one_more places (t ∷ states) (y ∷ named) s x are at = (are.0, one_more places states named s x are.1 at)

module _ (places : List PlaceName) (rise : IsRising places) where
  same_from : (n : ℕ) (states : List ℕ) (named : List PlaceName) (s : ℕ) (x : PlaceName) → ArePlacesAt places states named → slice_get places s ≡ Some x → position_from (λ t. nat_eq t s) n states ≡ position_from (same_place x) n named
  same_from n [] named s x are at = ap (position_from (same_place x) n) (sym are)
  same_from n (t ∷ states) [] s x are at = absurd are
  same_from n (t ∷ states) (y ∷ named) s x are at =
      ap (λ b. cond b (Some n) (position_from (λ u. nat_eq u s) (n + 1) states)) (same_test places s t x y rise at are.0)
      ∙ ap (cond (same_place x y) (Some n)) (same_from (n + 1) states named s x are.1 at)

  same_first : (states : List ℕ) (named : List PlaceName) (s : ℕ) (x : PlaceName) → ArePlacesAt places states named → slice_get places s ≡ Some x → position (λ t. nat_eq t s) states ≡ position (same_place x) named
  same_first states named s x are at = position_from-zero (λ t. nat_eq t s) states ∙ same_from 0 states named s x are at ∙ sym (position_from-zero (same_place x) named)

  -- the flags of states are those of their places
  pub same_flags : (before states : List ℕ) (named entered : List PlaceName) → ArePlacesAt places before named → ArePlacesAt places states entered → repeats_after before states ≡ flags_after named entered
  same_flags before [] named entered are ends = ap (flags_after named) (sym ends)
  same_flags before (s ∷ states) named [] are ends = absurd ends
  same_flags before (s ∷ states) named (x ∷ entered) are ends =
      ap (λ f. f ∷ repeats_after (before ++ s ∷ []) states) (same_first before named s x are ends.0)
      ∙ ap (λ fs. position (same_place x) named ∷ fs) (same_flags (before ++ s ∷ []) states (named ++ x ∷ []) entered (one_more places before named s x are ends.0) ends.1)

-- Hops between places

-- a hop takes a unit from the one place to the other, under some stacks
moved : (T : Topology) (frames : List Frame) (x y : PlaceName) (h : Hop) (number : ℕ) (kind : MachineKind) → MovesBy T frames x y h number kind → (s u : List Frame) × Step T (unit_in x s) h (unit_in y u)
moved T frames x y h number Flat m = ([], [], m)
moved T frames x y h number Push m = ([], m.0 ∷ [], m.2)
moved T frames x y h number Pop m = (m.0 ∷ [], [], m.2)

state_here : (steps : List MachineStep) (k : ℕ) (t : MachineStep) → slice_get steps k ≡ Some t → state_entered steps k ≡ t.to.0
state_here steps k t at = ap (λ o. unwrap_or (option_map (λ (step : MachineStep). step.to.0) o) 0) at

start_here : (steps : List MachineStep) (k : ℕ) (t : MachineStep) → slice_get steps k ≡ Some t → state_left steps k ≡ t.from.0
start_here steps k t at = ap (λ o. unwrap_or (option_map (λ (step : MachineStep). step.from.0) o) 0) at

module _ (T : Topology) (r : Request) (b : BuiltValue) (is : IsMachineOf T r b) where
  hop_step : (k : ℕ) (h : Hop) (at : IsHopAt T b k h) → (s u : List Frame) × Step T (unit_in at.leaves s) h (unit_in at.enters u)
  hop_step k h at =
      let done = is.built.sound k at.step h at.leaves at.enters at.step_at at at.leaves_at at.enters_at in
      moved T is.built.frames at.leaves at.enters h at.step.frame.0 at.step.kind done.moves

  -- the places that hops enter
  entered : (ks : List ℕ) (hops : List Hop) → AreHopsAt T b ks hops → (places : List PlaceName) × Enters T hops places × ArePlacesAt b.places (states_entered b.machine.steps ks) places
  unfolding make_place
  entered [] hops are = ([], subst (λ hs. Enters T hs []) (sym are) refl, refl)
  entered (k ∷ ks) [] are = absurd are
  entered (k ∷ ks) (h ∷ hops) (at, are) =
      let step = (hop_step k h at).2 in
      let rest = entered ks hops are in
      let place = ap (λ c. make_place c at.enters.label) step.after.same_class ∙ ap (make_place step.to.id) step.after.same_label in (
        at.enters ∷ rest.0,
        ((step.to, step.enters.is_class, place), rest.1),
        (subst (λ s. slice_get b.places s ≡ Some at.enters) (sym (state_here b.machine.steps k at.step at.step_at)) at.enters_at, rest.2),
      )

  -- the place that the first hop of a walk leaves is where the walk begins
  begins : (k : ℕ) (h : Hop) (hops : List Hop) (at : IsHopAt T b k h) (ends : Ends T r) → Joins ends (h ∷ hops) [] → at.leaves ≡ start_of ends
  unfolding make_place
  begins k h hops at ends joins =
      let step = (hop_step k h at).2 in
      let first = joins.1 in
      let same : step.from ≡ first.from = First-unique (λ q. Linked T h.from q.id) (ports T) step.from first.from step.leaves.is_class first.leaves.is_class in
      let class : at.leaves.class ≡ ends.from.id = step.before.same_class ∙ ap (λ (p : Port). p.id) same ∙ sym first.before.same_class in
      let label : at.leaves.label ≡ ends.from_label = step.before.same_label ∙ sym first.before.same_label in
      ap (λ c. make_place c at.leaves.label) class ∙ ap (make_place ends.from.id) label

  -- the flags of the steps of a walk are those of its hops
  pub walk_flags : (ks : List ℕ) (hops : List Hop) (flags : List (Option ℕ)) → AreHopsAt T b ks hops → Walk T r hops → flags ≡ flags_of b.machine.steps ks → AreFlagged T r hops flags
  walk_flags [] hops flags are walk e =
      (walk.0.from, walk.0.from_allowed.place.is_class, ([], subst (λ hs. Enters T hs []) (sym are) refl, e))
  walk_flags (k ∷ ks) [] flags are walk e = absurd are
  walk_flags (k ∷ ks) (h ∷ hops) flags are walk e =
      let at = are.0 in
      let steps = b.machine.steps in
      let places = entered (k ∷ ks) (h ∷ hops) are in
      let start : slice_get b.places (state_left steps k) ≡ Some (start_of walk.0) =
      subst (λ s. slice_get b.places s ≡ Some (start_of walk.0)) (sym (start_here steps k at.step at.step_at))
      (at.leaves_at ∙ ap Some (begins k h hops at walk.0 walk.1)) in
      let same = same_flags b.places is.built.rise (state_left steps k ∷ []) (states_entered steps (k ∷ ks)) (start_of walk.0 ∷ []) places.0 (start, refl) places.2 in
      walk_flagged T r (h ∷ hops) flags walk.0 walk.1 (places.0, places.1, e ∙ same)

-- no hops have no flags
pub none_flagged : (T : Topology) (r : Request) (hops : List Hop) (flags : List (Option ℕ)) → IsKnown T r → hops ≡ [] → flags ≡ [] → AreFlagged T r hops flags
none_flagged T r hops flags known none e =
    subst (λ hs. AreFlagged T r hs flags) (sym none) (known.0.0, known.0.1, ([], refl, e))

-- Each hop has one flag

pub flags_for_hops : (T : Topology) (r : Request) (hops : List Hop) (flags : List (Option ℕ)) → AreFlagged T r hops flags → length hops ≡ length flags
flags_for_hops T r hops flags (class, is_class, (places, enters, are)) = length-enters T hops places enters ∙ sym (length-flags_after _ places) ∙ ap length (sym are)
