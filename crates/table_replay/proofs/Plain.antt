-- Where a walk passes no place twice, the rules of its hops carry the unit over it.
use Rattle.std.proofs.Common.{◌≡◌, ◌≢◌, ◌⊎◌, inl, inr, List, [], ◌∷◌, ◌++◌, Option, None, map, refl, sym, ◌∙◌, ap, subst, append_assoc, ℕ, ◌<◌, arith, length}
use Rattle.std.specs.List.{All, Contains, position}
use Rattle.std.specs.List.Sorted.{IsPermutation}
use Rattle.std.proofs.lemmas.List.{map-append}
use Rattle.std.proofs.lemmas.List.Elements.{All-cons, All-head, All-nil, All-tail, Contains-append_left, Contains-append_right, Contains-push, Contains-push_cases}
use Rattle.circuit_spec.specs.declared.hops.Hop.{Hop}
use Rattle.circuit_spec.specs.declared.hops.PlaceName.{PlaceName}
use Rattle.circuit_spec.specs.declared.hops.Unit.{Unit as DataUnit}
use Rattle.circuit_spec.specs.Flags.{Enters, flags_after, same_place}
use Rattle.circuit_spec.specs.Network.{Topology, Port, Linked, ports}
use Rattle.circuit_spec.specs.Steps.{Run, Step}
use Rattle.circuit_spec.specs.Segments.{unit_in}
use Rattle.circuit_spec.proofs.ClassLemmas.{First-unique}
use Rattle.device_rules.specs.declared.rules.Rule.{Rule}
use Rattle.table_replay.specs.Forwarding.{AreLeaving, Forwards, GoesOn, arrived, place_of}
use Rattle.table_replay.specs.Walked.{AreUnset, AreRulesInAnyOrder, IsPlainWalk}
use Rattle.table_replay.proofs.Places.{contains_cases, make_place, not_found}
use Rattle.table_replay.proofs.Leaving.{IsFrom, Leaver, alone, from_of, hop_in, hop_of}

-- each hop with the place that it leaves from, where the first leaves from this one
leavers : PlaceName → List Hop → List PlaceName → List Leaver
leavers x [] places = []
leavers x (h ∷ hops) [] = []
leavers x (h ∷ hops) (y ∷ places) = (h, x) ∷ leavers y hops places

-- a place that is entered later is none of those before
later_apart : (before places : List PlaceName) (y : PlaceName) → AreUnset (flags_after before places) → Contains places y → Contains before y → ⊥
later_apart before [] y none later held = omega (arith, later.1)
later_apart before (p ∷ places) y none later held =
    elim (contains_cases p y places later) as (λ v. ⊥) [
      | inl same ↦ not_found before p (All-head (λ (flag : Option ℕ). flag ≡ None) _ _ none) (subst (λ q. Contains before q) (sym same) held)
      | inr c ↦ later_apart (before ++ p ∷ []) places y (All-tail (λ (flag : Option ℕ). flag ≡ None) _ _ none) c (Contains-append_left before (p ∷ []) y held)
    ]

module _ (T : Topology) where
  -- a hop leaves from the place of the unit that it takes
  step_leaves : (u v : DataUnit) (h : Hop) → Step T u h v → IsFrom T (h, place_of u)
  step_leaves u v h step = (step.from, step.leaves.is_class, ap (λ c. make_place c u.label) step.before.same_class ∙ ap (make_place step.from.id) step.before.same_label)

  -- and enters the place of the next unit
  step_enters : (u v : DataUnit) (h : Hop) (hops : List Hop) (y : PlaceName) (places : List PlaceName) → Step T u h v → Enters T (h ∷ hops) (y ∷ places) → y ≡ place_of v
  step_enters u v h hops y places step ((class, is, e), rest) =
      let same : class ≡ step.to = First-unique (λ q. Linked T h.to q.id) (ports T) class step.to is step.enters.is_class in
      e ∙ ap (λ (p : Port). make_place p.id h.to_label) same ∙ sym (ap (λ c. make_place c v.label) step.after.same_class ∙ ap (make_place step.to.id) step.after.same_label)

  all_from : (hops : List Hop) (places : List PlaceName) (u v : DataUnit) (x : PlaceName) → place_of u ≡ x → Run T u hops v → Enters T hops places → All (IsFrom T) (leavers x hops places)
  unfolding leavers
  all_from [] places u v x at run enters = All-nil (IsFrom T)
  all_from (h ∷ hops) [] u v x at run enters = absurd enters
  all_from (h ∷ hops) (y ∷ places) u v x at (mid, step, run) enters =
      All-cons (IsFrom T) (h, x) (leavers y hops places) (subst (λ p. IsFrom T (h, p)) at (step_leaves u mid h step))
      (all_from hops places mid v y (sym (step_enters u mid h hops y places step enters)) run enters.1)

  all_hops : (hops : List Hop) (places : List PlaceName) (x : PlaceName) → Enters T hops places → map hop_of (leavers x hops places) ≡ hops
  unfolding leavers
  all_hops [] places x enters = refl
  all_hops (h ∷ hops) [] x enters = absurd enters
  all_hops (h ∷ hops) (y ∷ places) x enters = ap (λ hs. h ∷ hs) (all_hops hops places y enters.1)

  -- the places that later hops leave from are entered
  left_later : (hops : List Hop) (places : List PlaceName) (y x : PlaceName) → Contains (map from_of (leavers y hops places)) x → Contains (y ∷ places) x
  unfolding leavers
  left_later [] places y x held = absurd (omega (arith, held.1))
  left_later (h ∷ hops) [] y x held = absurd (omega (arith, held.1))
  left_later (h ∷ hops) (z ∷ places) y x held =
      elim (contains_cases y x (map from_of (leavers z hops places)) held) as (λ v. Contains (y ∷ z ∷ places) x) [
        | inl same ↦ Contains-append_left (y ∷ []) (z ∷ places) x (0, omega arith, same)
        | inr c ↦ Contains-append_right (y ∷ []) (z ∷ places) x (left_later hops places z x c)
      ]

  -- the last place is entered
  last_entered : (hops : List Hop) (places : List PlaceName) (u v : DataUnit) (y : PlaceName) → y ≡ place_of u → Run T u hops v → Enters T hops places → Contains (y ∷ places) (place_of v)
  last_entered [] places u v y at run enters = Contains-append_left (y ∷ []) places (place_of v) (0, omega arith, at ∙ sym (ap place_of run))
  last_entered (h ∷ hops) [] u v y at run enters = absurd enters
  last_entered (h ∷ hops) (z ∷ places) u v y at (mid, step, run) enters =
      Contains-append_right (y ∷ []) (z ∷ places) (place_of v) (last_entered hops places mid v z (step_enters u mid h hops z places step enters) run enters.1)

  module _ (rules : List Rule) (target : PlaceName) where
    onward : (hops : List Hop) (places before : List PlaceName) (done : List Leaver) (u v : DataUnit) (x : PlaceName) → place_of u ≡ x → map from_of done ≡ before
        → Run T u hops v → Enters T hops places → AreUnset (flags_after (before ++ x ∷ []) places) → (Contains before x → ⊥) → place_of v ≡ target → v.stack ≡ []
        → IsPermutation (map hop_of (done ++ leavers x hops places)) (map hop_in rules) → All (IsFrom T) (done ++ leavers x hops places)
        → Forwards T rules target before u hops arrived
    unfolding leavers
    onward [] places before done u v x at from run enters none anew end empty moved all = (ap place_of (sym run) ∙ end, ap (λ (w : DataUnit). w.stack) (sym run) ∙ empty)
    onward (h ∷ hops) [] before done u v x at from run enters none anew end empty moved all = absurd enters
    onward (h ∷ hops) (y ∷ places) before done u v x at from (mid, step, run) enters none anew end empty moved all =
        let next : y ≡ place_of mid = step_enters u mid h hops y places step enters in
        let here : Contains (before ++ x ∷ []) x = Contains-push before x in
        let apart : (p : PlaceName) → Contains (y ∷ places) p → x ≡ p → ⊥ = λ p later same. later_apart (before ++ x ∷ []) (y ∷ places) p none later (subst (λ q. Contains (before ++ x ∷ []) q) same here) in
        let away : x ≡ target → ⊥ = λ same. apart (place_of v) (last_entered hops places mid v y next run enters.1) (same ∙ sym end) in
        let mine = alone T x h done (leavers y hops places) rules moved all (λ held. anew (subst (λ l. Contains l x) from held)) (λ held. apart x (left_later hops places y x held) refl) in
        let goes : GoesOn T rules target before u h mid = record {
          is_anew = record { away = λ e. away (sym at ∙ e); anew = λ held. anew (subst (λ p. Contains before p) at held) };
          rule = mine.0;
          only = subst (λ p. AreLeaving T p rules (mine.0 ∷ [])) (sym at) mine.1;
          hop = mine.2;
          step = step;
        } in
        let list : (done ++ (h, x) ∷ []) ++ leavers y hops places ≡ done ++ (h, x) ∷ leavers y hops places = append_assoc done ((h, x) ∷ []) (leavers y hops places) in
        let rest = onward hops places (before ++ x ∷ []) (done ++ (h, x) ∷ []) mid v y (sym next) (map-append from_of done ((h, x) ∷ []) ∙ ap (λ l. l ++ x ∷ []) from) run enters.1
        (All-tail (λ (flag : Option ℕ). flag ≡ None) _ _ none) (not_found (before ++ x ∷ []) y (All-head (λ (flag : Option ℕ). flag ≡ None) _ _ none)) end empty
        (subst (λ l. IsPermutation (map hop_of l) (map hop_in rules)) (sym list) moved) (subst (λ l. All (IsFrom T) l) (sym list) all) in
        (mid, goes, subst (λ p. Forwards T rules target (before ++ p ∷ []) mid hops arrived) (sym at) rest)

    pub plain_forwarded : (start : PlaceName) (hops : List Hop) → IsPlainWalk T start target hops → AreRulesInAnyOrder hops rules → Forwards T rules target [] (unit_in start []) hops arrived
    plain_forwarded start hops plain any =
        let flagged = plain.unflagged in
        let places = flagged.1.0 in
        let enters = flagged.1.1 in
        let none = subst (λ fs. AreUnset fs) flagged.1.2 flagged.2 in
        onward hops places [] [] (unit_in start []) (unit_in target []) start refl refl plain.run enters none (λ held. omega (arith, held.1)) refl refl
        (subst (λ hs. IsPermutation hs (map hop_in rules)) (sym (all_hops hops places start enters)) any) (all_from hops places (unit_in start []) (unit_in target []) start refl plain.run enters)
