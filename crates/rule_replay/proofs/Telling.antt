-- What is told of hops is what is told of the document.
use Rattle.std.proofs.Common.{◌≡◌, ◌≢◌, ◌⊎◌, inl, inr, ℕ, ◌<◌, List, [], ◌∷◌, ◌++◌, Bool, true, false, Option, None, Some, length, refl, sym, ◌∙◌, ap, subst, arith}
use Rattle.std.specs.Prelude.{◌↔◌, IsTrue}
use Rattle.std.proofs.lemmas.Bool.{both_ways}
use Rattle.std.proofs.lemmas.List.Elements.{All-cons, All-nil, All-tail}
use Rattle.circuit_spec.specs.declared.hops.Frame.{Frame}
use Rattle.circuit_spec.specs.declared.hops.Hop.{Hop}
use Rattle.circuit_spec.specs.declared.hops.PlaceName.{PlaceName}
use Rattle.circuit_spec.specs.declared.hops.Request.{Request}
use Rattle.circuit_spec.specs.declared.hops.Unit.{Unit as DataUnit}
use Rattle.circuit_spec.specs.Faults.{IsKnown}
use Rattle.circuit_spec.specs.Flags.{AreFlags, Enters, flags_after, same_place}
use Rattle.circuit_spec.specs.Network.{Name, Topology, Port, IsClass, IsOpen, Linked, ports}
use Rattle.circuit_spec.specs.Segments.{unit_in}
use Rattle.circuit_spec.specs.Steps.{IsAllowed, Run, Walk, unit_at}
use Rattle.circuit_spec.proofs.ClassLemmas.{First-unique, class_of_itself, one_class, same_class}
use Rattle.table_replay.specs.Walked.{AreUnset}
use Rattle.answer_spec.specs.declared.answer.Answer.{Answer}
use Rattle.answer_spec.specs.Certificate.{AreCarried, first_place}
use Rattle.answer_spec.proofs.Carried.{arrived, ends_allowed}
use Rattle.rule_replay.specs.declared.replayed.Replayed.{Replayed as WhatIsTold}
use Rattle.rule_replay.specs.declared.replayed.Replayed.TheVariants.{Carried, NotCarried}
use Rattle.rule_replay.specs.declared.replayed.ReplayCause.{ReplayCause}
use Rattle.rule_replay.specs.declared.replayed.ReplayCause.TheVariants as cause
use Rattle.rule_replay.specs.Carrying.{HasPassed, IsFirstPlace, IsRefusedAt, IsToldOfHops}
use Rattle.rule_replay.specs.Ends.{IsAtEnd}
use Rattle.rule_replay.specs.Replaying.{AreByNumber, IsAsked, IsFirstMisnumbered, IsFirstRefused, IsReplayed, IsUnflagged}
use Rattle.rule_replay.proofs.Running.{one_entry, one_run, run_open}

-- no hops
pub none_carried : (T : Topology) (r : Request) → Walk T r [] → IsToldOfHops T r [] (Carried 0 true)
none_carried T r walk =
    (refl, walk, (λ t. (walk.0.from, walk.0.from_allowed.place.is_class, ([], ([], refl, refl), All-nil (λ (flag : Option ℕ). flag ≡ None))), λ u. refl))

module _ (T : Topology) (r : Request) (hops : List Hop) (start : PlaceName) (first : IsFirstPlace T r hops start) where
  stopped : (n : ℕ) (why : ReplayCause) → IsRefusedAt T start hops n why → IsFirstRefused T r hops n why
  stopped n why at = record {
    class = first.0;
    is_class = first.1;
    before = at.before;
    hop = at.hop;
    behind = at.behind;
    split = at.split;
    number = at.number;
    unit = at.unit;
    run = subst (λ p. Run T (unit_in p []) at.before at.unit) first.2 at.run;
    refused = at.refused;
  }

  -- a hop is refused
  pub refused_told : (n : ℕ) (why : ReplayCause) → IsRefusedAt T start hops n why → IsToldOfHops T r hops (NotCarried n why)
  refused_told n cause.NoHop at = stopped n cause.NoHop at
  refused_told n cause.Label at = stopped n cause.Label at
  refused_told n cause.Frame at = stopped n cause.Frame at
  refused_told n cause.Text at = absurd at.refused
  refused_told n cause.Outcome at = absurd at.refused
  refused_told n cause.Request at = absurd at.refused
  refused_told n cause.Number at = absurd at.refused
  refused_told n cause.End at = absurd at.refused

  module _ (u : DataUnit) (places : List PlaceName) (passed : HasPassed T start hops u places) where
    run : Run T (unit_in (first_place first.0 r hops) []) hops u
    run = subst (λ p. Run T (unit_in p []) hops u) first.2 passed.0

    carried : AreCarried T r hops
    carried = (first.0, first.1, (u, run))

    walk_ends : (hs : List Hop) → hs ≡ hops → length hs ≢ 0 → Walk T r hops → IsAtEnd T r u
    walk_ends [] e some walk = absurd (some refl)
    walk_ends (h ∷ hs) e some walk =
        let end = ends_allowed T r first.0 h hs first.1 (subst (Walk T r) (sym e) walk) in
        let same : u ≡ unit_at end.0 end.1 [] = one_run T hops (unit_in (first_place first.0 r hops) []) u (unit_at end.0 end.1 []) run (subst (λ l. Run T (unit_in (first_place first.0 r l) []) l (unit_at end.0 end.1 [])) e end.3) in
        subst (IsAtEnd T r) (sym same) (record { empty = refl; wished = end.2.wished; class = (end.0, end.2.place.is_class, refl) })

    unit_is : (to : Port) → u.class ≡ to.id → u.stack ≡ [] → u ≡ unit_at to u.label []
    unit_is to class empty =
        let make : Name → List Frame → DataUnit = λ c s. record { class = c; label = u.label; stack = s } in
        ap (λ c. make c u.stack) class ∙ ap (make to.id) empty

    end_walks : (hs : List Hop) → hs ≡ hops → length hs ≢ 0 → IsKnown T r → IsAtEnd T r u → Walk T r hops
    end_walks [] e some known at = absurd (some refl)
    end_walks (h ∷ hs) e some known at =
        let to = at.class.0 in
        let open_ = run_open T hs h (unit_in start []) u (subst (λ l. Run T (unit_in start []) l u) (sym e) passed.0) in
        let same : open_.1 ≡ to = same_class T open_.0 r.to open_.1 to open_.2 at.class.1 (sym open_.3 ∙ at.class.2) in
        let allowed : IsAllowed T r.to r.to_wish to u.label = record { place = record { is_class = at.class.1; is_open = subst (λ c. IsOpen T c u.label) same open_.4 }; wished = at.wished } in
        let whole = subst (λ w. Run T (unit_in (first_place first.0 r hops) []) hops w) (unit_is to at.class.2 at.empty) run in
        subst (Walk T r) e (arrived T r first.0 h hs known first.1 (to, u.label, allowed, subst (λ l. Run T (unit_in (first_place first.0 r l) []) l (unit_at to u.label [])) (sym e) whole))

    -- the unit has not arrived
    pub not_arrived : (n : ℕ) (b : Bool) → n ≡ length hops → length hops ≢ 0 → IsTrue b ↔ IsAtEnd T r u → b ≡ false → IsToldOfHops T r hops (NotCarried n cause.End)
    not_arrived n b count some at none = (count, carried, λ walk. both_ways b none (at.1 (walk_ends hops refl some walk)))

    unflagged : AreUnset (flags_after [] places) ↔ IsUnflagged T r hops
    unflagged = (
      λ all. (first.0, first.1, (flags_after (start ∷ []) entered, (entered, enters, subst (λ p. flags_after (start ∷ []) entered ≡ flags_after (p ∷ []) entered) first.2 refl), All-tail (λ (flag : Option ℕ). flag ≡ None) None (flags_after (start ∷ []) entered) (subst (λ l. AreUnset (flags_after [] l)) is all))),
      back,
    )
      where
        entered : List PlaceName
        entered = passed.1.0

        enters : Enters T hops passed.1.0
        enters = passed.1.1

        is : places ≡ start ∷ passed.1.0
        is = passed.1.2

        back : IsUnflagged T r hops → AreUnset (flags_after [] places)
        back (class, of_from, (flags, (others, they_enter, e), none)) =
            let one = one_class T r.from class first.0 of_from first.1 in
            let same = one_entry T hops others passed.1.0 they_enter passed.1.1 in
            let place : first_place class r hops ≡ start = ap (λ (p : Port). first_place p r hops) one ∙ sym first.2 in
            let list : flags ≡ flags_after (start ∷ []) passed.1.0 = e ∙ ap (λ p. flags_after (p ∷ []) others) place ∙ ap (flags_after (start ∷ [])) same in
            subst (λ l. AreUnset (flags_after [] l)) (sym passed.1.2) (All-cons (λ (flag : Option ℕ). flag ≡ None) None (flags_after (start ∷ []) passed.1.0) refl (subst AreUnset list none))

    -- the unit has arrived
    pub has_arrived : (n : ℕ) (b apart : Bool) → n ≡ length hops → length hops ≢ 0 → IsKnown T r → IsTrue b ↔ IsAtEnd T r u → b ≡ true → IsTrue apart ↔ AreUnset (flags_after [] places) → IsToldOfHops T r hops (Carried n apart)
    has_arrived n b apart count some known at yes_ are =
        (count, end_walks hops refl some known (at.0 yes_), (λ t. unflagged.0 (are.0 t), λ u. are.1 (unflagged.1 u)))

-- what is told of the hops of a document's rules is told of the document
pub told_replayed : (T : Topology) (bytes : List ℕ) (a : Answer) (hops : List Hop) → IsAsked T bytes a → AreByNumber a.rules hops → (shown : WhatIsTold) → IsToldOfHops T a.request hops shown → IsReplayed T bytes shown
told_replayed T bytes a hops asked by (Carried n any_order) told = (a, hops, record { asked = asked; by_number = by }, told.0, told.1, told.2)
told_replayed T bytes a hops asked by (NotCarried n cause.NoHop) told = (a, hops, record { asked = asked; by_number = by }, told)
told_replayed T bytes a hops asked by (NotCarried n cause.Label) told = (a, hops, record { asked = asked; by_number = by }, told)
told_replayed T bytes a hops asked by (NotCarried n cause.Frame) told = (a, hops, record { asked = asked; by_number = by }, told)
told_replayed T bytes a hops asked by (NotCarried n cause.End) told = (a, hops, record { asked = asked; by_number = by }, told.0, told.1, told.2)
told_replayed T bytes a hops asked by (NotCarried n cause.Text) told = absurd told
told_replayed T bytes a hops asked by (NotCarried n cause.Outcome) told = absurd told
told_replayed T bytes a hops asked by (NotCarried n cause.Request) told = absurd told
told_replayed T bytes a hops asked by (NotCarried n cause.Number) told = absurd told

pub no_hops : (T : Topology) (r : Request) (hops : List Hop) (shown : WhatIsTold) → length hops ≡ 0 → IsToldOfHops T r [] shown → IsToldOfHops T r hops shown
no_hops T r [] shown e told = told
no_hops T r (h ∷ hops) shown e told = absurd (omega (arith, e))
