-- One thing is told of a document.
use Rattle.std.proofs.Common.{◌≡◌, ◌≢◌, ◌⊎◌, inl, inr, ℕ, ◌+◌, ◌<◌, List, [], ◌∷◌, ◌++◌, Bool, true, false, Option, None, Some, length, refl, sym, ◌∙◌, ap, subst, arith}
use Rattle.std.specs.Prelude.{◌↔◌, IsTrue}
use Rattle.circuit_spec.specs.declared.hops.Hop.{Hop}
use Rattle.circuit_spec.specs.declared.hops.Outcome.{Outcome}
use Rattle.circuit_spec.specs.declared.hops.Request.{Request}
use Rattle.circuit_spec.specs.declared.hops.Unit.{Unit as DataUnit}
use Rattle.circuit_spec.specs.Faults.{IsKnown}
use Rattle.circuit_spec.specs.Network.{Topology, Port, IsClass}
use Rattle.circuit_spec.specs.Segments.{unit_in}
use Rattle.circuit_spec.specs.Steps.{Run, Step, Walk}
use Rattle.circuit_spec.proofs.ClassLemmas.{one_class}
use Rattle.circuit_spec.proofs.NextUnit.{one_next}
use Rattle.packet_replay.specs.declared.faults.StepFault.{StepFault}
use Rattle.packet_replay.specs.declared.faults.StepFault.TheVariants as step
use Rattle.packet_replay.proofs.Refusing.{one_refusal, refusal_tells}
use Rattle.line_text.specs.Lines.{text_of}
use Rattle.answer_spec.specs.declared.answer.Answer.{Answer}
use Rattle.answer_spec.specs.Certificate.{AreCarried, first_place}
use Rattle.answer_text.specs.Spelling.{lines_of}
use Rattle.answer_spec.proofs.Carried.{walk_carried}
use Rattle.rule_replay.specs.declared.replayed.Replayed.{Replayed as WhatIsTold}
use Rattle.rule_replay.specs.declared.replayed.Replayed.TheVariants.{Carried, NotCarried}
use Rattle.rule_replay.specs.declared.replayed.ReplayCause.{ReplayCause}
use Rattle.rule_replay.specs.declared.replayed.ReplayCause.TheVariants as cause
use Rattle.rule_replay.specs.Carrying.{IsToldOfHops}
use Rattle.rule_replay.specs.Replaying.{AreByNumber, IsAsked, IsFirstMisnumbered, IsFirstRefused, IsFound, IsOrdered, IsReplayed, IsUnflagged, Refuses, Spells}
use Rattle.rule_replay.proofs.Numbers.{misnumbered_one, not_misnumbered, one_by_number}

-- ---- refusals

no_step : (T : Topology) (u : DataUnit) (h : Hop) (why : ReplayCause) → Refuses T u h why → (v : DataUnit) → ¬ Step T u h v
no_step T u h cause.NoHop r = refusal_tells T 0 u h step.NoHop r
no_step T u h cause.Label r = refusal_tells T 0 u h step.Label r
no_step T u h cause.Frame r = refusal_tells T 0 u h step.Frame r
no_step T u h cause.Text r = absurd r
no_step T u h cause.Outcome r = absurd r
no_step T u h cause.Request r = absurd r
no_step T u h cause.Number r = absurd r
no_step T u h cause.End r = absurd r

refuses_one : (T : Topology) (u : DataUnit) (h : Hop) (x y : ReplayCause) → Refuses T u h x → Refuses T u h y → x ≡ y
refuses_one T u h cause.NoHop cause.NoHop r s = refl
refuses_one T u h cause.NoHop cause.Label r s = absurd (let e = one_refusal T 0 u h step.NoHop step.Label r s in cc)
refuses_one T u h cause.NoHop cause.Frame r s = absurd (let e = one_refusal T 0 u h step.NoHop step.Frame r s in cc)
refuses_one T u h cause.Label cause.NoHop r s = absurd (let e = one_refusal T 0 u h step.Label step.NoHop r s in cc)
refuses_one T u h cause.Label cause.Label r s = refl
refuses_one T u h cause.Label cause.Frame r s = absurd (let e = one_refusal T 0 u h step.Label step.Frame r s in cc)
refuses_one T u h cause.Frame cause.NoHop r s = absurd (let e = one_refusal T 0 u h step.Frame step.NoHop r s in cc)
refuses_one T u h cause.Frame cause.Label r s = absurd (let e = one_refusal T 0 u h step.Frame step.Label r s in cc)
refuses_one T u h cause.Frame cause.Frame r s = refl
refuses_one T u h cause.Text y r s = absurd r
refuses_one T u h cause.Outcome y r s = absurd r
refuses_one T u h cause.Request y r s = absurd r
refuses_one T u h cause.Number y r s = absurd r
refuses_one T u h cause.End y r s = absurd r
refuses_one T u h x cause.Text r s = absurd s
refuses_one T u h x cause.Outcome r s = absurd s
refuses_one T u h x cause.Request r s = absurd s
refuses_one T u h x cause.Number r s = absurd s
refuses_one T u h x cause.End r s = absurd s

module _ (T : Topology) where
  -- two first refusals of hops are one
  first_one : (xs ys bs cs : List Hop) (h k : Hop) (u v w : DataUnit) (x y : ReplayCause) → xs ++ h ∷ bs ≡ ys ++ k ∷ cs → Run T u xs v → Run T u ys w → Refuses T v h x → Refuses T w k y → (length xs ≡ length ys) × (x ≡ y)
  first_one [] [] bs cs h k u v w x y e run other r s =
      let same : h ≡ k = cc in
      (refl, refuses_one T u k x y (subst (λ z. Refuses T u z x) same (subst (λ z. Refuses T z h x) run r)) (subst (λ z. Refuses T z k y) other s))
  first_one [] (z ∷ ys) bs cs h k u v w x y e run (mid, step, other) r s =
      let same : z ≡ h = cc in
      absurd (no_step T u h x (subst (λ q. Refuses T q h x) run r) mid (subst (λ q. Step T u q mid) same step))
  first_one (z ∷ xs) [] bs cs h k u v w x y e (mid, step, run) other r s =
      let same : z ≡ k = cc in
      absurd (no_step T u k y (subst (λ q. Refuses T q k y) other s) mid (subst (λ q. Step T u q mid) same step))
  first_one (z ∷ xs) (t ∷ ys) bs cs h k u v w x y e (mid, step, run) (next, stop, other) r s =
      let same : z ≡ t = cc in
      let left : xs ++ h ∷ bs ≡ ys ++ k ∷ cs = cc in
      let unit = one_next T u t mid next (subst (λ q. Step T u q mid) same step) stop in
      let rest = first_one xs ys bs cs h k next v w x y left (subst (λ q. Run T q xs v) unit run) other r s in
      (let long = rest.0 in omega (arith, long), rest.1)

  -- hops that run have no refusal
  runs_on : (xs bs : List Hop) (h : Hop) (u v w : DataUnit) (x : ReplayCause) → Run T u (xs ++ h ∷ bs) w → Run T u xs v → Refuses T v h x → ⊥
  runs_on [] bs h u v w x (mid, step, whole) run r = no_step T u h x (subst (λ q. Refuses T q h x) run r) mid step
  runs_on (z ∷ xs) bs h u v w x (mid, step, whole) (next, other, run) r =
      runs_on xs bs h mid v w x whole (subst (λ q. Run T q xs v) (sym (one_next T u z mid next step other)) run) r

  module _ (r : Request) (hops : List Hop) where
    refused_one : (m n : ℕ) (x y : ReplayCause) → IsFirstRefused T r hops m x → IsFirstRefused T r hops n y → (m ≡ n) × (x ≡ y)
    refused_one m n x y a b =
        let class = one_class T r.from a.class b.class a.is_class b.is_class in
        let run = subst (λ (p : Port). Run T (unit_in (first_place p r hops) []) a.before a.unit) class a.run in
        let same = first_one a.before b.before a.behind b.behind a.hop b.hop (unit_in (first_place b.class r hops) []) a.unit b.unit x y (sym a.split ∙ b.split) run b.run a.refused b.refused in
        (a.number ∙ ap (λ k. k + 1) same.0 ∙ sym b.number, same.1)

    refused_not_carried : (n : ℕ) (x : ReplayCause) → IsFirstRefused T r hops n x → AreCarried T r hops → ⊥
    refused_not_carried n x a (class, is, (end, whole)) =
        let one = one_class T r.from class a.class is a.is_class in
        let run = subst (λ (p : Port). Run T (unit_in (first_place p r hops) []) hops end) one whole in
        runs_on a.before a.behind a.hop (unit_in (first_place a.class r hops) []) a.unit end x (subst (λ l. Run T (unit_in (first_place a.class r hops) []) l end) a.split run) a.run a.refused

    -- ---- what is told of hops, in three kinds
    Kinds : WhatIsTold → Type 0
    Kinds shown =
        ((n : ℕ) × (why : ReplayCause) × IsFirstRefused T r hops n why × (shown ≡ NotCarried n why))
        ⊎ ((AreCarried T r hops × (¬ Walk T r hops) × (shown ≡ NotCarried (length hops) cause.End))
        ⊎ (Walk T r hops × ((any_order : Bool) × (IsTrue any_order ↔ IsUnflagged T r hops) × (shown ≡ Carried (length hops) any_order))))

    kinds : (shown : WhatIsTold) → IsToldOfHops T r hops shown → Kinds shown
    unfolding Kinds
    kinds (Carried n any_order) told = inr (inr (told.1, (any_order, told.2, ap (λ k. Carried k any_order) told.0)))
    kinds (NotCarried n cause.NoHop) told = inl (n, cause.NoHop, told, refl)
    kinds (NotCarried n cause.Label) told = inl (n, cause.Label, told, refl)
    kinds (NotCarried n cause.Frame) told = inl (n, cause.Frame, told, refl)
    kinds (NotCarried n cause.End) told = inr (inl (told.1, told.2, ap (λ k. NotCarried k cause.End) told.0))
    kinds (NotCarried n cause.Text) told = absurd told
    kinds (NotCarried n cause.Outcome) told = absurd told
    kinds (NotCarried n cause.Request) told = absurd told
    kinds (NotCarried n cause.Number) told = absurd told

    same_answer : (a b : Bool) → (IsTrue a → IsTrue b) → (IsTrue b → IsTrue a) → a ≡ b
    same_answer true true f g = refl
    same_answer true false f g = sym (f refl)
    same_answer false true f g = g refl
    same_answer false false f g = refl

    kinds_one : (x y : WhatIsTold) → Kinds x → Kinds y → x ≡ y
    unfolding Kinds
    kinds_one x y (inl (m, why, a, e)) (inl (n, other, b, f)) =
        let same = refused_one m n why other a b in
        e ∙ ap (λ k. NotCarried k why) same.0 ∙ ap (λ c. NotCarried n c) same.1 ∙ sym f
    kinds_one x y (inl (m, why, a, e)) (inr (inl b)) = absurd (refused_not_carried m why a b.0)
    kinds_one x y (inl (m, why, a, e)) (inr (inr b)) = absurd (refused_not_carried m why a (walk_carried T r hops b.0))
    kinds_one x y (inr (inl a)) (inl (n, other, b, f)) = absurd (refused_not_carried n other b a.0)
    kinds_one x y (inr (inl a)) (inr (inl b)) = a.2 ∙ sym b.2
    kinds_one x y (inr (inl a)) (inr (inr b)) = absurd (a.1 b.0)
    kinds_one x y (inr (inr a)) (inl (n, other, b, f)) = absurd (refused_not_carried n other b (walk_carried T r hops a.0))
    kinds_one x y (inr (inr a)) (inr (inl b)) = absurd (b.1 a.0)
    kinds_one x y (inr (inr (walk, (any, is, e)))) (inr (inr (other, (all, its, f)))) =
        e ∙ ap (λ b. Carried (length hops) b) (same_answer any all (λ t. its.1 (is.0 t)) (λ t. is.1 (its.0 t))) ∙ sym f

    pub told_one : (x y : WhatIsTold) → IsToldOfHops T r hops x → IsToldOfHops T r hops y → x ≡ y
    told_one x y a b = kinds_one x y (kinds x a) (kinds y b)

    -- where the hops are a walk, they are told to carry
    pub walk_told : (shown : WhatIsTold) → Walk T r hops → IsToldOfHops T r hops shown → (any_order : Bool) × (shown ≡ Carried (length hops) any_order)
    unfolding Kinds
    walk_told shown walk told = by (kinds shown told)
      where
        by : Kinds shown → (any_order : Bool) × (shown ≡ Carried (length hops) any_order)
        by (inl (n, why, a, e)) = absurd (refused_not_carried n why a (walk_carried T r hops walk))
        by (inr (inl a)) = absurd (a.1 walk)
        by (inr (inr (other, (any, is, e)))) = (any, e)

  -- ---- what is told of an answer, one condition after another
  ByNumber : Answer → WhatIsTold → Type 0
  ByNumber a shown =
      ((n : ℕ) × IsFirstMisnumbered a.rules n × (shown ≡ NotCarried n cause.Number))
      ⊎ ((hops : List Hop) × AreByNumber a.rules hops × IsToldOfHops T a.request hops shown)

  ByRequest : Answer → WhatIsTold → Type 0
  ByRequest a shown = ((¬ IsKnown T a.request) × (shown ≡ NotCarried 0 cause.Request)) ⊎ (IsKnown T a.request × ByNumber a shown)

  ByOutcome : Answer → WhatIsTold → Type 0
  ByOutcome a shown = ((¬ IsFound a.outcome) × (shown ≡ NotCarried 0 cause.Outcome)) ⊎ (IsFound a.outcome × ByRequest a shown)

  ByText : List ℕ → WhatIsTold → Type 0
  ByText bytes shown = (((a : Answer) → ¬ Spells bytes a) × (shown ≡ NotCarried 0 cause.Text)) ⊎ ((a : Answer) × Spells bytes a × ByOutcome a shown)

  asked : (bytes : List ℕ) (a : Answer) (shown : WhatIsTold) → IsAsked T bytes a → ByNumber a shown → ByText bytes shown
  unfolding ByText ByOutcome ByRequest
  asked bytes a shown is rest = inr (a, is.spells, inr (is.found, inr (is.known, rest)))

  by_text : (bytes : List ℕ) (shown : WhatIsTold) → IsReplayed T bytes shown → ByText bytes shown
  unfolding ByText ByOutcome ByRequest ByNumber
  by_text bytes (Carried n any_order) (a, hops, is, count, walk, any) = asked bytes a (Carried n any_order) is.asked (inr (hops, is.by_number, (count, walk, any)))
  by_text bytes (NotCarried n cause.Text) is = inl (is.1, ap (λ k. NotCarried k cause.Text) is.0)
  by_text bytes (NotCarried n cause.Outcome) (e, (a, spells, none)) = inr (a, spells, inl (none, ap (λ k. NotCarried k cause.Outcome) e))
  by_text bytes (NotCarried n cause.Request) (e, (a, spells, found, none)) = inr (a, spells, inr (found, inl (none, ap (λ k. NotCarried k cause.Request) e)))
  by_text bytes (NotCarried n cause.Number) (a, is, first) = asked bytes a (NotCarried n cause.Number) is (inl (n, first, refl))
  by_text bytes (NotCarried n cause.NoHop) (a, hops, is, told) = asked bytes a (NotCarried n cause.NoHop) is.asked (inr (hops, is.by_number, told))
  by_text bytes (NotCarried n cause.Label) (a, hops, is, told) = asked bytes a (NotCarried n cause.Label) is.asked (inr (hops, is.by_number, told))
  by_text bytes (NotCarried n cause.Frame) (a, hops, is, told) = asked bytes a (NotCarried n cause.Frame) is.asked (inr (hops, is.by_number, told))
  by_text bytes (NotCarried n cause.End) (a, hops, is, count, carried, none) = asked bytes a (NotCarried n cause.End) is.asked (inr (hops, is.by_number, (count, carried, none)))

  number_one : (a : Answer) (x y : WhatIsTold) → ByNumber a x → ByNumber a y → x ≡ y
  unfolding ByNumber
  number_one a x y (inl (m, first, e)) (inl (n, other, f)) = e ∙ ap (λ k. NotCarried k cause.Number) (misnumbered_one a.rules m n first other) ∙ sym f
  number_one a x y (inl (m, first, e)) (inr (hops, by, told)) = absurd (not_misnumbered a.rules hops m by first)
  number_one a x y (inr (hops, by, told)) (inl (n, other, f)) = absurd (not_misnumbered a.rules hops n by other)
  number_one a x y (inr (hops, by, told)) (inr (others, so, tale)) =
      told_one a.request others x y (subst (λ l. IsToldOfHops T a.request l x) (one_by_number a.rules hops others by so) told) tale

  request_one : (a : Answer) (x y : WhatIsTold) → ByRequest a x → ByRequest a y → x ≡ y
  unfolding ByRequest
  request_one a x y (inl p) (inl q) = p.1 ∙ sym q.1
  request_one a x y (inl p) (inr q) = absurd (p.0 q.0)
  request_one a x y (inr p) (inl q) = absurd (q.0 p.0)
  request_one a x y (inr p) (inr q) = number_one a x y p.1 q.1

  outcome_one : (a : Answer) (x y : WhatIsTold) → ByOutcome a x → ByOutcome a y → x ≡ y
  unfolding ByOutcome
  outcome_one a x y (inl p) (inl q) = p.1 ∙ sym q.1
  outcome_one a x y (inl p) (inr q) = absurd (p.0 q.0)
  outcome_one a x y (inr p) (inl q) = absurd (q.0 p.0)
  outcome_one a x y (inr p) (inr q) = request_one a x y p.1 q.1

  module _ (one_text : (a b : Answer) (bytes : List ℕ) → Spells bytes a → Spells bytes b → a ≡ b) where
    text_one : (bytes : List ℕ) (x y : WhatIsTold) → ByText bytes x → ByText bytes y → x ≡ y
    unfolding ByText
    text_one bytes x y (inl p) (inl q) = p.1 ∙ sym q.1
    text_one bytes x y (inl p) (inr (b, spells, q)) = absurd (p.0 b spells)
    text_one bytes x y (inr (a, spells, p)) (inl q) = absurd (q.0 a spells)
    text_one bytes x y (inr (a, spells, p)) (inr (b, so, q)) = outcome_one b x y (subst (λ z. ByOutcome z x) (one_text a b bytes spells so) p) q

    pub replayed_one : (bytes : List ℕ) (x y : WhatIsTold) → IsReplayed T bytes x → IsReplayed T bytes y → x ≡ y
    replayed_one bytes x y p q = text_one bytes x y (by_text bytes x p) (by_text bytes y q)

    -- what is told of the document is told of its hops
    told_of : (bytes : List ℕ) (a : Answer) (hops : List Hop) (shown : WhatIsTold) → IsAsked T bytes a → AreByNumber a.rules hops → ByText bytes shown → IsToldOfHops T a.request hops shown
    unfolding ByText ByOutcome ByRequest ByNumber
    told_of bytes a hops shown is by (inl p) = absurd (p.0 a is.spells)
    told_of bytes a hops shown is by (inr (b, spells, q)) = under (subst (λ z. ByOutcome z shown) (one_text b a bytes spells is.spells) q)
      where
        under : ByOutcome a shown → IsToldOfHops T a.request hops shown
        under (inl none) = absurd (none.0 is.found)
        under (inr (found, inl none)) = absurd (none.0 is.known)
        under (inr (found, inr (known, inl (n, first, e)))) = absurd (not_misnumbered a.rules hops n by first)
        under (inr (found, inr (known, inr (others, so, told)))) = subst (λ l. IsToldOfHops T a.request l shown) (one_by_number a.rules others hops so by) told

    pub walk_carries : (bytes : List ℕ) (a : Answer) (hops : List Hop) (shown : WhatIsTold) → IsAsked T bytes a → IsReplayed T bytes shown → AreByNumber a.rules hops → Walk T a.request hops → (any_order : Bool) × (shown ≡ Carried (length hops) any_order)
    walk_carries bytes a hops shown is told by walk = walk_told a.request hops shown walk (told_of bytes a hops shown is by (by_text bytes shown told))
