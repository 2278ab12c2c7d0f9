-- Exits by the pops of a frame.
use Rattle.std.proofs.Common.{◌≡◌, ◌∙◌, ℕ, ◌+◌, ◌<◌, ◌⊎◌, List, [], ◌∷◌, ◌++◌, Some, length, get_or, take, subst, sym, ap, refl, inl, inr, Contains}
use Rattle.std.specs.Prelude.{slice_get}
use Rattle.std.proofs.lemmas.List.{take_more}
use Rattle.std.proofs.lemmas.List.Elements.{Contains-append_left, Contains-push, Contains-push_cases}
use Rattle.ml_base.specs.declared.numbers.FrameNo.{FrameNo}
use Rattle.ml_base.specs.declared.numbers.Root.TheVariants.{Entry}
use Rattle.ml_base.specs.declared.numbers.StateNo.{StateNo}
use Rattle.ml_base.specs.declared.numbers.StepNo.{StepNo}
use Rattle.ml_base.specs.declared.weight.Weight.{Weight}
use Rattle.adapt_machine.specs.declared.MachineStep.{MachineStep}
use Rattle.adapt_machine.specs.declared.MachineKind.TheVariants.{Pop}
use Rattle.segment_grammar.specs.declared.potentials.Pot.{Pot}
use Rattle.segment_grammar.specs.Pots.{pot}
use Rattle.segment_grammar.specs.Rows.{row_of}
use Rattle.segment_grammar.proofs.Places.{same_at, slice_get-below}
use Rattle.pair_check.specs.declared.exits.Exit.{Exit}
use Rattle.pair_check.specs.Exits.{AddsExitBy, AreExitsBy, AreExitsFrom, ArePopsIn, IsExitFrom, exit_of}

module _ (steps : List MachineStep) (pots : List Pot) (entered : StateNo) (frame : FrameNo) where
  -- no exit by the pop
  pub none_by : (pop : StepNo) (exits : List Exit) → ((exit : Exit) → exit.pop ≡ pop → ¬ IsExitFrom steps pots entered frame exit)
      → AddsExitBy steps pots entered frame pop exits exits
  none_by pop exits none = record { kept = λ e c. c; only = λ e c. inl c; all = λ e same is. absurd (none e same is) }

  module _ (pop : StepNo) (t : MachineStep) (found : slice_get steps pop.0 ≡ Some t) where
    is_step : (exit : Exit) → exit.pop ≡ pop → (is : IsExitFrom steps pots entered frame exit) → is.3.pop ≡ t
    is_step exit same is = same_at steps pop.0 is.3.pop t (subst (λ (k : StepNo). slice_get steps k.0 ≡ Some is.3.pop) same is.3.at) found

    listed_at : (exit : Exit) → exit.pop ≡ pop → (is : IsExitFrom steps pots entered frame exit) → Contains pots (pot (Entry entered) t.from is.0.weight)
    listed_at exit same is =
        let from : is.0.state ≡ t.from = sym is.3.pops.1 ∙ ap (λ (u : MachineStep). u.from) (is_step exit same is) in
        subst (λ s. Contains pots (pot (Entry entered) s is.0.weight)) from (subst (λ r. Contains pots (pot r is.0.state is.0.weight)) is.2 is.1)

    pub none_listed : ((weight : Weight) → ¬ Contains pots (pot (Entry entered) t.from weight)) → (exit : Exit) → exit.pop ≡ pop → ¬ IsExitFrom steps pots entered frame exit
    none_listed none exit same is = none is.0.weight (listed_at exit same is)

    module _ (pops : (t.kind ≡ Pop) × (t.frame ≡ frame)) (inner : Weight) (listed : Contains pots (pot (Entry entered) t.from inner))
        (unique : (other : Weight) → Contains pots (pot (Entry entered) t.from other) → other ≡ inner) where
      is_exit : IsExitFrom steps pots entered frame (exit_of inner pop)
      is_exit = (pot (Entry entered) t.from inner, listed, refl, record { inner = refl; pop = t; at = found; pops = (pops.0, refl, pops.1) })

      is_this : (exit : Exit) → exit.pop ≡ pop → IsExitFrom steps pots entered frame exit → exit_of inner pop ≡ exit
      is_this exit same is =
          let weighs : exit.inner ≡ inner = is.3.inner ∙ unique is.0.weight (listed_at exit same is) in
          ap (λ w. exit_of w pop) (sym weighs) ∙ ap (exit_of exit.inner) (sym same)

      pub one_by : (old new : List Exit) → new ≡ old ++ exit_of inner pop ∷ [] → AddsExitBy steps pots entered frame pop old new
      one_by old new added = record {
        kept = λ e c. subst (λ l. Contains l e) (sym added) (Contains-append_left old (exit_of inner pop ∷ []) e c);
        only = λ e c. only e (Contains-push_cases old (exit_of inner pop) e (subst (λ l. Contains l e) added c));
        all = λ e same is. subst (λ l. Contains l e) (sym added)
            (subst (λ v. Contains (old ++ exit_of inner pop ∷ []) v) (is_this e same is) (Contains-push old (exit_of inner pop)));
      }
        where
          only : (e : Exit) → Contains old e ⊎ (exit_of inner pop ≡ e) → Contains old e ⊎ IsExitFrom steps pots entered frame e
          only e (inl c) = inl c
          only e (inr same) = inr (subst (IsExitFrom steps pots entered frame) same is_exit)

  -- one pop more
  pub more_by : (row : List StepNo) (i : ℕ) (d : StepNo) (old new : List Exit) → i < length row → AreExitsBy steps pots entered frame (take i row) old
      → AddsExitBy steps pots entered frame (get_or row i d) old new → AreExitsBy steps pots entered frame (take (i + 1) row) new
  more_by row i d old new low are adds = record {
    only = λ e c. only e (adds.only e c);
    all = λ e c is. all e is (Contains-push_cases (take i row) (get_or row i d) e.pop (subst (λ ps. Contains ps e.pop) (take_more row i d low) c));
  }
    where
      only : (e : Exit) → Contains old e ⊎ IsExitFrom steps pots entered frame e → IsExitFrom steps pots entered frame e
      only e (inl c) = are.only e c
      only e (inr is) = is

      all : (e : Exit) → IsExitFrom steps pots entered frame e → Contains (take i row) e.pop ⊎ (get_or row i d ≡ e.pop) → Contains new e
      all e is (inl c) = adds.kept e (are.all e c is)
      all e is (inr same) = adds.all e (sym same) is

  -- all pops of the frame
  pub from_pops : (rows : List (List StepNo)) (exits : List Exit) → ArePopsIn steps (length steps) rows
      → AreExitsBy steps pots entered frame (row_of rows frame.0) exits → AreExitsFrom steps pots entered frame exits
  from_pops rows exits popped are exit = (are.only exit, λ is. are.all exit (has is) is)
    where
      has : IsExitFrom steps pots entered frame exit → Contains (row_of rows frame.0) exit.pop
      has is = subst (λ (f : FrameNo). Contains (row_of rows f.0) exit.pop) is.3.pops.2
          (popped exit.pop.0 is.3.pop (slice_get-below steps exit.pop.0 is.3.pop is.3.at) is.3.at is.3.pops.0)
