-- States that are marked, step by step.
use Rattle.std.proofs.Common.{◌≡◌, ℕ, ◌+◌, ◌<◌, List, length, subst, arith, inl, inr, Some, slice_get}
use Rattle.std.specs.Prelude.{Bool, true}
use Rattle.adapt_machine.specs.Machine.{MachineValue}
use Rattle.adapt_machine.specs.declared.MachineKind.{MachineKind}
use Rattle.adapt_machine.specs.declared.MachineStep.{MachineStep}
use Rattle.segment_grammar.proofs.Places.{slice_get-below, same_at}
use Rattle.knuth_search.specs.Tables.{AreMarks}
use Rattle.knuth_search.proofs.Offering.{number_cases}

-- the states that those of the first `n` steps leave that are of the kind
pub record IsMarking (m : MachineValue) (kind : MachineKind) (n : ℕ) (marks : List Bool) : Type 0 where
  pub rooms : length marks ≡ m.states
  pub all : (k : ℕ) (t : MachineStep) → k < n → slice_get m.steps k ≡ Some t → t.kind ≡ kind → slice_get marks t.from.0 ≡ Some true

module _ (m : MachineValue) (kind : MachineKind) where
  pub marking_begun : (marks : List Bool) → length marks ≡ m.states → IsMarking m kind 0 marks
  marking_begun marks rooms = record { rooms = rooms; all = λ k t l. absurd (omega (arith, l)) }

  pub marking_turn : (n : ℕ) (old new : List Bool) (step : MachineStep) → slice_get m.steps n ≡ Some step → IsMarking m kind n old → length new ≡ length old
      → (step.kind ≡ kind → slice_get new step.from.0 ≡ Some true) → ((i : ℕ) → slice_get old i ≡ Some true → slice_get new i ≡ Some true) → IsMarking m kind (n + 1) new
  marking_turn n old new step found is same here kept = record {
    rooms = omega (arith, same, is.rooms);
    all = λ k t l at of_kind. elim (number_cases k n l) as (λ v. slice_get new t.from.0 ≡ Some true) [
      | inl a ↦ kept t.from.0 (is.all k t a at of_kind)
      | inr e ↦ there t (same_at m.steps n step t found (subst (λ i. slice_get m.steps i ≡ Some t) e at)) of_kind
    ];
  }
    where
      there : (t : MachineStep) → step ≡ t → t.kind ≡ kind → slice_get new t.from.0 ≡ Some true
      there t e = subst (λ v. v.kind ≡ kind → slice_get new v.from.0 ≡ Some true) e here

  pub marking_ended : (n : ℕ) (marks : List Bool) → n ≡ length m.steps → IsMarking m kind n marks → AreMarks m kind marks
  marking_ended n marks whole is = record {
    rooms = is.rooms;
    all = λ x left. subst (λ v. slice_get marks v.0 ≡ Some true) left.leaves (is.all left.number left.step (omega (arith, whole, slice_get-below m.steps left.number left.step left.found)) left.found left.is_kind);
  }
