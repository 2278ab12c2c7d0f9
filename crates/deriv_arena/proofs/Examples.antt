-- Steps of machines that are written out, for the tests.
use Rattle.std.proofs.Common.{◌≡◌, ℕ, List, refl, sym, ◌∙◌, ap, slice_get, Some}
use Rattle.ml_base.specs.declared.numbers.StateNo.{StateNo}
use Rattle.ml_base.specs.declared.numbers.FrameNo.{FrameNo}
use Rattle.adapt_machine.specs.declared.MachineStep.{MachineStep}
use Rattle.adapt_machine.specs.Machine.{flat_step, push_step, pop_step}
use Rattle.adapt_machine.specs.Walks.{system_of}
use Rattle.deriv_arena.specs.declared.Deriv.{Deriv}
use Rattle.deriv_arena.specs.Derivation.{Encloses}

module _ (steps : List MachineStep) where
  pub flat_at : (k : ℕ) (from to x : StateNo) (cost : ℕ) → slice_get steps k ≡ Some (flat_step from to cost) → from ≡ x → (y : StateNo) × (system_of steps).Keeps x k y
  flat_at k from to x cost found leaves = (to, (flat_step from to cost, record { found = found; is_kind = refl; leaves = leaves; enters = refl }))

  pub nest_at : (prev inner : Deriv) (k l : ℕ) (from to from' to' : StateNo) (frame : FrameNo) (cost cost' : ℕ)
      → slice_get steps k ≡ Some (push_step from to frame cost) → from ≡ prev.last → to ≡ inner.first
      → slice_get steps l ≡ Some (pop_step from' to' frame cost') → from' ≡ inner.last → (z : StateNo) × Encloses steps prev k inner l z
  nest_at prev inner k l from to from' to' frame cost cost' push leaves enters pop back = (
    to',
    record {
      frame = frame;
      pushes = (push_step from to frame cost, record { found = push; is_kind = refl; leaves = leaves; enters = enters }, refl);
      pops = (pop_step from' to' frame cost', record { found = pop; is_kind = refl; leaves = back; enters = refl }, refl);
    },
  )

  -- a flat step that is written out goes to the state that is written there
  pub last_is : (k : ℕ) (from to x y : StateNo) (cost : ℕ) → slice_get steps k ≡ Some (flat_step from to cost) → (system_of steps).Keeps x k y → to ≡ y
  last_is k from to x y cost found keeps =
      let same : Some (flat_step from to cost) ≡ Some keeps.0 = sym found ∙ keeps.1.found in
      let step : flat_step from to cost ≡ keeps.0 = cc in
      ap (λ t. t.to) step ∙ keeps.1.enters
