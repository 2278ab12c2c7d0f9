-- A step of a machine has one kind.
use Rattle.std.proofs.Common.{◌≡◌, ℕ, List, sym, ◌∙◌, ap}
use Rattle.ml_base.specs.declared.numbers.StateNo.{StateNo}
use Rattle.adapt_machine.specs.declared.MachineStep.{MachineStep}
use Rattle.adapt_machine.specs.declared.MachineKind.{MachineKind}
use Rattle.adapt_machine.specs.declared.MachineKind.TheVariants.{Flat, Push, Pop}
use Rattle.adapt_machine.specs.Walks.{IsStep, system_of}
use Rattle.segment_grammar.proofs.Places.{same_at}
use Rattle.walk_derivations.specs.Endings.{HaveKinds}

module _ (steps : List MachineStep) where
  one_kind : (k : ℕ) (a b : MachineKind) (x y v z : StateNo) (t u : MachineStep) → IsStep steps a x k t y → IsStep steps b v k u z → a ≡ b
  one_kind k a b x y v z t u one other = sym one.is_kind ∙ ap (λ s. s.kind) (same_at steps k t u one.found other.found) ∙ other.is_kind

  pub have_kinds : HaveKinds (system_of steps)
  have_kinds = record {
    keeps_or_pushes = λ k x y v z f keeps push. (let same : Flat ≡ Push = one_kind k Flat Push x y v z keeps.0 push.0 keeps.1 push.1 in cc);
    keeps_or_pops = λ k x y v z f keeps pop. (let same : Flat ≡ Pop = one_kind k Flat Pop x y v z keeps.0 pop.0 keeps.1 pop.1 in cc);
    pushes_or_pops = λ k x y v z f g push pop. (let same : Push ≡ Pop = one_kind k Push Pop x y v z push.0 pop.0 push.1 pop.1 in cc);
  }
