-- Reached pairs are generated, and generated pairs are reached.
use Rattle.std.proofs.Common.{◌≡◌, ℕ, List, refl, subst, Contains}
use Rattle.ml_base.specs.declared.numbers.StateNo.{StateNo}
use Rattle.ml_base.specs.declared.numbers.Root.{Root}
use Rattle.ml_base.specs.declared.numbers.Root.TheVariants.{Request, Entry}
use Rattle.walk_grammar.specs.System as walk
use Rattle.walk_grammar.proofs.Grammar.{Rules, rules_complete}
use Rattle.walk_grammar.proofs.Found.{IsFound, found_begins, found_extends, found_opens, found_nests}
use Rattle.adapt_machine.specs.declared.MachineStep.{MachineStep}
use Rattle.adapt_machine.specs.Walks.{system_of}
use Rattle.segment_grammar.specs.Reached.{origin_of, IsReached}
use Rattle.segment_grammar.specs.Generated.{Generated, begins, extends, opens, nests}

abbrev root_of : walk.Origin StateNo → Root
root_of walk.Request = Request
root_of (walk.Entry x) = Entry x

root_same : (root : Root) → root_of (origin_of root) ≡ root
root_same Request = refl
root_same (Entry x) = refl

module _ (steps : List MachineStep) (starts : List StateNo) where
  abbrev Start : StateNo → Type 0
  Start a = Contains starts a

  -- some weight
  pub record Weighs (root : Root) (y : StateNo) : Type 0 where
    cost : ℕ
    hops : ℕ
    found : IsFound (system_of steps) Start (origin_of root) y cost hops

  weighs : (root : Root) (y : StateNo) → Generated steps starts root y → Weighs root y
  weighs Request y (begins a s) = record { cost = 0; hops = 0; found = found_begins (system_of steps) Start a s }
  weighs root y (extends r x g k z is) =
      let w : Weighs r x = weighs r x g in
      record { cost = _; hops = _; found = found_extends (system_of steps) Start (origin_of r) x w.cost w.hops w.found k z is }
  weighs (Entry e) y (opens r x g k f z is) =
      let w : Weighs r x = weighs r x g in
      record { cost = 0; hops = 0; found = found_opens (system_of steps) Start (origin_of r) x w.cost w.hops w.found k f z is }
  weighs root y (nests r x g k f e push z h l v pop) =
      let w : Weighs r x = weighs r x g in
      let i : Weighs (Entry e) z = weighs (Entry e) z h in
      record { cost = _; hops = _; found = found_nests (system_of steps) Start (origin_of r) x w.cost w.hops w.found k f e push z i.cost i.hops i.found l v pop }

  pub generated_is_reached : (root : Root) (y : StateNo) → Generated steps starts root y → IsReached steps starts root y
  generated_is_reached root y g = let w : Weighs root y = weighs root y g in (w.found.segment, w.found.is_segment)

  rules : Rules (system_of steps) Start (λ r y c h. Generated steps starts (root_of r) y)
  rules = record {
    begins = λ a s. begins a s;
    extends = λ r x c h g k y is. extends (root_of r) x g k y is;
    opens = λ r x c h g k f y is. opens (root_of r) x g k f y is;
    nests = λ r x c h g k f e push y d j i l z pop. nests (root_of r) x g k f e push y i l z pop;
  }

  pub reached_is_generated : (root : Root) (y : StateNo) → IsReached steps starts root y → Generated steps starts root y
  reached_is_generated root y is = subst (λ r. Generated steps starts r y) (root_same root)
      (rules_complete (system_of steps) Start (λ r y c h. Generated steps starts (root_of r) y) rules (origin_of root) is.0 y is.1)
