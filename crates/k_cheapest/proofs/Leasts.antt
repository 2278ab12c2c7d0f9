-- The least weight of what stands before the given steps, and of a set of walks.
use Rattle.std.proofs.Common.{◌≡◌, ℕ, List, [], ◌∷◌, ◌++◌, length, refl, sym, ap, arith, length-append}
use Rattle.ml_base.specs.declared.numbers.StateNo.{StateNo}
use Rattle.ml_base.specs.declared.weight.Weight.{Weight}
use Rattle.ml_base.specs.Weight.{IsCappedAtMost, cap, capped_total}
use Rattle.ml_base.proofs.Laws.{cap-total, at_most-same, capped_total-at_most}
use Rattle.walk_grammar.specs.System.{cost_of}
use Rattle.walk_grammar.proofs.Found.{cost_append}
use Rattle.adapt_machine.specs.declared.MachineStep.{MachineStep}
use Rattle.adapt_machine.specs.Walks.{system_of, weight_of}
use Rattle.segment_grammar.specs.Reached.{IsLeast}
use Rattle.deriv_arena.specs.Derivation.{step_weight}
use Rattle.k_cheapest.specs.declared.todo.TodoForm.{TodoForm}
use Rattle.k_cheapest.specs.declared.todo.TodoForm.TheVariants.{Done, Goal', Step'}
use Rattle.k_cheapest.specs.declared.item.Item.{Item}
use Rattle.k_cheapest.specs.Todos.{Stands, Weighs}
use Rattle.k_cheapest.specs.Givens.{given_steps}
use Rattle.k_cheapest.specs.Items.{IsItem, Has}

-- the weight of two lists, one after the other
pub weight_of-append : (steps : List MachineStep) (ks us : List ℕ) → weight_of steps (ks ++ us) ≡ capped_total (weight_of steps ks) (weight_of steps us)
weight_of-append steps ks us =
    rw (cost_append (system_of steps) ks us, length-append ks us)
    (cap-total (cost_of (system_of steps) ks) (length ks) (cost_of (system_of steps) us) (length us))

-- the weight of one step
pub weight_of-one : (steps : List MachineStep) (k : ℕ) → weight_of steps (k ∷ []) ≡ step_weight steps k
weight_of-one steps k =
    let e : cost_of (system_of steps) (k ∷ []) ≡ (system_of steps).cost k = omega arith in
    ap (λ n. cap (record { cost = n; hops = 1 })) e

-- the least weight of the lists of a kind, of which there is one
pub record LeastOf (steps : List MachineStep) (Kind : List ℕ → Type 0) (w : Weight) : Type 0 where
  pub lightest : List ℕ
  pub is : Kind lightest
  pub weight : weight_of steps lightest ≡ w
  pub least : (ks : List ℕ) → Kind ks → IsCappedAtMost w (weight_of steps ks)

module _ (steps : List MachineStep) (starts : List StateNo) where
  pub stands_least : (w : Weight) (f : TodoForm) → Weighs steps starts w f → LeastOf steps (Stands steps starts f) w
  stands_least w Done is = record {
    lightest = [];
    is = refl;
    weight = sym is;
    least = λ ks e. rw (e, is) (at_most-same (weight_of steps []));
  }
  stands_least w (Goal' p v rest root state) is =
      let under : LeastOf steps (Stands steps starts rest) v = stands_least v rest is.0 in
      let l : IsLeast steps starts root state is.1.0 = is.1.1 in
      record {
        lightest = under.lightest ++ l.segment;
        is = (under.lightest, l.segment, under.is, l.is_segment, refl);
        weight = rw (weight_of-append steps under.lightest l.segment, under.weight, l.weight) (sym is.1.2);
        least = λ ks s. rw (s.4, is.1.2, weight_of-append steps s.0 s.1) (capped_total-at_most v (weight_of steps s.0) is.1.0 (weight_of steps s.1) (under.least s.0 s.2) (l.least s.1 s.3));
      }
  stands_least w (Step' p v rest step) is =
      let under : LeastOf steps (Stands steps starts rest) v = stands_least v rest is.0 in
      let own : Weight = step_weight steps step.0 in
      record {
        lightest = under.lightest ++ step.0 ∷ [];
        is = (under.lightest, under.is, refl);
        weight = rw (weight_of-append steps under.lightest (step.0 ∷ []), under.weight, weight_of-one steps step.0) (sym is.2);
        least = λ ks s. rw (s.2, is.2, weight_of-append steps s.0 (step.0 ∷ []), weight_of-one steps step.0)
            (capped_total-at_most v (weight_of steps s.0) own own (under.least s.0 s.1) (at_most-same own));
      }

  -- the weight of a set of walks is the least of theirs
  pub item_least : (i : Item) → IsItem steps starts i → LeastOf steps (Has steps starts i) i.weight
  item_least i is =
      let before : LeastOf steps (Stands steps starts i.todo.now.form) i.todo.now.weight = stands_least i.todo.now.weight i.todo.now.form is.todo in
      let tail : List ℕ = given_steps i.given in
      record {
        lightest = before.lightest ++ tail;
        is = (before.lightest, before.is, refl);
        weight = rw (weight_of-append steps before.lightest tail, before.weight, ← is.given) (sym is.weight);
        least = λ ks s. rw (s.2, is.weight, is.given, weight_of-append steps s.0 tail) (capped_total-at_most i.todo.now.weight (weight_of steps s.0) (weight_of steps tail) (weight_of steps tail) (before.least s.0 s.1) (at_most-same (weight_of steps tail)));
      }
