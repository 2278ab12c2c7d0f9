-- Sets of walks that wait.
use Rattle.std.specs.Prelude.{◌≡◌, ◌⊎◌, ◌<◌, ℕ, List, ◌++◌, slice_get, Some}
use Rattle.std.specs.List.{Contains}
use Rattle.ml_base.specs.declared.numbers.StateNo.{StateNo}
use Rattle.ml_base.specs.Weight.{IsCappedAtMost, capped_total}
use Rattle.adapt_machine.specs.declared.MachineStep.{MachineStep}
use Rattle.k_cheapest.specs.declared.todo.TodoForm.{TodoForm}
use Rattle.k_cheapest.specs.declared.given.Given.{Given}
use Rattle.k_cheapest.specs.declared.item.Item.{Item}
use Rattle.k_cheapest.specs.declared.queue.Queue.{Queue}
use Rattle.k_cheapest.specs.Buckets.{waiting_in}
use Rattle.k_cheapest.specs.Todos.{Stands, IsWeighed}
use Rattle.k_cheapest.specs.Givens.{given_steps, IsGiven}

abbrev pub waiting_of : Queue → List Item
waiting_of q = waiting_in q.buckets.entries

-- an item was taken out, and none that waited is lighter
pub record Takes (old : List Item) (i : Item) (new : List Item) : Type 0 where
  pub waited : Contains old i
  pub only : (j : Item) → Contains new j → Contains old j
  pub rest : (j : Item) → Contains old j → (i ≡ j) ⊎ Contains new j
  pub least : (j : Item) → Contains old j → IsCappedAtMost i.weight j.weight

module _ (steps : List MachineStep) (starts : List StateNo) where
  -- the item has its weights
  pub record IsItem (i : Item) : Type 0 where
    pub todo : IsWeighed steps starts i.todo.now
    pub given : IsGiven steps i.given
    pub weight : i.weight ≡ capped_total i.todo.now.weight i.given.weight

  -- the steps are given behind a choice of what stands before them
  abbrev pub HasBefore : TodoForm → Given → List ℕ → Type 0
  HasBefore form given ks = (us : List ℕ) × Stands steps starts form us × (ks ≡ us ++ given_steps given)

  -- the steps are one of the walks of the set
  abbrev pub Has : Item → List ℕ → Type 0
  Has i ks = HasBefore i.todo.now.form i.given ks

  abbrev pub IsCovered : List Item → List ℕ → Type 0
  IsCovered items ks = (i : Item) × Contains items i × Has i ks

  -- the new ones are the old ones and others, which have exactly the lists of steps of the kind
  pub record Adds (Kind : List ℕ → Type 0) (old new : List Item) : Type 0 where
    pub kept : (i : Item) → Contains old i → Contains new i
    pub only : (i : Item) → Contains new i → Contains old i ⊎ (IsItem i × ((ks : List ℕ) → Has i ks → Kind ks))
    pub covered : (ks : List ℕ) → Kind ks → IsCovered new ks

-- the steps are of the kind of one of the first `n` items
pub record Among {X : Type 0} (Kind : X → List ℕ → Type 0) (xs : List X) (n : ℕ) (ks : List ℕ) : Type 0 where
  pub number : ℕ
  pub early : number < n
  pub item : X
  pub found : slice_get xs number ≡ Some item
  pub is : Kind item ks
