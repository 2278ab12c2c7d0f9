-- Walks that are listed, and sets of walks that wait.
use Rattle.std.specs.Prelude.{◌≡◌, ◌⊎◌, ℕ, ◌<◌, ◌≤◌, ◌++◌, List, [], ◌∷◌, slice_get, Some}
use Rattle.std.specs.List.{Contains}
use Rattle.ml_base.specs.declared.numbers.StateNo.{StateNo}
use Rattle.ml_base.specs.declared.weight.Weight.{Weight}
use Rattle.ml_base.specs.declared.weight.Weight.TheVariants.{Known, Past}
use Rattle.ml_base.specs.Weight.{IsCappedAtMost}
use Rattle.adapt_machine.specs.declared.MachineStep.{MachineStep}
use Rattle.k_cheapest.specs.declared.found.KWalk.{KWalk}
use Rattle.k_cheapest.specs.declared.item.Item.{Item}
use Rattle.k_cheapest.specs.declared.setting.Setting.{Setting}
use Rattle.k_cheapest.specs.Settings.{steps_in, starts_in, targets_in}
use Rattle.k_cheapest.specs.KLists.{IsWalk, IsListed, IsListable, numbers_of}
use Rattle.k_cheapest.specs.Items.{IsItem, Has, IsCovered}

-- listed walks, no two the same, in order of weight
pub record AreListed (steps : List MachineStep) (starts targets : List StateNo) (limit : ℕ) (walks : List KWalk) : Type 0 where
  pub listable : (w : KWalk) → Contains walks w → IsListable steps starts targets limit w
  pub once : (i j : ℕ) (v w : KWalk) → i < j → slice_get walks i ≡ Some v → slice_get walks j ≡ Some w → v.steps ≡ w.steps → ⊥
  pub rising : (i j : ℕ) (v w : KWalk) → i < j → slice_get walks i ≡ Some v → slice_get walks j ≡ Some w → IsCappedAtMost v.weight w.weight

-- each walk is listed or waits, what waits are walks, and none that waits is lighter than one that is listed
pub record IsSearching (steps : List MachineStep) (starts targets : List StateNo) (limit : ℕ) (walks : List KWalk) (waiting : List Item) : Type 0 where
  pub listed : AreListed steps starts targets limit walks
  pub items : (i : Item) → Contains waiting i → IsItem steps starts i
  pub sound : (i : Item) → Contains waiting i → (ks : List ℕ) → Has steps starts i ks → IsWalk steps starts targets ks
  pub covered : (ks : List ℕ) → IsWalk steps starts targets ks → IsListed walks ks ⊎ IsCovered steps starts waiting ks
  pub above : (i : Item) → Contains waiting i → (w : KWalk) → Contains walks w → IsCappedAtMost w.weight i.weight

-- the same for the walks that are asked for
abbrev pub Searches : Setting → List KWalk → List Item → Type 0
Searches s walks waiting = IsSearching (steps_in s) (starts_in s) (targets_in s) s.limit walks waiting

abbrev pub IsLight : ℕ → Weight → Type 0
IsLight limit (Known cost hops) = hops ≤ limit
IsLight limit Past = ⊥

-- of what waits the item is a lightest, and has no more hops than the limit
pub record IsNext (s : Setting) (walks : List KWalk) (i : Item) (rest : List Item) : Type 0 where
  pub searches : Searches s walks (i ∷ rest)
  pub least : (j : Item) → Contains rest j → IsCappedAtMost i.weight j.weight
  pub light : IsLight s.limit i.weight

-- the item's walk is listed, unless it was
pub record Lists (steps : List ℕ) (i : Item) (old new : List KWalk) : Type 0 where
  pub walk : KWalk
  pub are : numbers_of walk.steps ≡ steps
  pub weight : walk.weight ≡ i.weight
  pub listed : (IsListed old steps × (new ≡ old)) ⊎ ((IsListed old steps → ⊥) × (new ≡ old ++ walk ∷ []))
