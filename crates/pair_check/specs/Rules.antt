-- The rules by which potentials of a machine bound all its walks, and the first of them that fails.
--   StartsAreListed, RootIsListed            what is listed with weight zero
--   IsExtended, IsOpened, IsNested           what a pair leads to, by the steps of the machine
--   KeepsRules, IsFaultOf                    all of the rules hold, or the fault tells the first that fails and where
use Rattle.std.specs.Prelude.{◌≡◌, ◌<◌, ℕ, List, Some, slice_get, take}
use Rattle.std.specs.List.{All, Contains}
use Rattle.ml_base.specs.declared.numbers.Root.{Root}
use Rattle.ml_base.specs.declared.numbers.Root.TheVariants.{Request, Entry}
use Rattle.ml_base.specs.declared.numbers.StateNo.{StateNo}
use Rattle.ml_base.specs.declared.weight.Weight.{Weight}
use Rattle.ml_base.specs.declared.weight.Weight.TheVariants.{Known}
use Rattle.ml_base.specs.Weight.{IsCappedAtMost, cap, capped_total}
use Rattle.adapt_machine.specs.declared.MachineStep.{MachineStep}
use Rattle.segment_grammar.specs.declared.potentials.Pot.{Pot}
use Rattle.segment_grammar.specs.Index.{IsFlatFrom, IsPopAt, IsPushFrom}
use Rattle.segment_grammar.specs.Pots.{pot}
use Rattle.pair_check.specs.declared.fault.PairFault.{PairFault}
use Rattle.pair_check.specs.declared.fault.PairFault.TheVariants as fault

-- the weight of one step
abbrev pub step_weight : MachineStep → Weight
step_weight t = cap (record { cost = t.cost; hops = 1 })

-- the pair is listed with weight zero
abbrev pub IsListedAtZero : List Pot → Root → StateNo → Type 0
IsListedAtZero pots root state = Contains pots (pot root state (Known 0 0))

-- the pair is listed with at most this weight
abbrev pub IsListedWithin : List Pot → Root → StateNo → Weight → Type 0
IsListedWithin pots root state most = (weight : Weight) × Contains pots (pot root state weight) × IsCappedAtMost weight most

-- each start is listed under the request with weight zero
abbrev pub StartsAreListed : List StateNo → List Pot → Type 0
StartsAreListed starts pots = All (IsListedAtZero pots Request) starts

-- the root, if it is a state, is listed at itself with weight zero
abbrev pub RootIsListed : List Pot → Root → Type 0
RootIsListed pots Request = Unit {0}
RootIsListed pots (Entry x) = IsListedAtZero pots (Entry x) x

-- so is that of the pair
abbrev pub HasRoot : List Pot → Pot → Type 0
HasRoot pots p = RootIsListed pots p.root

-- each flat step leads from the pair to one that is listed with at most the sum
abbrev pub IsExtended : List MachineStep → List Pot → Pot → Type 0
IsExtended steps pots p = (t : MachineStep) → Contains steps t → IsFlatFrom p.state t → IsListedWithin pots p.root t.to (capped_total p.weight (step_weight t))

-- some pair has the state as its root
abbrev pub IsListedRoot : List Pot → StateNo → Type 0
IsListedRoot pots x = (y : StateNo) × (weight : Weight) × Contains pots (pot (Entry x) y weight)

-- each push leads from the pair to a listed root
abbrev pub IsOpened : List MachineStep → List Pot → Pot → Type 0
IsOpened steps pots p = (t : MachineStep) → Contains steps t → IsPushFrom p.state t → IsListedRoot pots t.to

-- the push, each pair of the root that it enters and each pop that takes the frame off again lead from the pair to one that is listed
-- with at most the sum of the four weights
abbrev pub IsNestedBy : List MachineStep → List Pot → Pot → MachineStep → Type 0
IsNestedBy steps pots p t =
    (z : StateNo) (inner : Weight) → Contains pots (pot (Entry t.to) z inner)
    → (u : MachineStep) → Contains steps u → IsPopAt z t.frame u
    → IsListedWithin pots p.root u.to (capped_total (capped_total (capped_total p.weight (step_weight t)) inner) (step_weight u))

-- each push from the pair does
abbrev pub IsNested : List MachineStep → List Pot → Pot → Type 0
IsNested steps pots p = (t : MachineStep) → Contains steps t → IsPushFrom p.state t → IsNestedBy steps pots p t

-- the pairs are of states below this number
abbrev pub ArePairsWithin : ℕ → List Pot → Type 0
ArePairsWithin states pots = All (λ (p : Pot). p.state.0 < states) pots

-- starts and roots are listed with weight zero
pub record BeginAtZero (starts : List StateNo) (pots : List Pot) : Type 0 where
  pub starts_listed : StartsAreListed starts pots
  pub roots_listed : All (HasRoot pots) pots

pub record KeepsRules (steps : List MachineStep) (starts : List StateNo) (pots : List Pot) : Type 0 where
  pub begins : BeginAtZero starts pots
  pub extends : All (IsExtended steps pots) pots
  pub opens : All (IsOpened steps pots) pots
  pub nests : All (IsNested steps pots) pots

-- the item at place k is the first of which P does not hold
pub record IsFirstFailing {A : Type 0} (P : A → Type 0) (xs : List A) (k : ℕ) : Type 0 where
  pub item : A
  pub at : slice_get xs k ≡ Some item
  pub fails : ¬ P item
  pub before : All P (take k xs)

-- the first rule that fails, and the first pair of which it does not hold
abbrev pub IsFaultOf : List MachineStep → List StateNo → List Pot → PairFault → Type 0
IsFaultOf steps starts pots fault.Starts = ¬ StartsAreListed starts pots
IsFaultOf steps starts pots (fault.Roots place) = StartsAreListed starts pots × IsFirstFailing (HasRoot pots) pots place
IsFaultOf steps starts pots (fault.Extends place) = BeginAtZero starts pots × IsFirstFailing (IsExtended steps pots) pots place
IsFaultOf steps starts pots (fault.Opens place) =
    BeginAtZero starts pots × All (IsExtended steps pots) pots
    × IsFirstFailing (IsOpened steps pots) pots place
IsFaultOf steps starts pots (fault.Nests place) =
    BeginAtZero starts pots × All (IsExtended steps pots) pots × All (IsOpened steps pots) pots
    × IsFirstFailing (IsNested steps pots) pots place
IsFaultOf steps starts pots fault.NoMemory = Unit {0}
