-- What is gathered from a table, in the order of its pairs.
use Rattle.std.specs.Prelude.{◌≡◌, ℕ, ◌+◌, ◌<◌, ◌⊎◌, List, [], ◌∷◌, ◌++◌, length, slice_get, Some}
use Rattle.std.specs.List.{Contains}
use Rattle.ml_base.specs.declared.weight.Weight.{Weight}
use Rattle.ml_base.specs.Weight.{IsCappedAtMost}
use Rattle.segment_grammar.specs.declared.potentials.Pot.{Pot}
use Rattle.segment_grammar.specs.Pots.{pot, IsOfPair, IsBelow}
use Rattle.deriv_arena.specs.declared.Deriv.{Deriv}
use Rattle.knuth_search.specs.declared.derived.Derived.{Derived}
use Rattle.knuth_search.specs.declared.settled.Settled.{Settled}
use Rattle.knuth_search.specs.Derived.{Task, IsDerived}
use Rattle.knuth_search.specs.Tables.{pot_of}
use Rattle.knuth_search.specs.Settled.{potentials_of, derivs_of}

-- by root, then by state, and of one pair the lighter first
abbrev pub Precedes : Pot → Pot → Type 0
Precedes p q = IsBelow p.root p.state q.root q.state ⊎ (IsOfPair p q.root q.state × IsCappedAtMost p.weight q.weight)

-- each precedes each later one
abbrev pub AreInOrder : List Derived → Type 0
AreInOrder items = (i j : ℕ) (d e : Derived) → i < j → slice_get items i ≡ Some d → slice_get items j ≡ Some e → Precedes (pot_of d) (pot_of e)

-- the item before the place is of the same pair
pub record Repeats (items : List Derived) (place : ℕ) : Type 0 where
  pub number : ℕ
  pub next : number + 1 ≡ place
  pub before : Derived
  pub item : Derived
  pub stands_before : slice_get items number ≡ Some before
  pub stands : slice_get items place ≡ Some item
  pub same : IsOfPair (pot_of before) item.root item.state

-- the pair of `p` is listed
abbrev pub HasPair : List Pot → Pot → Type 0
HasPair list p = (w : Weight) × Contains list (pot p.root p.state w)

-- `d` stands after what was there
pub record Appends (old : Settled) (d : Derived) (new : Settled) : Type 0 where
  pub potentials : potentials_of new ≡ potentials_of old ++ pot_of d ∷ []
  pub derivs : derivs_of new ≡ derivs_of old ++ d.deriv.now ∷ []

pub record Leaves (old new : Settled) : Type 0 where
  pub potentials : potentials_of new ≡ potentials_of old
  pub derivs : derivs_of new ≡ derivs_of old

-- the item at the place is listed last, unless it is of the pair before
abbrev pub Lists : List Derived → ℕ → Settled → Settled → Type 0
Lists items place old new = (Repeats items place × Leaves old new) ⊎ ((Repeats items place → ⊥) × ((d : Derived) × (slice_get items place ≡ Some d) × Appends old d new))

-- the least of each pair of the table, and a derivation beside each
pub record IsGathered (task : Task) (pots potentials : List Pot) (derivs : List Deriv) : Type 0 where
  pub rooms : length derivs ≡ length potentials
  pub derived : (i : ℕ) (p : Pot) (d : Deriv) → slice_get potentials i ≡ Some p → slice_get derivs i ≡ Some d → IsDerived task p d
  pub least : (p : Pot) → Contains potentials p → (q : Pot) → Contains pots q → IsOfPair q p.root p.state → IsCappedAtMost p.weight q.weight
  pub all : (q : Pot) → Contains pots q → HasPair potentials q
