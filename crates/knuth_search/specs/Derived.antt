-- What the search is about, and when a derivation is one of a pair with its weight.
use Rattle.std.specs.Prelude.{◌≡◌, ℕ, ◌<◌, List}
use Rattle.std.specs.List.{Contains}
use Rattle.ml_base.specs.declared.numbers.StateNo.{StateNo}
use Rattle.ml_base.specs.declared.numbers.Root.{Root}
use Rattle.ml_base.specs.declared.numbers.Root.TheVariants.{Request, Entry}
use Rattle.adapt_machine.specs.Machine.{MachineValue}
use Rattle.segment_grammar.specs.declared.potentials.Pot.{Pot}
use Rattle.segment_grammar.specs.Reached.{IsEntered}
use Rattle.deriv_arena.specs.declared.Deriv.{Deriv}
use Rattle.deriv_arena.specs.Derivation.{IsOver}

-- a machine and the states where the segments under the request begin
pub record Task : Type 0 where
  pub machine : MachineValue
  pub starts : List StateNo

-- a segment under the root may begin here: at a start, or at the entered state
abbrev pub BeginsAt : Task → Root → StateNo → Type 0
BeginsAt g Request x = Contains g.starts x
BeginsAt g (Entry e) x = (x ≡ e) × IsEntered g.machine.steps g.starts e

abbrev pub IsRootWithin : ℕ → Root → Type 0
IsRootWithin states Request = Unit {0}
IsRootWithin states (Entry x) = x.0 < states

-- the numbers are below the number of states
pub record IsPotWithin (states : ℕ) (p : Pot) : Type 0 where
  pub state : p.state.0 < states
  pub root : IsRootWithin states p.root

-- a derivation over the machine, of the pair and its weight
pub record IsDerived (g : Task) (p : Pot) (d : Deriv) : Type 0 where
  pub over : IsOver g.machine.steps d
  pub first : BeginsAt g p.root d.first
  pub last : d.last ≡ p.state
  pub weight : d.weight ≡ p.weight
  pub within : IsPotWithin g.machine.states p
