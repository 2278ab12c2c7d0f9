-- The rules of each number from 1 on.
use Rattle.std.specs.Prelude.{◌≡◌, ◌≢◌, ℕ, ◌+◌, ◌<◌, List, [], ◌∷◌, ◌++◌, Bool, true, false, Some, length, slice_get}
use Rattle.std.specs.List.{Contains}
use Rattle.circuit_spec.specs.declared.hops.Hop.{Hop}
use Rattle.device_rules.specs.declared.rules.Rule.{Rule}
use Rattle.rule_replay.specs.declared.slots.Numbering.{Numbering}
use Rattle.rule_replay.specs.declared.slots.Numbering.TheVariants.{Hops, Misnumbered}
use Rattle.rule_replay.specs.declared.slots.Slot.{Slot}
use Rattle.rule_replay.specs.declared.slots.Slot.TheVariants.{Missing, One, Several}
use Rattle.rule_replay.specs.Replaying.{AreByNumber, IsFirstMisnumbered, count_of}

-- what a slot says of the rules of a number
abbrev pub Notes : List Rule → ℕ → Slot → Type 0
Notes rules n Missing = count_of rules n ≡ 0
Notes rules n (One place) = (count_of rules n ≡ 1) × ((rule : Rule) × (slice_get rules place ≡ Some rule) × (rule.number ≡ n))
Notes rules n Several = 1 < count_of rules n

-- there are this many slots, and each tells of its number
pub record AreNoted (rules : List Rule) (slots : List Slot) (count : ℕ) : Type 0 where
  pub counted : length slots ≡ count
  pub each : (n : ℕ) (slot : Slot) → slice_get slots n ≡ Some slot → Notes rules (n + 1) slot

-- the slot with a rule more
abbrev pub slot_with : Slot → ℕ → Slot
slot_with Missing place = One place
slot_with (One other) place = Several
slot_with Several place = Several

-- the hops by number, or the first number that does not stand exactly once
abbrev pub IsNumbering : List Rule → Numbering → Type 0
IsNumbering rules (Hops hops) = AreByNumber rules hops
IsNumbering rules (Misnumbered n) = IsFirstMisnumbered rules n

-- a rule of this number has the hop
abbrev pub HasRule : List Rule → ℕ → Hop → Type 0
HasRule rules n hop = Contains rules (record { number = n; hop = hop })

-- The first n numbers stand exactly once, and these are the hops of their rules.
pub record AreFirstByNumber (rules : List Rule) (hops : List Hop) (n : ℕ) : Type 0 where
  pub counted : length hops ≡ n
  pub once : (m : ℕ) → 0 < m → m < n + 1 → count_of rules m ≡ 1
  pub each : (k : ℕ) (hop : Hop) → slice_get hops k ≡ Some hop → HasRule rules (k + 1) hop

-- the hop of a slot's one rule is put behind the others, or the slot has no one rule
abbrev pub AddsHop : List Rule → Slot → List Hop → List Hop → Bool → Type 0
AddsHop rules slot old new true = (place : ℕ) × (rule : Rule) × (slot ≡ One place) × (slice_get rules place ≡ Some rule) × (new ≡ old ++ rule.hop ∷ [])
AddsHop rules slot old new false = (place : ℕ) → slot ≢ One place
