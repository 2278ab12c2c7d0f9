-- What the rules of a document do, taken by number: they carry the unit of its request, or the first condition that fails is told.
--   Spells, IsFound             a document, and an outcome with a walk
--   IsAsked                     the document of an answer that is found, to a known request
--   IsFirstMisnumbered          a number that does not stand exactly once
--   AreByNumber, IsOrdered      the hops of the rules in the order of their numbers
--   IsFirstRefused              the first hop that the unit cannot take
--   IsUnflagged                 the hops come back to no place
--   IsReplayed                  the table of what is told
use Rattle.std.specs.Prelude.{◌≡◌, ◌≢◌, ◌↔◌, ◌+◌, ◌<◌, ◌≤◌, ℕ, List, [], ◌∷◌, ◌++◌, IsTrue, length, nat_eq}
use Rattle.std.specs.List.{count_by}
use Rattle.std.specs.List.Sorted.{IsPermutation}
use Rattle.circuit_spec.specs.declared.hops.Hop.{Hop}
use Rattle.circuit_spec.specs.declared.hops.Outcome.{Outcome}
use Rattle.circuit_spec.specs.declared.hops.Outcome.TheVariants.{Found, NoWalk, Past, Long}
use Rattle.circuit_spec.specs.declared.hops.Request.{Request}
use Rattle.circuit_spec.specs.declared.hops.Unit.{Unit as DataUnit}
use Rattle.circuit_spec.specs.Faults.{IsKnown}
use Rattle.circuit_spec.specs.Network.{Topology, Port, IsClass}
use Rattle.circuit_spec.specs.Segments.{unit_in}
use Rattle.circuit_spec.specs.Steps.{Run, Walk}
use Rattle.packet_replay.specs.declared.faults.StepFault.TheVariants as step
use Rattle.packet_replay.specs.Conditions.{IsRefused}
use Rattle.device_rules.specs.declared.rules.Rule.{Rule}
use Rattle.line_text.specs.Lines.{text_of}
use Rattle.device_rules.specs.Numbering.{numbered}
use Rattle.table_replay.specs.Walked.{AreUnflagged}
use Rattle.answer_spec.specs.declared.answer.Answer.{Answer}
use Rattle.answer_spec.specs.Certificate.{AreCarried, first_place}
use Rattle.answer_spec.specs.WellFormed.{IsWellFormed}
use Rattle.answer_text.specs.Spelling.{lines_of}
use Rattle.rule_replay.specs.declared.replayed.Replayed.{Replayed as WhatIsTold}
use Rattle.rule_replay.specs.declared.replayed.Replayed.TheVariants.{Carried, NotCarried}
use Rattle.rule_replay.specs.declared.replayed.ReplayCause.TheVariants as cause
use Rattle.rule_replay.specs.declared.replayed.ReplayCause.{ReplayCause}

-- the bytes are the document of the answer
abbrev pub Spells : List ℕ → Answer → Type 0
Spells bytes a = IsWellFormed a × (bytes ≡ text_of (lines_of a))

-- the outcome has a walk
abbrev pub IsFound : Outcome → Type 0
IsFound (Found cost hops) = Unit {0}
IsFound NoWalk = ⊥
IsFound Past = ⊥
IsFound (Long cost hops) = ⊥

-- The bytes are the document of an answer that is found, and its request is known.
pub record IsAsked (T : Topology) (bytes : List ℕ) (a : Answer) : Type 0 where
  pub spells : Spells bytes a
  pub found : IsFound a.outcome
  pub known : IsKnown T a.request

-- how many rules have the number
abbrev pub count_of : List Rule → ℕ → ℕ
count_of rules n = count_by (λ (rule : Rule). nat_eq rule.number n) rules

-- n is the least number from 1 to the count of the rules that does not stand there exactly once
pub record IsFirstMisnumbered (rules : List Rule) (n : ℕ) : Type 0 where
  pub above : 0 < n
  pub within : n ≤ length rules
  pub fails : count_of rules n ≢ 1
  pub before : (m : ℕ) → 0 < m → m < n → count_of rules m ≡ 1

-- the rules are numbered from 1, each number once, and these are their hops in that order
abbrev pub AreByNumber : List Rule → List Hop → Type 0
AreByNumber rules hops = IsPermutation (numbered 1 hops) rules

-- Such a document, and the hops of its rules in the order of their numbers.
pub record IsOrdered (T : Topology) (bytes : List ℕ) (a : Answer) (hops : List Hop) : Type 0 where
  pub asked : IsAsked T bytes a
  pub by_number : AreByNumber a.rules hops

-- why a unit cannot take a hop
abbrev pub Refuses : Topology → DataUnit → Hop → ReplayCause → Type 0
Refuses T u h cause.NoHop = IsRefused T 0 u h step.NoHop
Refuses T u h cause.Label = IsRefused T 0 u h step.Label
Refuses T u h cause.Frame = IsRefused T 0 u h step.Frame
Refuses T u h cause.Text = ⊥
Refuses T u h cause.Outcome = ⊥
Refuses T u h cause.Request = ⊥
Refuses T u h cause.Number = ⊥
Refuses T u h cause.End = ⊥

-- From the class of FROM, with the wished label or else that of the first hop, the hops before hop n are taken, and that one is refused.
pub record IsFirstRefused (T : Topology) (r : Request) (hops : List Hop) (n : ℕ) (why : ReplayCause) : Type 0 where
  pub class : Port
  pub is_class : IsClass T r.from class
  pub before : List Hop
  pub hop : Hop
  pub behind : List Hop
  pub split : hops ≡ before ++ hop ∷ behind
  pub number : n ≡ length before + 1
  pub unit : DataUnit
  pub run : Run T (unit_in (first_place class r hops) []) before unit
  pub refused : Refuses T unit hop why

-- the hops come back to no place
abbrev pub IsUnflagged : Topology → Request → List Hop → Type 0
IsUnflagged T r hops = (class : Port) × IsClass T r.from class × AreUnflagged T (first_place class r hops) hops

-- a hop of such a document is refused
abbrev pub IsStopped : Topology → List ℕ → ℕ → ReplayCause → Type 0
IsStopped T bytes n why = (a : Answer) × (hops : List Hop) × IsOrdered T bytes a hops × IsFirstRefused T a.request hops n why

-- The table of what is told, in the order in which it counts. The rules carry where their hops are a walk of the request, and in any
-- order where that comes back to no place.
abbrev pub IsReplayed : Topology → List ℕ → WhatIsTold → Type 0
IsReplayed T bytes (NotCarried n cause.Text) = (n ≡ 0) × ((a : Answer) → ¬ Spells bytes a)
IsReplayed T bytes (NotCarried n cause.Outcome) = (n ≡ 0) × ((a : Answer) × Spells bytes a × (¬ IsFound a.outcome))
IsReplayed T bytes (NotCarried n cause.Request) = (n ≡ 0) × ((a : Answer) × Spells bytes a × IsFound a.outcome × (¬ IsKnown T a.request))
IsReplayed T bytes (NotCarried n cause.Number) = (a : Answer) × IsAsked T bytes a × IsFirstMisnumbered a.rules n
IsReplayed T bytes (NotCarried n cause.NoHop) = IsStopped T bytes n cause.NoHop
IsReplayed T bytes (NotCarried n cause.Label) = IsStopped T bytes n cause.Label
IsReplayed T bytes (NotCarried n cause.Frame) = IsStopped T bytes n cause.Frame
IsReplayed T bytes (NotCarried n cause.End) =
    (a : Answer) × (hops : List Hop) × IsOrdered T bytes a hops × (n ≡ length hops) × AreCarried T a.request hops × (¬ Walk T a.request hops)
IsReplayed T bytes (Carried n any_order) =
    (a : Answer) × (hops : List Hop) × IsOrdered T bytes a hops × (n ≡ length hops) × Walk T a.request hops × (IsTrue any_order ↔ IsUnflagged T a.request hops)
