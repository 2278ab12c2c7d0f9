-- Forwarding by a list of rules: at each place the one rule whose from class and label are the place is taken as a hop.
--   LeavesFrom, AreLeaving    the rules that leave from a place
--   GoesOn                    a turn at which a rule is taken
--   Stops                     the table of faults: a turn at which forwarding stops, and why
--   Forwards                  the hops that are taken from a unit, and how forwarding ends
--   IsForwarded, Answers      what `forward` says of them
use Rattle.std.specs.Prelude.{◌≡◌, ◌≢◌, ◌⊎◌, ◌<◌, List, [], ◌∷◌, ◌++◌, Result, Ok, Err, length}
use Rattle.std.specs.List.{Contains}
use Rattle.circuit_spec.specs.declared.hops.Hop.{Hop}
use Rattle.circuit_spec.specs.declared.hops.PlaceName.{PlaceName}
use Rattle.circuit_spec.specs.declared.hops.Unit.{Unit as DataUnit}
use Rattle.circuit_spec.specs.Network.{Topology, Port, IsClass}
use Rattle.circuit_spec.specs.Steps.{Step}
use Rattle.circuit_spec.specs.Segments.{unit_in}
use Rattle.device_rules.specs.declared.rules.Rule.{Rule}
use Rattle.table_replay.specs.declared.fault.ForwardFault.{ForwardFault}
use Rattle.table_replay.specs.declared.fault.ForwardFault.TheVariants as why

-- the rule's from class and label are the place
abbrev pub LeavesFrom : Topology → PlaceName → Rule → Type 0
LeavesFrom T place rule = (class : Port) × IsClass T rule.hop.from class × (place ≡ record { class = class.id; label = rule.hop.from_label })

-- of the rules, those that leave from the place, in their order
abbrev pub AreLeaving : Topology → PlaceName → List Rule → List Rule → Type 0
AreLeaving T place [] leaving = leaving ≡ []
AreLeaving T place (rule ∷ rules) leaving =
    ((¬ LeavesFrom T place rule) × AreLeaving T place rules leaving)
    ⊎ (LeavesFrom T place rule × ((others : List Rule) × AreLeaving T place rules others × (leaving ≡ rule ∷ others)))

-- the place where a unit is
abbrev pub place_of : DataUnit → PlaceName
place_of u = record { class = u.class; label = u.label }

-- The unit is away from the target, at a place that was not met before.
pub record IsAwayAnew (target : PlaceName) (met : List PlaceName) (u : DataUnit) : Type 0 where
  pub away : place_of u ≢ target
  pub anew : ¬ Contains met (place_of u)

-- Forwarding goes on: the one rule that leaves from the unit's place is a hop of the unit, and takes it to the unit v.
pub record GoesOn (T : Topology) (rules : List Rule) (target : PlaceName) (met : List PlaceName) (u : DataUnit) (h : Hop) (v : DataUnit) : Type 0 where
  pub is_anew : IsAwayAnew target met u
  pub rule : Rule
  pub only : AreLeaving T (place_of u) rules (rule ∷ [])
  pub hop : rule.hop ≡ h
  pub step : Step T u h v

-- no rule leaves from the unit's place
abbrev pub HasNoRule : Topology → List Rule → DataUnit → Type 0
HasNoRule T rules u = AreLeaving T (place_of u) rules []

-- more than one rule leaves from it
abbrev pub HasTwoRules : Topology → List Rule → DataUnit → Type 0
HasTwoRules T rules u = (one other : Rule) × (more : List Rule) × AreLeaving T (place_of u) rules (one ∷ other ∷ more)

-- one rule leaves from it, and is no hop of the unit
abbrev pub HasNoStep : Topology → List Rule → DataUnit → Type 0
HasNoStep T rules u = (rule : Rule) × AreLeaving T (place_of u) rules (rule ∷ []) × ((v : DataUnit) → ¬ Step T u rule.hop v)

-- The table of faults. The places that were met before the unit's are given.
abbrev pub Stops : Topology → List Rule → PlaceName → List PlaceName → DataUnit → ForwardFault → Type 0
Stops T rules target met u (why.Loop at) = (at ≡ place_of u) × (place_of u ≢ target) × Contains met (place_of u)
Stops T rules target met u (why.NoRule at) = (at ≡ place_of u) × IsAwayAnew target met u × HasNoRule T rules u
Stops T rules target met u (why.TwoRules at) = (at ≡ place_of u) × IsAwayAnew target met u × HasTwoRules T rules u
Stops T rules target met u (why.Step at) = (at ≡ place_of u) × IsAwayAnew target met u × HasNoStep T rules u
Stops T rules target met u (why.Left frames) = (place_of u ≡ target) × (frames ≡ length u.stack) × (0 < frames)
Stops T rules target met u why.NoMemory = ⊥

-- how forwarding ends
pub data Ending : Type 0 where
  arrived : Ending
  stopped : ForwardFault → Ending

-- forwarding ends at the unit: it is at the target with the empty stack, or it stops
abbrev pub EndsBy : Topology → List Rule → PlaceName → List PlaceName → DataUnit → Ending → Type 0
EndsBy T rules target met u arrived = (place_of u ≡ target) × (u.stack ≡ [])
EndsBy T rules target met u (stopped fault) = Stops T rules target met u fault

-- from the unit, behind these places, forwarding takes the hops, one after another, and then ends so
abbrev pub Forwards : Topology → List Rule → PlaceName → List PlaceName → DataUnit → List Hop → Ending → Type 0
Forwards T rules target met u [] ending = EndsBy T rules target met u ending
Forwards T rules target met u (h ∷ hops) ending = (v : DataUnit) × GoesOn T rules target met u h v × Forwards T rules target (met ++ place_of u ∷ []) v hops ending

-- forwarding from the start place, with the empty stack
abbrev pub ForwardsFrom : Topology → List Rule → PlaceName → PlaceName → List Hop → Ending → Type 0
ForwardsFrom T rules start target hops ending = Forwards T rules target [] (unit_in start []) hops ending

-- the fault is one by which forwarding stops, or memory ran out
abbrev pub IsFault : Topology → List Rule → PlaceName → PlaceName → ForwardFault → Type 0
IsFault T rules start target fault = (fault ≡ why.NoMemory) ⊎ ((hops : List Hop) × ForwardsFrom T rules start target hops (stopped fault))

-- what is answered is how forwarding ends, unless memory ran out
abbrev pub Answers : Result (List Hop) ForwardFault → List Hop → Ending → Type 0
Answers (Ok list) hops ending = (list ≡ hops) × (ending ≡ arrived)
Answers (Err fault) hops ending = (fault ≡ why.NoMemory) ⊎ (ending ≡ stopped fault)
