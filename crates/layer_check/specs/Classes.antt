-- Ports that do not fit their classes.
use Rattle.std.specs.Prelude.{◌≡◌, ℕ, ◌<◌, ◌≤◌, Bool, true, false, ◌||◌, Option, None, Some}
use Rattle.ml_base.specs.declared.numbers.PortNo.{PortNo}
use Rattle.circuit_spec.specs.Network.{Topology, Port}
use Rattle.nml_inventory.specs.Aliases.{IsClassNumber}
use Rattle.layer_check.specs.Comparing.{other_encoding, other_type}

-- the second port has another encoding or another label type than the first
abbrev pub is_other : Port → Port → Bool
is_other first q = other_encoding first q || other_type first q

-- the port of the number fits the first port of its class
pub record IsFit (T : Topology) (number : ℕ) : Type 0 where
  pub class_number : ℕ
  pub member : IsClassNumber T number class_number
  pub fits : is_other member.first member.port ≡ false

-- the port of the number does not fit the first port of its class, which is that of the other number
pub record IsUnfit (T : Topology) (number class : ℕ) : Type 0 where
  pub member : IsClassNumber T number class
  pub differs : is_other member.first member.port ≡ true

-- the class of a port that does not fit it, if so
abbrev pub IsUnfitClass : Topology → ℕ → Option PortNo → Type 0
IsUnfitClass T number None = IsFit T number
IsUnfitClass T number (Some class) = IsUnfit T number class.0

-- the least class that some port of a lesser number does not fit, if there is one
abbrev pub IsLeastUnfit : Topology → ℕ → Option PortNo → Type 0
IsLeastUnfit T number None = (n : ℕ) → n < number → IsFit T n
IsLeastUnfit T number (Some class) =
    ((n : ℕ) × IsUnfit T n class.0) × ((n : ℕ) → n < number → (c : ℕ) → IsUnfit T n c → class.0 ≤ c)

-- the port of the number is of the class, and passes the test
pub record IsMemberThat (T : Topology) (test : Port → Bool) (class number : ℕ) : Type 0 where
  pub member : IsClassNumber T number class
  pub passes : test member.port ≡ true

-- the first port of the class that passes the test, if there is one
abbrev pub IsFirstMember : Topology → (Port → Bool) → ℕ → Option PortNo → Type 0
IsFirstMember T test class None = (n : ℕ) → ¬ IsMemberThat T test class n
IsFirstMember T test class (Some number) = IsMemberThat T test class number.0 × ((n : ℕ) → n < number.0 → ¬ IsMemberThat T test class n)
