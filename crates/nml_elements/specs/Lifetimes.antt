-- How long an element exists, and whether it does so throughout a window.
use Rattle.std.specs.Prelude.{ℕ, ◌≤◌, Bool, true, ◌&&◌, IsTrue, nat_lt, nat_le, Option, None, Some, if◌then◌else◌}

-- from its start on, and up to its end if it has one
pub record Lifespan : Type 0 where
  pub start : ℕ
  pub end : Option ℕ

-- from a time up to a later one
pub record Interval : Type 0 where
  pub from : ℕ
  pub to : ℕ

-- the end, if there is one, is above the start
abbrev pub ends_above : ℕ → Option ℕ → Bool
ends_above start None = true
ends_above start (Some end) = nat_lt start end

abbrev pub IsLifespan : Lifespan → Type 0
IsLifespan life = IsTrue (ends_above life.start life.end)

-- the lifespan from this start up to this end, if the end is above the start
abbrev pub lifespan : ℕ → Option ℕ → Option Lifespan
lifespan start end = if ends_above start end then Some (record { start = start; end = end }) else None

abbrev pub IsInterval : Interval → Type 0
IsInterval window = IsTrue (nat_lt window.from window.to)

-- the interval between these times, if the second is above the first
abbrev pub interval : ℕ → ℕ → Option Interval
interval from to = if nat_lt from to then Some (record { from = from; to = to }) else None

-- the time is at most the end, if there is one
abbrev pub IsUpTo : ℕ → Option ℕ → Type 0
IsUpTo time None = Unit {0}
IsUpTo time (Some end) = time ≤ end

-- What has no lifetime exists throughout every window. What has one exists throughout those that lie within it.
abbrev pub ExistsThroughout : Interval → Option Lifespan → Type 0
ExistsThroughout window None = Unit {0}
ExistsThroughout window (Some life) = (life.start ≤ window.from) × IsUpTo window.to life.end

-- the same as a test
abbrev pub is_up_to : ℕ → Option ℕ → Bool
is_up_to time None = true
is_up_to time (Some end) = nat_le time end

abbrev pub exists_throughout : Interval → Option Lifespan → Bool
exists_throughout window None = true
exists_throughout window (Some life) = nat_le life.start window.from && is_up_to window.to life.end
