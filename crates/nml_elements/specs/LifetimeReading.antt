-- What an element says of its lifetime.
use Rattle.std.specs.Prelude.{ℕ, codes, is_some, Option, Some, None, Result, Ok, Err, if◌then◌else◌}
use Rattle.serde_json.specs.Data.{Data}
use Rattle.serde_json.specs.Find.{as_object}
use Rattle.nml_elements.specs.declared.fault.MemberFault.{MemberFault}
use Rattle.nml_elements.specs.declared.fault.MemberFault.TheVariants.{Rule}
use Rattle.nml_elements.specs.Gives.{◌>>=◌}
use Rattle.nml_elements.specs.Lifetimes.{Lifespan, lifespan}
use Rattle.nml_elements.specs.MemberReading.{part, whole}

abbrev pub time_number : Option ℕ → Result ℕ MemberFault
time_number None = Err (Rule 15)
time_number (Some n) = Ok n

unfoldable pub time_at : Data → Result ℕ MemberFault
time_at d = time_number (whole d)

abbrev pub start_from : Option Data → Result ℕ MemberFault
start_from None = Ok 0
start_from (Some d) = time_at d

unfoldable pub start_at : Data → Result ℕ MemberFault
start_at d = start_from (part (codes "start") d)

abbrev pub end_from : Option Data → Result (Option ℕ) MemberFault
end_from None = Ok None
end_from (Some d) = do
  time ← time_at d
  Ok (Some time)

unfoldable pub end_at : Data → Result (Option ℕ) MemberFault
end_at d = end_from (part (codes "end") d)

abbrev pub fitting : Option Lifespan → Result Lifespan MemberFault
fitting None = Err (Rule 15)
fitting (Some life) = Ok life

unfoldable pub times_at : Data → Result Lifespan MemberFault
times_at d = do
  start ← start_at d
  end ← end_at d
  fitting (lifespan start end)

unfoldable pub lifespan_at : Data → Result Lifespan MemberFault
lifespan_at d = if is_some (as_object d) then times_at d else Err (Rule 15)

abbrev pub lifetime_from : Option Data → Result (Option Lifespan) MemberFault
lifetime_from None = Ok None
lifetime_from (Some d) = do
  life ← lifespan_at d
  Ok (Some life)

unfoldable pub lifetime_at : Data → Result (Option Lifespan) MemberFault
lifetime_at d = lifetime_from (part (codes "existsDuring") d)
