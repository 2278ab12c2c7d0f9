-- The exit status after a text that was printed whole.
use Rattle.std.specs.Prelude.{ℕ, List, [], ◌∷◌}
use Rattle.ml_base.specs.declared.ends.KEnd.{KEnd}
use Rattle.ml_base.specs.declared.ends.KEnd.TheVariants as ends
use Rattle.circuit_spec.specs.declared.hops.Outcome.{Outcome}
use Rattle.circuit_spec.specs.declared.hops.Outcome.TheVariants as outcome
use Rattle.k_answers.specs.declared.answer.KHops.{KHops}
use Rattle.replies.specs.declared.reply.Status.{Status}
use Rattle.replies.specs.declared.reply.Status.TheVariants.{Done, NoWalk, Usage, Fault, NoRequest, NotRead, Past, Long, Fails, TooBig}

abbrev pub code : Status → ℕ
code Done = 0
code NoWalk = 1
code Usage = 2
code Fault = 3
code NoRequest = 4
code NotRead = 5
code Past = 7
code Long = 8
code Fails = 9
code TooBig = 11

-- the status of a search with this outcome
abbrev pub status_of : Outcome → Status
status_of (outcome.Found cost hops) = Done
status_of outcome.NoWalk = NoWalk
status_of outcome.Past = Past
status_of (outcome.Long cost hops) = Long

-- the status where no walk is listed, by why there are none
abbrev pub status_at : KEnd → Status
status_at ends.Enough = Done
status_at ends.NoMore = NoWalk
status_at ends.Past = Past
status_at (ends.Long cost hops) = Long

-- the status of a list of walks with this end
abbrev pub k_status_of : List KHops → KEnd → Status
k_status_of [] end = status_at end
k_status_of (w ∷ ws) end = Done
