-- The reply to `check`.
use Rattle.std.specs.Prelude.{ℕ, List}
use Rattle.circuit_spec.specs.Network.{Topology}
use Rattle.replies.specs.declared.reply.Reply.{Reply}
use Rattle.replies.specs.declared.reply.Status.{Status}
use Rattle.replies.specs.declared.reply.Status.TheVariants as statuses
use Rattle.replies.specs.Through.{IsText}
use Rattle.verdict.specs.declared.verdicts.Verdict.{Verdict}
use Rattle.verdict.specs.declared.verdicts.Verdict.TheVariants.{Valid, NotValid}
use Rattle.verdict.specs.Verdicts.{IsVerdict}
use Rattle.check_command.specs.Lines.{verdict_line}

-- the status of a verdict
abbrev pub status_of_verdict : Verdict → Status
status_of_verdict (Valid outcome) = statuses.Done
status_of_verdict (NotValid line broken) = statuses.Fails

-- the reply tells the verdict on the document of these bytes
pub record IsJudged (T : Topology) (bytes : List ℕ) (reply : Reply) : Type 0 where
  pub verdict : Verdict
  pub is_verdict : IsVerdict T bytes verdict
  pub is : IsText (status_of_verdict verdict) (verdict_line verdict) reply
