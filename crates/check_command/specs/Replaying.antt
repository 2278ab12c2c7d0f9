-- The reply to `replay`.
use Rattle.std.specs.Prelude.{ℕ, List}
use Rattle.circuit_spec.specs.Network.{Topology}
use Rattle.replies.specs.declared.reply.Reply.{Reply}
use Rattle.replies.specs.declared.reply.Status.{Status}
use Rattle.replies.specs.declared.reply.Status.TheVariants as statuses
use Rattle.replies.specs.Through.{IsText}
use Rattle.rule_replay.specs.declared.replayed.Replayed.{Replayed}
use Rattle.rule_replay.specs.declared.replayed.Replayed.TheVariants.{Carried, NotCarried}
use Rattle.rule_replay.specs.Replaying.{IsReplayed}
use Rattle.check_command.specs.Lines.{replay_line}

-- the status after a replay
abbrev pub status_of_replay : Replayed → Status
status_of_replay (Carried rules any_order) = statuses.Done
status_of_replay (NotCarried at why) = statuses.Fails

-- the reply tells what the rules of the document of these bytes do
pub record IsCarriedOut (T : Topology) (bytes : List ℕ) (reply : Reply) : Type 0 where
  pub replayed : Replayed
  pub is_replayed : IsReplayed T bytes replayed
  pub is : IsText (status_of_replay replayed) (replay_line replayed) reply
