-- The replies to a survey are one.
use Rattle.std.proofs.Common.{refl}
use Rattle.circuit_spec.specs.Network.{Topology}
use Rattle.replies.specs.declared.reply.Reply.{Reply}
use Rattle.file_words.proofs.Passing.{SameStatus, by-lines}
use Rattle.survey_command.specs.Surveying.{IsSurvey}

pub survey-one : (T : Topology) (a b : Reply) → IsSurvey T a → IsSurvey T b → SameStatus a b
survey-one T a b p q = by-lines a b _ _ p.is q.is refl
