-- The reply to a question on a document.
use Rattle.std.specs.Prelude.{◌≡◌, ℕ, List, [], ◌∷◌}
use Rattle.circuit_spec.specs.Network.{Topology}
use Rattle.replies.specs.declared.reply.Reply.{Reply}
use Rattle.check_command.specs.declared.examining.Question.{Question}
use Rattle.check_command.specs.declared.examining.Question.TheVariants.{Check, Replay}
use Rattle.check_command.specs.Checking.{IsJudged}
use Rattle.check_command.specs.Replaying.{IsCarriedOut}

-- the reply to the question on the document of these bytes
abbrev pub IsToldOf : Question → Topology → List ℕ → Reply → Type 0
IsToldOf Check T bytes reply = IsJudged T bytes reply
IsToldOf Replay T bytes reply = IsCarriedOut T bytes reply

-- one document is held, and the reply is to the question on it
abbrev pub IsExamined : Question → List (List ℕ) → Topology → Reply → Type 0
IsExamined question held T reply = (bytes : List ℕ) × (held ≡ bytes ∷ []) × IsToldOf question T bytes reply
