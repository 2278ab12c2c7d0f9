-- The reply to a search for several walks.
use Rattle.std.specs.Prelude.{◌≤◌, ◌⊎◌, ℕ}
use Rattle.circuit_spec.specs.declared.hops.Request.{Request}
use Rattle.circuit_spec.specs.Network.{Topology}
use Rattle.line_text.specs.Lines.{text_of}
use Rattle.k_answers.specs.declared.answer.KAnswer.{KAnswer}
use Rattle.k_answers.specs.KAnswers.{IsKAnswer}
use Rattle.k_text.specs.Listing.{k_lines_of}
use Rattle.replies.specs.declared.reply.Reply.{Reply}
use Rattle.replies.specs.Status.{k_status_of}
use Rattle.replies.specs.Through.{IsText}
use Rattle.find_command.specs.Finding.{IsUnknown}

-- the reply is the text of a list of the `k` cheapest walks of the request
pub record IsListed (T : Topology) (r : Request) (k : ℕ) (reply : Reply) : Type 0 where
  pub some : 1 ≤ k
  pub answer : KAnswer
  pub cheapest : IsKAnswer T r k answer
  pub is : IsText (k_status_of answer.walks answer.end) (text_of (k_lines_of answer)) reply

-- the reply over an accepted topology
abbrev pub IsKFound : Request → ℕ → Topology → Reply → Type 0
IsKFound r k T reply = IsUnknown T r reply ⊎ IsListed T r k reply
