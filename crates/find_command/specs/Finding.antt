-- The reply to a search.
use Rattle.std.specs.Prelude.{◌≡◌, ◌≢◌, ◌⊎◌, [], Bool, true, false}
use Rattle.circuit_spec.specs.declared.hops.Request.{Request}
use Rattle.circuit_spec.specs.Network.{Topology}
use Rattle.line_text.specs.Lines.{text_of}
use Rattle.answer_spec.specs.declared.answer.Answer.{Answer}
use Rattle.answer_spec.specs.Certificate.{Certificate}
use Rattle.answer_spec.specs.Exact.{IsExactAnswer}
use Rattle.answer_text.specs.Spelling.{lines_of}
use Rattle.answer_spec.specs.WellFormed.{IsWellFormed}
use Rattle.finder_core.specs.Refusals.{IsRefusal}
use Rattle.finder_core.specs.declared.faults.SolveFault.{SolveFault}
use Rattle.finder_core.specs.declared.faults.SolveFault.TheVariants as solving
use Rattle.replies.specs.declared.reply.Reply.{Reply}
use Rattle.replies.specs.declared.reply.Status.TheVariants as statuses
use Rattle.find_command.specs.Lines.{request_line}
use Rattle.replies.specs.Status.{status_of}
use Rattle.replies.specs.Through.{IsText}

-- the answer without its potentials
abbrev pub without_potentials : Answer → Answer
without_potentials a = record { request = a.request; outcome = a.outcome; hops = a.hops; flags = a.flags; rules = a.rules; potentials = [] }

-- what is shown of an answer: with potentials the whole of it, else all but them
abbrev pub shown : Bool → Answer → Answer
shown true a = a
shown false a = without_potentials a

-- the request is not known to the topology, and the reply tells the first cause
pub record IsUnknown (T : Topology) (r : Request) (reply : Reply) : Type 0 where
  pub fault : SolveFault
  pub cause : IsRefusal T r fault
  pub told : fault ≢ solving.NoMemory
  pub is : IsText statuses.NoRequest (request_line fault) reply

-- the reply is the document of what is shown of an exact answer to the request, which has a certificate
pub record IsAnswered (T : Topology) (r : Request) (potentials : Bool) (reply : Reply) : Type 0 where
  pub answer : Answer
  pub request : answer.request ≡ r
  pub exact : IsExactAnswer T answer
  pub certified : Certificate T answer
  pub formed : IsWellFormed (shown potentials answer)
  pub is : IsText (status_of answer.outcome) (text_of (lines_of (shown potentials answer))) reply

-- the reply over an accepted topology
abbrev pub IsFound : Request → Bool → Topology → Reply → Type 0
IsFound r potentials T reply = IsUnknown T r reply ⊎ IsAnswered T r potentials reply
