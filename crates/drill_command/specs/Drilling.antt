-- The reply to `drill`: the summary of the answer to a generated request.
use Rattle.std.specs.Prelude.{◌≡◌, ℕ}
use Rattle.std.specs.List.{concat}
use Rattle.circuit_spec.specs.declared.hops.Request.{Request}
use Rattle.circuit_spec.specs.Network.{Topology}
use Rattle.circuit_spec.specs.Faults.{IsKnown, IsSound}
use Rattle.answer_spec.specs.declared.answer.Answer.{Answer}
use Rattle.answer_spec.specs.Certificate.{Certificate}
use Rattle.answer_spec.specs.Exact.{IsExactAnswer}
use Rattle.replies.specs.declared.reply.Reply.{Reply}
use Rattle.replies.specs.Status.{status_of}
use Rattle.replies.specs.Through.{IsText}
use Rattle.topo_gen.specs.Tunnels.{generated_domains, generated_request}
use Rattle.drill_command.specs.Lines.{summary}

-- the layers of the topology fit, and it knows the request
pub record IsReady (T : Topology) (r : Request) : Type 0 where
  pub sound : IsSound T
  pub known : IsKnown T r

-- an exact answer to the request, with its certificate
pub record IsSolved (T : Topology) (r : Request) (answer : Answer) : Type 0 where
  pub request : answer.request ≡ r
  pub exact : IsExactAnswer T answer
  pub certified : Certificate T answer

-- the reply tells such an answer, as the summary of these many levels
pub record IsSummary (levels : ℕ) (T : Topology) (r : Request) (reply : Reply) : Type 0 where
  pub answer : Answer
  pub solved : IsSolved T r answer
  pub is : IsText (status_of answer.outcome) (concat (summary levels answer)) reply

-- the reply tells such an answer to the generated request of these many levels
abbrev pub IsDrilled : ℕ → Reply → Type 0
IsDrilled levels reply = IsSummary levels (generated_domains levels) (generated_request levels) reply
