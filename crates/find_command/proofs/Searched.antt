-- The replies to a search have one status, which tells whether the request is known.
use Rattle.std.proofs.Common.{◌≡◌, ◌≢◌, refl, ap, subst, Bool, inl, inr}
use Rattle.circuit_spec.specs.declared.faults.RequestFault.TheVariants as refusal
use Rattle.circuit_spec.specs.declared.hops.Request.{Request}
use Rattle.circuit_spec.specs.Faults.{IsKnown}
use Rattle.circuit_spec.specs.Network.{Topology}
use Rattle.circuit_spec.specs.Steps.{IsOutcome}
use Rattle.circuit_spec.proofs.OneOutcome.{one_outcome}
use Rattle.circuit_spec.proofs.OneRequestFault.{known_has_none}
use Rattle.finder_core.specs.Refusals.{IsRefusal}
use Rattle.finder_core.specs.declared.faults.SolveFault.{SolveFault}
use Rattle.finder_core.specs.declared.faults.SolveFault.TheVariants as solving
use Rattle.replies.specs.declared.reply.Reply.{Reply}
use Rattle.replies.specs.Status.{status_of}
use Rattle.file_words.proofs.Passing.{SameStatus, by-lines}
use Rattle.find_command.specs.Finding.{IsAnswered, IsFound}

-- ---- requests

pub refusal-apart : (T : Topology) (r : Request) (fault : SolveFault) → fault ≢ solving.NoMemory → IsRefusal T r fault → IsKnown T r → ⊥
refusal-apart T r (solving.UnknownPort id) told p known = known_has_none T r (refusal.UnknownPort id) known p
refusal-apart T r (solving.LabelNotHere id label) told p known = known_has_none T r (refusal.LabelNotHere id label) known p
refusal-apart T r solving.NoMemory told p known = told refl

-- ---- answers

pub answered-known : (T : Topology) (r : Request) (potentials : Bool) (a : Reply) → IsAnswered T r potentials a → IsKnown T r
answered-known T r potentials a p = subst (λ (s : Request). IsKnown T s) p.request p.exact.known

pub answered-outcome : (T : Topology) (r : Request) (potentials : Bool) (a : Reply) (p : IsAnswered T r potentials a) → IsOutcome T r p.answer.outcome
answered-outcome T r potentials a p = subst (λ (s : Request). IsOutcome T s p.answer.outcome) p.request p.exact.outcome

-- ---- replies

pub found-one : (r : Request) (potentials : Bool) (T : Topology) (a b : Reply) → IsFound r potentials T a → IsFound r potentials T b → SameStatus a b
found-one r potentials T a b (inl p) (inl q) = by-lines a b _ _ p.is q.is refl
found-one r potentials T a b (inl p) (inr q) = absurd (refusal-apart T r p.fault p.told p.cause (answered-known T r potentials b q))
found-one r potentials T a b (inr p) (inl q) = absurd (refusal-apart T r q.fault q.told q.cause (answered-known T r potentials a p))
found-one r potentials T a b (inr p) (inr q) =
    by-lines a b _ _ p.is q.is (ap status_of (one_outcome T r p.answer.outcome q.answer.outcome (answered-outcome T r potentials a p) (answered-outcome T r potentials b q)))

-- the reply to a known request is an answer
pub answer-of : (T : Topology) (r : Request) (potentials : Bool) (reply : Reply) → IsKnown T r → IsFound r potentials T reply → IsAnswered T r potentials reply
answer-of T r potentials reply known (inl p) = absurd (refusal-apart T r p.fault p.told p.cause known)
answer-of T r potentials reply known (inr p) = p
