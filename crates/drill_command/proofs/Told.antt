-- A reply to `drill` tells the outcome of the generated request.
use Rattle.std.proofs.Common.{◌≡◌, ◌≢◌, ◌≤◌, ℕ, refl, sym, ◌∙◌, ap, subst}
use Rattle.circuit_spec.specs.declared.hops.Outcome.{Outcome}
use Rattle.circuit_spec.specs.declared.hops.Outcome.TheVariants.{Found, NoWalk, Past, Long}
use Rattle.circuit_spec.specs.declared.hops.Request.{Request}
use Rattle.circuit_spec.specs.declared.faults.RequestFault.TheVariants as refusal
use Rattle.circuit_spec.specs.Faults.{IsKnown}
use Rattle.circuit_spec.specs.Network.{Topology}
use Rattle.circuit_spec.specs.Steps.{IsOutcome}
use Rattle.circuit_spec.proofs.OneRequestFault.{known_has_none}
use Rattle.finder_core.specs.Refusals.{IsRefusal}
use Rattle.finder_core.specs.declared.faults.SolveFault.{SolveFault}
use Rattle.finder_core.specs.declared.faults.SolveFault.TheVariants as solving
use Rattle.circuit_spec.proofs.OneOutcome.{one_outcome}
use Rattle.replies.specs.declared.reply.Reply.{Reply}
use Rattle.replies.specs.declared.reply.Status.TheVariants as statuses
use Rattle.replies.specs.Status.{status_of}
use Rattle.topo_gen.specs.Tunnels.{generated_domains, generated_request}
use Rattle.topo_gen.proofs.Walks.{walk}
use Rattle.drill_command.specs.Drilling.{IsDrilled}

outcome_of : (levels : ℕ) (reply : Reply) (p : IsDrilled levels reply) → IsOutcome (generated_domains levels) (generated_request levels) p.answer.outcome
outcome_of levels reply p = subst (λ (r : Request). IsOutcome (generated_domains levels) r p.answer.outcome) p.solved.request p.solved.exact.outcome

status_is : (levels : ℕ) (reply : Reply) (p : IsDrilled levels reply) → reply.status ≡ status_of p.answer.outcome
status_is levels reply p = ap (λ (r : Reply). r.status) p.is

pub told : (levels : ℕ) (reply : Reply) (outcome : Outcome) → IsDrilled levels reply → IsOutcome (generated_domains levels) (generated_request levels) outcome → reply.status ≡ status_of outcome
told levels reply outcome p is =
    status_is levels reply p ∙ ap status_of (one_outcome (generated_domains levels) (generated_request levels) p.answer.outcome outcome (outcome_of levels reply p) is)

pub told_once : (levels : ℕ) (a b : Reply) → IsDrilled levels a → IsDrilled levels b → a.status ≡ b.status
told_once levels a b p q = told levels a q.answer.outcome p (outcome_of levels b q) ∙ sym (status_is levels b q)

none_by : (outcome : Outcome) → status_of outcome ≡ statuses.NoWalk → outcome ≡ NoWalk
none_by (Found cost hops) e = cc
none_by NoWalk e = refl
none_by Past e = cc
none_by (Long cost hops) e = cc

pub never_none : (levels : ℕ) (reply : Reply) → levels ≤ 4096 → IsDrilled levels reply → reply.status ≢ statuses.NoWalk
never_none levels reply small p none =
    let e : p.answer.outcome ≡ NoWalk = none_by p.answer.outcome (sym (status_is levels reply p) ∙ none) in
    let no_walk = subst (λ (o : Outcome). IsOutcome (generated_domains levels) (generated_request levels) o) e (outcome_of levels reply p) in
    let some = walk levels small in
    no_walk some.0 some.1

-- a known request is refused for want of memory alone
pub never_refused : (T : Topology) (r : Request) (fault : SolveFault) → IsKnown T r → IsRefusal T r fault → fault ≡ solving.NoMemory
never_refused T r (solving.UnknownPort id) known p = absurd (known_has_none T r (refusal.UnknownPort id) known p)
never_refused T r (solving.LabelNotHere id label) known p = absurd (known_has_none T r (refusal.LabelNotHere id label) known p)
never_refused T r solving.NoMemory known p = refl
