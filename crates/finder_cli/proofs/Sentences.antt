-- The sentences on a run follow from what the words may be answered.
use Rattle.std.proofs.Common.{◌≡◌, ◌≢◌, ◌∙◌, ◌↔◌, refl, ap, subst, ℕ, Bool, List, [], Option, Some, None, IsSome, inl, inr, arith}
use Rattle.std.proofs.lemmas.Bool.{false≢true}
use Rattle.io_edges.specs.Counts.{Rose}
use Rattle.io_edges.specs.Reads.{Store, Contents}
use Rattle.circuit_spec.specs.declared.hops.Hop.{Hop}
use Rattle.circuit_spec.specs.declared.hops.Outcome.{Outcome}
use Rattle.circuit_spec.specs.declared.hops.Outcome.TheVariants.{Found, NoWalk, Past, Long}
use Rattle.circuit_spec.specs.declared.hops.Request.{Request}
use Rattle.circuit_spec.specs.Faults.{IsAccepted, IsKnown}
use Rattle.circuit_spec.specs.Network.{Topology}
use Rattle.circuit_spec.specs.Steps.{IsOutcome, Walk}
use Rattle.circuit_spec.proofs.OneOutcome.{one_outcome}
use Rattle.replies.specs.declared.reply.Reply.{Reply}
use Rattle.command_words.specs.declared.words.Command.{Command}
use Rattle.command_words.specs.declared.words.Command.TheVariants.{Find}
use Rattle.file_words.specs.Accepting.{IfAccepted}
use Rattle.finder_cli.specs.Answers.{CommandAnswers, Answers}
use Rattle.find_command.specs.Finding.{IsAnswered, IsFound}
use Rattle.file_words.specs.Reading.{file_words}
use Rattle.finder_cli.specs.Premises.{Tells, Ran, Asks, AsksAccepted, AsksKnown}
use Rattle.finder_cli.specs.Sentences.{FindsNone, FindsPast, FindsLong, FindsUnknown}
use Rattle.replies.specs.Status.{code, status_of}
use Rattle.command_words.specs.Words.{Words}
use Rattle.file_words.proofs.Accepted.{after-accepted}
use Rattle.file_words.proofs.Passing.{over-domains}
use Rattle.find_command.proofs.Searched.{answer-of, answered-known, answered-outcome, refusal-apart}

abbrev Told : Type 0
Told = List ℕ → Option (List ℕ)

-- a run that printed a reply whole
pub record IsDone (words : Words) (before after : Store) (status : ℕ) (reply : Reply) : Type 0 where
  pub may : Answers words before after reply
  pub code : status ≡ code reply.status

-- ---- the reply to a search over domains of told files

told-found : (contents : Contents) (before after : Store) (words : Words) (r : Request) (T : Topology) (reply : Reply) → before.contents ≡ contents → IsSome contents → ¬ Rose before.faults after.faults
    → (asks : Asks words before r T) → Answers words before after reply → IfAccepted (IsFound r asks.potentials) T reply
told-found None before after words r T reply e told calm asks may = absurd (false≢true told)
told-found (Some contents) before after words r T reply e told calm asks may =
    let found : CommandAnswers (Some (Find r asks.names asks.potentials)) before after reply = subst (λ (c : Option Command). CommandAnswers c before after reply) asks.command may in
    over-domains before after contents [] (file_words 1 asks.names) (λ held. IfAccepted (IsFound r asks.potentials)) [] T reply e calm tt asks.domains found

pub asked : (before after : Store) (words : Words) (r : Request) (T : Topology) (reply : Reply) → Tells before after → (asks : Asks words before r T) → Answers words before after reply → IfAccepted (IsFound r asks.potentials) T reply
asked before after words r T reply tells asks may = told-found before.contents before after words r T reply refl tells.0 tells.1 asks may

pub found-in : (before after : Store) (words : Words) (r : Request) (T : Topology) (reply : Reply) → Tells before after → (asks : AsksAccepted words before r T) → Answers words before after reply → IsFound r asks.asks.potentials T reply
found-in before after words r T reply tells asks may = after-accepted (IsFound r asks.asks.potentials) T reply asks.accepted (asked before after words r T reply tells asks.asks may)

pub answer-in : (before after : Store) (words : Words) (r : Request) (T : Topology) (reply : Reply) → Tells before after → (asks : AsksKnown words before r T) → Answers words before after reply → IsAnswered T r asks.asks.asks.potentials reply
answer-in before after words r T reply tells asks may = answer-of T r asks.asks.asks.potentials reply asks.known (found-in before after words r T reply tells asks.asks may)

-- the outcome that a reply to a known request tells
pub record Outcomes (T : Topology) (r : Request) (status : ℕ) : Type 0 where
  pub outcome : Outcome
  pub is : IsOutcome T r outcome
  pub told : status ≡ code (status_of outcome)

told-outcome : (T : Topology) (r : Request) (potentials : Bool) (status : ℕ) (reply : Reply) → status ≡ code reply.status → IsAnswered T r potentials reply → Outcomes T r status
told-outcome T r potentials status reply e p = record { outcome = p.answer.outcome; is = answered-outcome T r potentials reply p; told = e ∙ ap (λ (a : Reply). code a.status) p.is }

pub outcomes : (before after : Store) (words : Words) (r : Request) (T : Topology) (status : ℕ) (reply : Reply) → Tells before after → AsksKnown words before r T → IsDone words before after status reply → Outcomes T r status
outcomes before after words r T status reply tells asks done = told-outcome T r asks.asks.asks.potentials status reply done.code (answer-in before after words r T reply tells asks done.may)

-- ---- 1, 7 and 8

none-exact : (T : Topology) (r : Request) (o : Outcome) (status : ℕ) → IsOutcome T r o → status ≡ code (status_of o) → (status ≡ 1) ↔ ((hops : List Hop) → ¬ Walk T r hops)
none-exact T r NoWalk status is e = (λ one. is, λ none. e)
none-exact T r Past status is e = (λ one. absurd (omega arith), λ none. absurd (none is.0.0 is.0.1))
none-exact T r (Found cost hops) status is e = (λ one. absurd (omega arith), λ none. absurd (none is.0.hops is.0.walk))
none-exact T r (Long cost hops) status is e = (λ one. absurd (omega arith), λ none. absurd (none is.0.hops is.0.holds))

past-exact : (T : Topology) (r : Request) (o : Outcome) (status : ℕ) → IsOutcome T r o → status ≡ code (status_of o) → (status ≡ 7) ↔ IsOutcome T r Past
past-exact T r Past status is e = (λ seven. is, λ past. e)
past-exact T r NoWalk status is e = (λ seven. absurd (omega arith), λ past. absurd (is past.0.0 past.0.1))
past-exact T r (Found cost hops) status is e = (λ seven. absurd (omega arith), λ past. let same : Found cost hops ≡ Past = one_outcome T r (Found cost hops) Past is past in absurd cc)
past-exact T r (Long cost hops) status is e = (λ seven. absurd (omega arith), λ past. let same : Long cost hops ≡ Past = one_outcome T r (Long cost hops) Past is past in absurd cc)

abbrev IsLong : Topology → Request → Type 0
IsLong T r = (cost hops : ℕ) × IsOutcome T r (Long cost hops)

long-exact : (T : Topology) (r : Request) (o : Outcome) (status : ℕ) → IsOutcome T r o → status ≡ code (status_of o) → (status ≡ 8) ↔ IsLong T r
long-exact T r (Long cost hops) status is e = (λ eight. (cost, hops, is), λ long. e)
long-exact T r NoWalk status is e = (λ eight. absurd (omega arith), λ long. let same : NoWalk ≡ Long long.0 long.1 = one_outcome T r NoWalk (Long long.0 long.1) is long.2 in absurd cc)
long-exact T r Past status is e = (λ eight. absurd (omega arith), λ long. let same : Past ≡ Long long.0 long.1 = one_outcome T r Past (Long long.0 long.1) is long.2 in absurd cc)
long-exact T r (Found cost hops) status is e = (λ eight. absurd (omega arith), λ long. let same : Found cost hops ≡ Long long.0 long.1 = one_outcome T r (Found cost hops) (Long long.0 long.1) is long.2 in absurd cc)

pub says-none : (words : Words) (before after : Store) (status : ℕ) (reply : Reply) → (Ran status → IsDone words before after status reply) → FindsNone words before after status
says-none words before after status reply done = λ ran tells r T asks.
    let o : Outcomes T r status = outcomes before after words r T status reply tells asks (done ran) in none-exact T r o.outcome status o.is o.told

pub says-past : (words : Words) (before after : Store) (status : ℕ) (reply : Reply) → (Ran status → IsDone words before after status reply) → FindsPast words before after status
says-past words before after status reply done = λ ran tells r T asks.
    let o : Outcomes T r status = outcomes before after words r T status reply tells asks (done ran) in past-exact T r o.outcome status o.is o.told

pub says-long : (words : Words) (before after : Store) (status : ℕ) (reply : Reply) → (Ran status → IsDone words before after status reply) → FindsLong words before after status
says-long words before after status reply done = λ ran tells r T asks.
    let o : Outcomes T r status = outcomes before after words r T status reply tells asks (done ran) in long-exact T r o.outcome status o.is o.told

-- ---- 4

outcome-known : (o : Outcome) (status : ℕ) → status ≡ code (status_of o) → status ≢ 4
outcome-known NoWalk status e = λ four. absurd (omega arith)
outcome-known Past status e = λ four. absurd (omega arith)
outcome-known (Found cost hops) status e = λ four. absurd (omega arith)
outcome-known (Long cost hops) status e = λ four. absurd (omega arith)

abbrev code_of : Reply → ℕ
code_of a = code a.status

unknown-exact : (T : Topology) (r : Request) (potentials : Bool) (status : ℕ) (reply : Reply) → status ≡ code reply.status → IsFound r potentials T reply → (status ≡ 4) ↔ (¬ IsKnown T r)
unknown-exact T r potentials status reply e (inl p) = (λ four known. refusal-apart T r p.fault p.told p.cause known, λ unknown. e ∙ ap code_of p.is)
unknown-exact T r potentials status reply e (inr p) = (λ four. absurd (outcome-known p.answer.outcome status (e ∙ ap code_of p.is) four), λ unknown. absurd (unknown (answered-known T r potentials reply p)))

pub says-unknown : (words : Words) (before after : Store) (status : ℕ) (reply : Reply) → (Ran status → IsDone words before after status reply) → FindsUnknown words before after status
says-unknown words before after status reply done = λ ran tells r T asks. unknown-exact T r asks.asks.potentials status reply (done ran).code (found-in before after words r T reply tells asks (done ran).may)
