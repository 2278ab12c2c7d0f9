-- The headline follows from how a search may be answered.
use Rattle.std.proofs.Common.{◌≡◌, ◌≢◌, ◌∙◌, sym, refl, ap, subst, ℕ, Bool, true, false, List, [], Option, Result, Ok, inl, inr}
use Rattle.std.specs.Io.KnownBytes.{Appends}
use Rattle.std.specs.Prelude.{IsTrue}
use Rattle.std.proofs.lemmas.Bool.{false≢true}
use Rattle.ml_base.specs.Weight.{FullWeight, IsAtMost}
use Rattle.io_edges.specs.Reads.{Store}
use Rattle.circuit_spec.specs.declared.hops.Hop.{Hop}
use Rattle.circuit_spec.specs.declared.hops.Outcome.{Outcome}
use Rattle.circuit_spec.specs.declared.hops.Outcome.TheVariants.{Found, NoWalk, Past, Long}
use Rattle.circuit_spec.specs.declared.hops.Request.{Request}
use Rattle.circuit_spec.specs.Laws.{AdaptationsMatch}
use Rattle.circuit_spec.specs.Network.{Topology}
use Rattle.circuit_spec.specs.Steps.{Circuit, IsOutcome, Joins, Walk, unit_at, weight_of}
use Rattle.circuit_spec.proofs.HopRuns.{place_of, run_over}
use Rattle.circuit_spec.proofs.Matching.{undone, only_one}
use Rattle.line_text.specs.Lines.{text_of}
use Rattle.answer_spec.specs.declared.answer.Answer.{Answer}
use Rattle.answer_spec.specs.Certificate.{Certificate}
use Rattle.answer_spec.specs.Exact.{AreHopsOf, IsExactAnswer}
use Rattle.answer_spec.specs.WellFormed.{IsWellFormed}
use Rattle.answer_text.specs.Spelling.{lines_of}
use Rattle.answer_text.proofs.OneAnswer.{spelled_once}
use Rattle.command_words.specs.Words.{Words}
use Rattle.verdict.specs.declared.verdicts.Verdict.TheVariants.{Valid}
use Rattle.verdict.specs.Verdicts.{IsVerdict}
use Rattle.replies.specs.declared.reply.Reply.{Reply}
use Rattle.replies.specs.Status.{code, status_of}
use Rattle.find_command.specs.Finding.{IsAnswered, IsFound, IsUnknown, shown}
use Rattle.find_command.proofs.Searched.{answered-outcome}
use Rattle.finder_cli.specs.Headline.{Carries, Headline, IsAnsweredBy, PrintsOne, Refuses, Shows}
use Rattle.finder_cli.specs.Premises.{Ran}
use Rattle.finder_cli.proofs.Sentences.{IsDone, found-in}

-- ---- what is printed

prints-one : (b : Answer) (old new : Option (List ℕ)) → IsWellFormed b → Appends old new (text_of (lines_of b)) → PrintsOne b old new
prints-one b old new formed printed = record { formed = formed; printed = printed; alone = λ other w same. spelled_once other b w formed same }

-- ---- a listed walk of the least weight

circuit_of : (T : Topology) (r : Request) (hops : List Hop) → Walk T r hops → Circuit T r hops
circuit_of T r hops walk =
    (walk.0, run_over T (place_of (unit_at walk.0.from walk.0.from_label [])) (place_of (unit_at walk.0.to walk.0.to_label [])) hops walk.1)

all_undone : (T : Topology) (r : Request) (hops : List Hop) → Circuit T r hops → AdaptationsMatch T hops
all_undone T r hops circuit = λ earlier adaptation rest split adapts.
    let ends = circuit.0 in
    let P : List Hop → Type 0 = λ list. Joins ends list [] in (
      undone T (unit_at ends.from ends.from_label []) earlier adaptation rest (unit_at ends.to ends.to_label []) (subst P split (circuit.1 [])) adapts refl,
      only_one T adaptation rest,
    )

carries-by : (T : Topology) (b : Answer) (cost count : ℕ) → b.outcome ≡ Found cost count → IsOutcome T b.request (Found cost count) → AreHopsOf T b.request (Found cost count) b.hops → IsExactAnswer T b → Carries T b.request b
carries-by T b cost count is outcome hops exact = record {
  circuit = circuit_of T b.request b.hops hops.0;
  undone = all_undone T b.request b.hops (circuit_of T b.request b.hops hops.0);
  weight = is ∙ sym (ap (λ (w : FullWeight). Found w.cost w.hops) hops.1);
  least = λ others walk. subst (λ (w : FullWeight). IsAtMost w (weight_of T others)) (sym hops.1) (outcome.0.least others walk);
  kept = hops.2;
  flagged = exact.flags;
  ruled = exact.rules;
}

-- what is found is such a circuit
carries-found : (T : Topology) (r : Request) (b : Answer) (cost count : ℕ) → b.outcome ≡ Found cost count → b.request ≡ r → IsExactAnswer T b → Carries T r b
carries-found T r b cost count is request exact = subst (λ (q : Request). Carries T q b) request
    (carries-by T b cost count is (subst (λ (o : Outcome). IsOutcome T b.request o) is exact.outcome) (subst (λ (o : Outcome). AreHopsOf T b.request o b.hops) is exact.hops) exact)

-- ---- the headline

abbrev code_of : Reply → ℕ
code_of a = code a.status

-- a document that shows its potentials is the certificate
valid-shown : (T : Topology) (potentials : Bool) (answer : Answer) → IsWellFormed (shown potentials answer) → Certificate T answer → IsTrue potentials → IsVerdict T (text_of (lines_of (shown potentials answer))) (Valid answer.outcome)
valid-shown T true answer formed certified shows = (answer, record { well_formed = formed; spelled = refl }, certified, refl)
valid-shown T false answer formed certified shows = absurd (false≢true shows)

abbrev shows-of : (T : Topology) (r : Request) (potentials : Bool) (reply : Reply) (old new : Option (List ℕ)) → IsAnswered T r potentials reply → Appends old new reply.text → Shows T r potentials old new
shows-of T r potentials reply old new p printed = record {
  answer = p.answer;
  prints = prints-one (shown potentials p.answer) old new p.formed (subst (λ (a : Reply). Appends old new a.text) p.is printed);
  request = p.request;
  exact = p.exact;
  certified = p.certified;
  accepted = valid-shown T potentials p.answer p.formed p.certified;
}

answered-by : (T : Topology) (r : Request) (potentials : Bool) (status : ℕ) (reply : Reply) (old new : Option (List ℕ)) (p : IsAnswered T r potentials reply) → status ≡ code reply.status → Appends old new reply.text
    → IsAnsweredBy T r potentials status old new
answered-by T r potentials status reply old new p e printed = by-outcome p.answer.outcome refl
  where
    told : (o : Outcome) → p.answer.outcome ≡ o → status ≡ code (status_of o)
    told o is = e ∙ ap code_of p.is ∙ ap (λ (x : Outcome). code (status_of x)) is

    means : (o : Outcome) → p.answer.outcome ≡ o → IsOutcome T r o
    means o is = subst (λ (x : Outcome). IsOutcome T r x) is (answered-outcome T r potentials reply p)

    by-outcome : (o : Outcome) → p.answer.outcome ≡ o → IsAnsweredBy T r potentials status old new
    by-outcome (Found cost count) is = inl (record { is = told (Found cost count) is; shows = shows-of T r potentials reply old new p printed; carries = carries-found T r p.answer cost count is p.request p.exact })
    by-outcome NoWalk is = inr (inl (record { is = told NoWalk is; shows = shows-of T r potentials reply old new p printed; outcome = is; none = means NoWalk is }))
    by-outcome Past is = inr (inr (inl (record { is = told Past is; shows = shows-of T r potentials reply old new p printed; outcome = is; past = means Past is })))
    by-outcome (Long cost hops) is =
        inr (inr (inr (inl (record { is = told (Long cost hops) is; shows = shows-of T r potentials reply old new p printed; cost = cost; hops = hops; outcome = is; long = means (Long cost hops) is }))))

pub refuses : (T : Topology) (r : Request) (status : ℕ) (reply : Reply) (old new : Option (List ℕ)) → status ≡ code reply.status → IsUnknown T r reply → Appends old new reply.text → Refuses T r status old new
refuses T r status reply old new e p printed = record {
  is = e ∙ ap code_of p.is;
  fault = p.fault;
  told = p.told;
  cause = p.cause;
  printed = subst (λ (a : Reply). Appends old new a.text) p.is printed;
}

found-by : (T : Topology) (r : Request) (potentials : Bool) (status : ℕ) (reply : Reply) (old new : Option (List ℕ)) → status ≡ code reply.status → IsFound r potentials T reply → Appends old new reply.text
    → IsAnsweredBy T r potentials status old new
found-by T r potentials status reply old new e (inl p) printed = inr (inr (inr (inr (refuses T r status reply old new e p printed))))
found-by T r potentials status reply old new e (inr p) printed = answered-by T r potentials status reply old new p e printed

pub says-headline : (words : Words) (before after : Store) (status : ℕ) (reply : Reply) (old new : Option (List ℕ)) → (Ran status → IsDone words before after status reply) → (status ≢ 6 → Appends old new reply.text)
    → Headline words before after status old new
says-headline words before after status reply old new done printed = λ ran tells r T asks.
    found-by T r asks.asks.potentials status reply old new (done ran).code (found-in before after words r T reply tells asks (done ran).may) (printed ran.0)
