-- For all files and end ports that `find` accepts, the hops it prints carry every data unit from source to target, each adaptation undone
-- by its match and the stack unchanged; no walk of any length or stack depth costs less; the checker accepts the printed potentials; and
-- it prints `none` exactly where no walk exists.
--   Shows            the text is the document of one answer alone, which the checker accepts
--   Carries          its hops are such a circuit
--   IsAnsweredBy     circuit, none, past, long or refusal, told apart by the status
use Rattle.std.specs.Prelude.{◌≡◌, ◌≢◌, ◌⊎◌, ℕ, List, Bool, IsTrue, Option}
use Rattle.std.specs.Io.KnownBytes.{Appends}
use Rattle.ml_base.specs.Weight.{IsAtMost}
use Rattle.io_edges.specs.Reads.{Store}
use Rattle.circuit_spec.specs.declared.hops.Hop.{Hop}
use Rattle.circuit_spec.specs.declared.hops.Outcome.TheVariants.{Found, NoWalk, Past, Long}
use Rattle.circuit_spec.specs.declared.hops.Request.{Request}
use Rattle.circuit_spec.specs.Kept.{AreOverKept}
use Rattle.circuit_spec.specs.Laws.{AdaptationsMatch}
use Rattle.circuit_spec.specs.Network.{Topology}
use Rattle.circuit_spec.specs.Steps.{Circuit, IsOutcome, Walk, weight_of}
use Rattle.line_text.specs.Lines.{text_of}
use Rattle.device_rules.specs.Numbering.{AreRulesOf}
use Rattle.answer_spec.specs.declared.answer.Answer.{Answer}
use Rattle.answer_spec.specs.Certificate.{AreFlagged, Certificate}
use Rattle.answer_spec.specs.Exact.{IsExactAnswer}
use Rattle.answer_spec.specs.WellFormed.{IsWellFormed}
use Rattle.answer_text.specs.Spelling.{lines_of}
use Rattle.verdict.specs.declared.verdicts.Verdict.TheVariants.{Valid}
use Rattle.verdict.specs.Verdicts.{IsVerdict}
use Rattle.finder_core.specs.Refusals.{IsRefusal}
use Rattle.finder_core.specs.declared.faults.SolveFault.{SolveFault}
use Rattle.finder_core.specs.declared.faults.SolveFault.TheVariants as solving
use Rattle.command_words.specs.Words.{Words}
use Rattle.find_command.specs.Finding.{shown}
use Rattle.find_command.specs.Lines.{request_line}
use Rattle.finder_cli.specs.Premises.{Tells, Ran, AsksAccepted}

-- ---- what is printed

-- the text is the document of this answer, and of no other
pub record PrintsOne (answer : Answer) (old new : Option (List ℕ)) : Type 0 where
  pub formed : IsWellFormed answer
  pub printed : Appends old new (text_of (lines_of answer))
  pub alone : (other : Answer) → IsWellFormed other → text_of (lines_of other) ≡ text_of (lines_of answer) → other ≡ answer

-- The text is the document of what is shown of one answer, and of no other: of the whole answer, or of all but its potentials. It answers
-- this request, and exactly: its potentials are the reached pairs with their least weights. It has a certificate; and where its potentials
-- are printed, the verdict of the checker on what is printed is that it is valid.
pub record Shows (T : Topology) (r : Request) (potentials : Bool) (old new : Option (List ℕ)) : Type 0 where
  pub answer : Answer
  pub prints : PrintsOne (shown potentials answer) old new
  pub request : answer.request ≡ r
  pub exact : IsExactAnswer T answer
  pub certified : Certificate T answer
  pub accepted : IsTrue potentials → IsVerdict T (text_of (lines_of (shown potentials answer))) (Valid answer.outcome)

-- The hops carry every data unit from source to target, for every stack that it already has; each adaptation is undone by its match; the
-- stated weight is that of the hops; no walk of any length or depth of the stack, and over any labels, weighs less; their own labels are
-- kept labels; the flag of each hop is that of its place; and the rules are those of the hops.
pub record Carries (T : Topology) (r : Request) (answer : Answer) : Type 0 where
  pub circuit : Circuit T r answer.hops
  pub undone : AdaptationsMatch T answer.hops
  pub weight : answer.outcome ≡ Found (weight_of T answer.hops).cost (weight_of T answer.hops).hops
  pub least : (others : List Hop) → Walk T r others → IsAtMost (weight_of T answer.hops) (weight_of T others)
  pub kept : AreOverKept T r answer.hops
  pub flagged : AreFlagged T r answer.hops answer.flags
  pub ruled : AreRulesOf answer.hops answer.rules

-- ---- the five ways to be answered

-- 0: the hops that are printed are such a circuit
pub record PrintsCircuit (T : Topology) (r : Request) (potentials : Bool) (status : ℕ) (old new : Option (List ℕ)) : Type 0 where
  pub is : status ≡ 0
  pub shows : Shows T r potentials old new
  pub carries : Carries T r shows.answer

-- 1: `none` is printed, and no list of hops is a walk
pub record PrintsNone (T : Topology) (r : Request) (potentials : Bool) (status : ℕ) (old new : Option (List ℕ)) : Type 0 where
  pub is : status ≡ 1
  pub shows : Shows T r potentials old new
  pub outcome : shows.answer.outcome ≡ NoWalk
  pub none : (hops : List Hop) → ¬ Walk T r hops

-- 7: `past` is printed; there is a walk, and each costs 2^64 or more
pub record PrintsPast (T : Topology) (r : Request) (potentials : Bool) (status : ℕ) (old new : Option (List ℕ)) : Type 0 where
  pub is : status ≡ 7
  pub shows : Shows T r potentials old new
  pub outcome : shows.answer.outcome ≡ Past
  pub past : IsOutcome T r Past

-- 8: `long` is printed with these numbers; the cheapest walks are too long to list
pub record PrintsLong (T : Topology) (r : Request) (potentials : Bool) (status : ℕ) (old new : Option (List ℕ)) : Type 0 where
  pub is : status ≡ 8
  pub shows : Shows T r potentials old new
  pub cost : ℕ
  pub hops : ℕ
  pub outcome : shows.answer.outcome ≡ Long cost hops
  pub long : IsOutcome T r (Long cost hops)

-- 4: the request is not known, and the line tells the first cause
pub record Refuses (T : Topology) (r : Request) (status : ℕ) (old new : Option (List ℕ)) : Type 0 where
  pub is : status ≡ 4
  pub fault : SolveFault
  pub told : fault ≢ solving.NoMemory
  pub cause : IsRefusal T r fault
  pub printed : Appends old new (request_line fault)

-- the request is answered in one of these ways, which their statuses tell apart
abbrev pub IsAnsweredBy : Topology → Request → Bool → ℕ → Option (List ℕ) → Option (List ℕ) → Type 0
IsAnsweredBy T r potentials status old new =
    PrintsCircuit T r potentials status old new
    ⊎ (PrintsNone T r potentials status old new
    ⊎ (PrintsPast T r potentials status old new
    ⊎ (PrintsLong T r potentials status old new
    ⊎ Refuses T r status old new)))

-- Over told files that are an accepted topology, the request of the words is answered so.
abbrev pub Headline : Words → Store → Store → ℕ → Option (List ℕ) → Option (List ℕ) → Type 0
Headline words before after status old new =
    Ran status → Tells before after → (r : Request) (T : Topology) → (asks : AsksAccepted words before r T)
    → IsAnsweredBy T r asks.asks.potentials status old new
