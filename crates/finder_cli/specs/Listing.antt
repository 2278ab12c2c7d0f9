-- What `k-find` prints over told files.
--   AsksList     the words ask for so many of the cheapest walks of a request
--   PrintsList   the text is a list of them
--   ListsWalks   it is, or the request is not known
use Rattle.std.specs.Prelude.{◌≡◌, ◌⊎◌, ℕ, List, Option, Some}
use Rattle.std.specs.Io.KnownBytes.{Appends}
use Rattle.io_edges.specs.Reads.{Store}
use Rattle.circuit_spec.specs.declared.hops.Outcome.{Outcome}
use Rattle.circuit_spec.specs.declared.hops.Request.{Request}
use Rattle.circuit_spec.specs.Faults.{IsAccepted}
use Rattle.circuit_spec.specs.Network.{Topology}
use Rattle.circuit_spec.specs.Steps.{IsOutcome}
use Rattle.line_text.specs.Lines.{text_of}
use Rattle.k_answers.specs.declared.answer.KAnswer.{KAnswer}
use Rattle.k_answers.specs.KAnswers.{IsKAnswer}
use Rattle.k_text.specs.Listing.{k_lines_of}
use Rattle.command_words.specs.declared.words.Command.TheVariants.{KFind}
use Rattle.command_words.specs.Words.{Word, Words, command_of}
use Rattle.replies.specs.Status.{code, k_status_of, status_of}
use Rattle.file_words.specs.Reading.{AreDomains, file_words}
use Rattle.finder_cli.specs.Headline.{Refuses}
use Rattle.finder_cli.specs.Premises.{Tells, Ran}

-- the words ask for the `k` cheapest walks of the request over these domains of told files, which are an accepted topology
pub record AsksList (words : Words) (before : Store) (r : Request) (k : ℕ) (T : Topology) : Type 0 where
  pub names : List Word
  pub command : command_of words ≡ Some (KFind k r names)
  pub domains : AreDomains before (file_words 1 names) T
  pub accepted : IsAccepted T

-- the text is a list of the `k` cheapest walks, and the status is that of the list, and of the outcome
pub record PrintsList (T : Topology) (r : Request) (k status : ℕ) (old new : Option (List ℕ)) : Type 0 where
  pub answer : KAnswer
  pub cheapest : IsKAnswer T r k answer
  pub is : status ≡ code (k_status_of answer.walks answer.end)
  pub printed : Appends old new (text_of (k_lines_of answer))
  pub outcome : Outcome
  pub is_outcome : IsOutcome T r outcome
  pub told : status ≡ code (status_of outcome)

-- Over told files that are an accepted topology, such a list is printed, or the request is refused.
abbrev pub ListsWalks : Words → Store → Store → ℕ → Option (List ℕ) → Option (List ℕ) → Type 0
ListsWalks words before after status old new =
    Ran status → Tells before after → (r : Request) (k : ℕ) (T : Topology) → AsksList words before r k T
    → PrintsList T r k status old new ⊎ Refuses T r status old new
