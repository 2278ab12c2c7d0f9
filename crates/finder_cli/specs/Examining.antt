-- What the status and the text of a run say of a document, and of a network that is made.
use Rattle.std.specs.Prelude.{◌≡◌, ℕ, List, Option, Some}
use Rattle.std.specs.Io.KnownBytes.{Appends}
use Rattle.io_edges.specs.Reads.{Store}
use Rattle.circuit_spec.specs.Faults.{IsAccepted}
use Rattle.circuit_spec.specs.Network.{Topology}
use Rattle.command_words.specs.declared.words.Command.TheVariants.{Check, Replay, Drill}
use Rattle.command_words.specs.Words.{Word, Words, command_of}
use Rattle.replies.specs.declared.reply.Reply.{Reply}
use Rattle.replies.specs.Status.{code}
use Rattle.file_words.specs.Reading.{AreDomains, IsRead, file_words}
use Rattle.verdict.specs.declared.verdicts.Verdict.{Verdict}
use Rattle.verdict.specs.Verdicts.{IsVerdict}
use Rattle.rule_replay.specs.declared.replayed.Replayed.{Replayed}
use Rattle.rule_replay.specs.Replaying.{IsReplayed}
use Rattle.check_command.specs.Checking.{status_of_verdict}
use Rattle.check_command.specs.Documents.{answer_word}
use Rattle.check_command.specs.Lines.{replay_line, verdict_line}
use Rattle.check_command.specs.Replaying.{status_of_replay}
use Rattle.drill_command.specs.Drilling.{IsDrilled}
use Rattle.finder_cli.specs.Premises.{Ran, Tells}

-- told files hold this document, and these domains, which are an accepted topology
pub record HoldsDocument (before : Store) (answer : Word) (names : List Word) (bytes : List ℕ) (T : Topology) : Type 0 where
  pub document : IsRead before (answer_word answer) bytes
  pub domains : AreDomains before (file_words 1 names) T
  pub accepted : IsAccepted T

-- the line and the status tell the verdict on the document; there is one
pub record TellsVerdict (T : Topology) (bytes : List ℕ) (status : ℕ) (old new : Option (List ℕ)) : Type 0 where
  pub verdict : Verdict
  pub is_verdict : IsVerdict T bytes verdict
  pub told : status ≡ code (status_of_verdict verdict)
  pub printed : Appends old new (verdict_line verdict)

-- 0 and 9, for `check`: such a line
abbrev pub ChecksDocument : Words → Store → Store → ℕ → Option (List ℕ) → Option (List ℕ) → Type 0
ChecksDocument words before after status old new =
    Ran status → Tells before after → (answer : Word) (names : List Word) (bytes : List ℕ) (T : Topology) → command_of words ≡ Some (Check answer names)
    → HoldsDocument before answer names bytes T → TellsVerdict T bytes status old new

-- the line and the status tell what the rules of the document do; there is one such thing
pub record TellsReplay (T : Topology) (bytes : List ℕ) (status : ℕ) (old new : Option (List ℕ)) : Type 0 where
  pub replayed : Replayed
  pub is_replayed : IsReplayed T bytes replayed
  pub told : status ≡ code (status_of_replay replayed)
  pub printed : Appends old new (replay_line replayed)

-- 0 and 9, for `replay`: such a line
abbrev pub ReplaysRules : Words → Store → Store → ℕ → Option (List ℕ) → Option (List ℕ) → Type 0
ReplaysRules words before after status old new =
    Ran status → Tells before after → (answer : Word) (names : List Word) (bytes : List ℕ) (T : Topology) → command_of words ≡ Some (Replay answer names)
    → HoldsDocument before answer names bytes T → TellsReplay T bytes status old new

-- the text and the status are those of a summary of an exact answer to the request of these many levels
pub record TellsDrill (levels status : ℕ) (old new : Option (List ℕ)) : Type 0 where
  pub reply : Reply
  pub drilled : IsDrilled levels reply
  pub told : status ≡ code reply.status
  pub printed : Appends old new reply.text

-- 0, 7 and 8, for `drill`: such a text, whatever the store tells
abbrev pub DrillsNetwork : Words → ℕ → Option (List ℕ) → Option (List ℕ) → Type 0
DrillsNetwork words status old new = Ran status → (levels : ℕ) → command_of words ≡ Some (Drill levels) → TellsDrill levels status old new
