-- What the status and the text of a run say of the words and of the network that their files describe.
--   FindsNone, FindsPast, FindsLong, FindsUnknown      when a search has which status
--   CountsFiles      the text of a survey
--   FindsFault       which fault is told of the files
--   FindsMissing, FindsTooBig      at which word reading stops, over told contents
--   IsNotRead, IsTooLarge      the last read, whatever the store tells
use Rattle.std.specs.Prelude.{◌≡◌, ◌↔◌, ◌⊎◌, ℕ, ◌<◌, List, [], ◌∷◌, ◌++◌, Option, None, Some, IfSome, Contains, codes}
use Rattle.std.specs.Io.KnownBytes.{Appends}
use Rattle.std.specs.List.{concat}
use Rattle.io_edges.specs.Counts.{Rose}
use Rattle.io_edges.specs.Reads.{Store, IsAbsent, IsOver}
use Rattle.io_edges.specs.declared.files.ReadAnswer.TheVariants as answers
use Rattle.circuit_spec.specs.declared.hops.Hop.{Hop}
use Rattle.circuit_spec.specs.declared.hops.Outcome.TheVariants.{Past, Long}
use Rattle.circuit_spec.specs.declared.hops.Request.{Request}
use Rattle.circuit_spec.specs.Faults.{IsAccepted, IsKnown}
use Rattle.circuit_spec.specs.Network.{Topology}
use Rattle.circuit_spec.specs.Steps.{IsOutcome, Walk}
use Rattle.nml_inventory.specs.Relations.{IsClassCount}
use Rattle.command_words.specs.declared.words.Command.{Command}
use Rattle.command_words.specs.declared.words.Command.TheVariants.{Find, KFind, Check, Replay, Survey, Drill}
use Rattle.command_words.specs.Words.{Word, Words, command_of}
use Rattle.replies.specs.declared.reply.Reply.{Reply}
use Rattle.replies.specs.declared.reply.Status.TheVariants as statuses
use Rattle.replies.specs.Through.{Each, Ends}
use Rattle.file_words.specs.declared.reading.FileWord.{FileWord}
use Rattle.file_words.specs.Accepting.{IsRejected}
use Rattle.file_words.specs.Lines.{read_line}
use Rattle.file_words.specs.Reading.{AreDomains, AreRead, IsDomain, IsFaulty, IsLastRead, file_words}
use Rattle.survey_command.specs.Surveying.{counts, heading}
use Rattle.finder_cli.specs.Answers.{words_read}
use Rattle.finder_cli.specs.Premises.{Tells, Ran, AsksAccepted, AsksKnown, AreReadFor}
use Rattle.finder_cli.specs.Usage.{usage_line}

-- ---- statuses

-- the statuses that words may have, but for 6 and 10, which all may
abbrev pub statuses_of : Option Command → List ℕ
statuses_of None = 2 ∷ []
statuses_of (Some (Find request files potentials)) = 0 ∷ 1 ∷ 3 ∷ 4 ∷ 5 ∷ 7 ∷ 8 ∷ 11 ∷ []
statuses_of (Some (KFind k request files)) = 0 ∷ 1 ∷ 3 ∷ 4 ∷ 5 ∷ 7 ∷ 8 ∷ 11 ∷ []
statuses_of (Some (Check answer files)) = 0 ∷ 3 ∷ 5 ∷ 9 ∷ 11 ∷ []
statuses_of (Some (Replay answer files)) = 0 ∷ 3 ∷ 5 ∷ 9 ∷ 11 ∷ []
statuses_of (Some (Survey files)) = 0 ∷ 3 ∷ 5 ∷ 11 ∷ []
statuses_of (Some (Drill levels)) = 0 ∷ 7 ∷ 8 ∷ []

-- ---- searches

-- 1: exactly where no list of hops is a walk
abbrev pub FindsNone : Words → Store → Store → ℕ → Type 0
FindsNone words before after status =
    Ran status → Tells before after → (r : Request) (T : Topology) → AsksKnown words before r T
    → (status ≡ 1) ↔ ((hops : List Hop) → ¬ Walk T r hops)

-- 7: exactly where there is a walk, and each costs 2^64 or more
abbrev pub FindsPast : Words → Store → Store → ℕ → Type 0
FindsPast words before after status =
    Ran status → Tells before after → (r : Request) (T : Topology) → AsksKnown words before r T → (status ≡ 7) ↔ IsOutcome T r Past

-- 8: exactly where the cheapest walks are too long to list
abbrev pub FindsLong : Words → Store → Store → ℕ → Type 0
FindsLong words before after status =
    Ran status → Tells before after → (r : Request) (T : Topology) → AsksKnown words before r T
    → (status ≡ 8) ↔ ((cost hops : ℕ) × IsOutcome T r (Long cost hops))

-- 4: exactly where the request is not known to the topology
abbrev pub FindsUnknown : Words → Store → Store → ℕ → Type 0
FindsUnknown words before after status =
    Ran status → Tells before after → (r : Request) (T : Topology) → AsksAccepted words before r T → (status ≡ 4) ↔ (¬ IsKnown T r)

-- ---- counts

-- the text is the counts of the topology, and the status 0
pub record PrintsCounts (T : Topology) (status : ℕ) (old new : Option (List ℕ)) : Type 0 where
  pub is : status ≡ 0
  pub classes : ℕ
  pub are : IsClassCount T classes
  pub printed : Appends old new (concat (heading T ++ counts T classes))

-- 0, for `survey`: the text is the counts of the files
abbrev pub CountsFiles : Words → Store → Store → ℕ → Option (List ℕ) → Option (List ℕ) → Type 0
CountsFiles words before after status old new =
    Ran status → Tells before after → (names : List Word) (T : Topology) → command_of words ≡ Some (Survey names)
    → AreDomains before (file_words 1 names) T → IsAccepted T → PrintsCounts T status old new

-- ---- words and files

-- 2: exactly where the words spell no command, and then how they spell one is printed
pub record TellsUsage (words : Words) (status : ℕ) (old new : Option (List ℕ)) : Type 0 where
  pub exactly : (status ≡ 2) ↔ (command_of words ≡ None)
  pub printed : status ≡ 2 → Appends old new usage_line

abbrev pub FindsUsage : Words → ℕ → Option (List ℕ) → Option (List ℕ) → Type 0
FindsUsage words status old new = Ran status → TellsUsage words status old new

-- bytes of files are an accepted topology
abbrev pub AreAcceptable : List (List ℕ) → Type 0
AreAcceptable contents = (T : Topology) × Each IsDomain contents T × IsAccepted T

-- the line tells the first fault of the files: of one of them, or else of their topology
abbrev pub IsFaultLine : List (List ℕ) → List ℕ → Type 0
IsFaultLine contents line =
    let reply : Reply = record { status = statuses.Fault; text = line } in
    Ends IsDomain IsFaulty contents reply ⊎ ((T : Topology) × Each IsDomain contents T × IsRejected T reply)

-- 3: exactly where the files are no accepted topology, and then the line on their first fault is printed
pub record TellsFault (contents : List (List ℕ)) (status : ℕ) (old new : Option (List ℕ)) : Type 0 where
  pub exactly : (status ≡ 3) ↔ (¬ AreAcceptable contents)
  pub printed : status ≡ 3 → (line : List ℕ) × IsFaultLine contents line × Appends old new line

abbrev pub FindsFault : Words → Store → Store → ℕ → Option (List ℕ) → Option (List ℕ) → Type 0
FindsFault words before after status old new =
    Ran status → Tells before after → (contents : List (List ℕ)) → AreReadFor words before contents → TellsFault contents status old new

-- ---- reads

-- the files of all words before this one are read
pub record IsReached (words : Words) (before : Store) (word : FileWord) : Type 0 where
  pub command : Command
  pub spelled : command_of words ≡ Some command
  pub earlier : List FileWord
  pub later : List FileWord
  pub split : words_read command ≡ earlier ++ word ∷ later
  pub contents : List (List ℕ)
  pub read : AreRead before earlier contents

-- the word is the first whose file is not within its limit, and that file is not there
pub record IsFirstMissing (words : Words) (before : Store) (word : FileWord) : Type 0 where
  pub reached : IsReached words before word
  pub missing : IsAbsent before.contents word.name ⊥

-- the word is the first whose file is not within its limit, and that file is too big
pub record IsFirstTooBig (words : Words) (before : Store) (word : FileWord) : Type 0 where
  pub reached : IsReached words before word
  pub over : IsOver before.contents word.name word.limit

-- the status is n exactly where P holds of some word, and then the number of this word is printed with the answer
pub record StopsAt (P : FileWord → Type 0) (n : ℕ) (answer : List ℕ) (status : ℕ) (old new : Option (List ℕ)) : Type 0 where
  pub only : status ≡ n → (word : FileWord) × P word
  pub whenever : (word : FileWord) → P word → (status ≡ n) × Appends old new (read_line word.number answer)

-- 5: exactly where the first file that is missing or too big is missing
abbrev pub FindsMissing : Words → Store → Store → ℕ → Option (List ℕ) → Option (List ℕ) → Type 0
FindsMissing words before after status old new =
    Ran status → Tells before after → StopsAt (IsFirstMissing words before) 5 (codes "absent") status old new

-- 11: exactly where the first file that is missing or too big is too big
abbrev pub FindsTooBig : Words → Store → Store → ℕ → Option (List ℕ) → Option (List ℕ) → Type 0
FindsTooBig words before after status old new =
    Ran status → Tells before after → StopsAt (IsFirstTooBig words before) 11 (codes "too-big") status old new

-- 5: the last read of the run is of a word that the command reads, whose file was not there or failed, and its number is printed
pub record IsNotRead (words : Words) (before after : Store) (old new : Option (List ℕ)) : Type 0 where
  pub command : Command
  pub spelled : command_of words ≡ Some command
  pub file : FileWord
  pub named : Contains (words_read command) file
  pub cause :
      (IsLastRead before after file answers.Absent × IsAbsent before.contents file.name (Rose before.faults after.faults)
      × Appends old new (read_line file.number (codes "absent")))
      ⊎ (IsLastRead before after file answers.Failed × Rose before.faults after.faults
      × Appends old new (read_line file.number (codes "failed")))

-- 11: the last read of the run is of a word that the command reads, whose file has more bytes than its limit, and its number is printed
pub record IsTooLarge (words : Words) (before after : Store) (old new : Option (List ℕ)) : Type 0 where
  pub command : Command
  pub spelled : command_of words ≡ Some command
  pub file : FileWord
  pub named : Contains (words_read command) file
  pub read : IsLastRead before after file answers.TooBig
  pub taken : IfSome after.last (λ read. file.limit < read.taken)
  pub cause : IsOver before.contents file.name file.limit
  pub printed : Appends old new (read_line file.number (codes "too-big"))
