-- The files that words name: their bytes, their domains, and what ends a run on the way.
--   own              the words that a command reads besides its files; faults never speak of them
--   words            the words of its files, whose numbers faults tell
--   OverFiles        how a run may be answered that reads both
use Rattle.std.specs.Prelude.{◌≡◌, ◌⊎◌, ℕ, ◌+◌, ◌<◌, ◌≤◌, List, [], ◌∷◌, ◌++◌, length, codes, Ok, Err, IfSome}
use Rattle.io_edges.specs.Counts.{Rose}
use Rattle.io_edges.specs.Reads.{Store, Holds, IsAbsent, IsOver, IsLast}
use Rattle.io_edges.specs.declared.files.ReadAnswer.{ReadAnswer}
use Rattle.io_edges.specs.declared.files.ReadAnswer.TheVariants as answers
use Rattle.nml_elements.specs.FileReading.{domain_of}
use Rattle.nml_elements.specs.declared.fault.ReadFault.{ReadFault}
use Rattle.nml_elements.specs.declared.elements.Domain.{Domain}
use Rattle.circuit_spec.specs.Network.{Topology}
use Rattle.replies.specs.declared.reply.Reply.{Reply}
use Rattle.replies.specs.declared.reply.Status.TheVariants as statuses
use Rattle.replies.specs.Through.{Each, Ends, IsText}
use Rattle.file_words.specs.declared.parsing.Sources.{Sources}
use Rattle.file_words.specs.declared.reading.AllRead.{AllRead}
use Rattle.file_words.specs.declared.reading.FileWord.{FileWord}
use Rattle.file_words.specs.Lines.{read_line, fault_line}

-- words that name topology files, of which the first has the number n, with the most bytes that a file may have
abbrev pub file_words : ℕ → List (List ℕ) → List FileWord
file_words n [] = []
file_words n (name ∷ names) = record { number = n; name = name; limit = 16777216 } ∷ file_words (n + 1) names

-- ---- reading

-- the file of a word is these bytes, within its limit
pub record IsRead (before : Store) (word : FileWord) (bytes : List ℕ) : Type 0 where
  pub holds : Holds before.contents word.name bytes
  pub within : length bytes ≤ word.limit

-- the files of the words are these bytes, in order
abbrev pub AreRead : Store → List FileWord → List (List ℕ) → Type 0
AreRead before words contents = Each (IsRead before) words contents

-- the last read of the run is of this word, and was answered so
pub record IsLastRead (before after : Store) (word : FileWord) (answer : ReadAnswer) : Type 0 where
  pub counted : Rose before.reads after.reads
  pub last : IsLast after.last word.name word.limit answer

-- the file is not there
pub record IsMissing (before after : Store) (word : FileWord) (reply : Reply) : Type 0 where
  pub read : IsLastRead before after word answers.Absent
  pub cause : IsAbsent before.contents word.name (Rose before.faults after.faults)
  pub is : IsText statuses.NotRead (read_line word.number (codes "absent")) reply

-- reading the file failed
pub record IsFailing (before after : Store) (word : FileWord) (reply : Reply) : Type 0 where
  pub read : IsLastRead before after word answers.Failed
  pub cause : Rose before.faults after.faults
  pub is : IsText statuses.NotRead (read_line word.number (codes "failed")) reply

-- the file is too big
pub record IsTooBig (before after : Store) (word : FileWord) (reply : Reply) : Type 0 where
  pub read : IsLastRead before after word answers.TooBig
  pub taken : IfSome after.last (λ read. word.limit < read.taken)
  pub cause : IsOver before.contents word.name word.limit
  pub is : IsText statuses.TooBig (read_line word.number (codes "too-big")) reply

-- reading the file of a word ends the run so
abbrev pub IsRefused : Store → Store → FileWord → Reply → Type 0
IsRefused before after word reply = IsMissing before after word reply ⊎ (IsFailing before after word reply ⊎ IsTooBig before after word reply)

-- reading stops at one of the words
abbrev pub StopsReading : Store → Store → List FileWord → Reply → Type 0
StopsReading before after words reply = Ends (IsRead before) (λ _. IsRefused before after) words reply

-- all words are read, the own ones of a command and those of its files
pub record AreAllRead (before : Store) (own words : List FileWord) (read : AllRead) : Type 0 where
  pub held : AreRead before own read.own
  pub contents : AreRead before words read.files

-- ---- parsing

abbrev pub IsDomain : List ℕ → Domain → Type 0
IsDomain bytes domain = domain_of bytes ≡ Ok domain

-- the bytes of the file with this number have a fault, with this reply
pub record IsFaulty (n : ℕ) (bytes : List ℕ) (reply : Reply) : Type 0 where
  pub fault : ReadFault
  pub found : domain_of bytes ≡ Err fault
  pub is : IsText statuses.Fault (fault_line n fault) reply

-- the files of the words are read, and these are their domains, in order
pub record AreDomains (before : Store) (words : List FileWord) (T : Topology) : Type 0 where
  pub contents : List (List ℕ)
  pub read : AreRead before words contents
  pub parsed : Each IsDomain contents T

-- all words are read, and a file has a fault
pub record IsFaultyFile (before : Store) (own words : List FileWord) (reply : Reply) : Type 0 where
  pub read : AllRead
  pub all : AreAllRead before own words read
  pub faulty : Ends IsDomain IsFaulty read.files reply

-- reading stops at a word, of which the own ones come first; or all are read, and a file has a fault
abbrev pub EndsEarly : Store → Store → List FileWord → List FileWord → Reply → Type 0
EndsEarly before after own words reply = StopsReading before after (own ++ words) reply ⊎ IsFaultyFile before own words reply

-- all words are read: the own ones hold these bytes, and the files are these domains
pub record AreSources (before : Store) (own words : List FileWord) (sources : Sources) : Type 0 where
  pub kept : AreRead before own sources.held
  pub domains : AreDomains before words sources.domains

-- the reply is to what the own words hold, and to the domains of all files
pub record Follows (before : Store) (own words : List FileWord) (Next : List (List ℕ) → Topology → Reply → Type 0) (reply : Reply) : Type 0 where
  pub sources : Sources
  pub are : AreSources before own words sources
  pub next : Next sources.held sources.domains reply

-- a word or a file ends the run, or the reply is to what all of them hold
abbrev pub OverFiles : Store → Store → List FileWord → List FileWord → (List (List ℕ) → Topology → Reply → Type 0) → Reply → Type 0
OverFiles before after own words Next reply = EndsEarly before after own words reply ⊎ Follows before own words Next reply
