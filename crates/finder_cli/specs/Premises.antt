-- What the sentences on a run suppose.
--   Tells            contents are told, and reading has not failed
--   Ran              no write failed, and memory did not run out
--   Asks             the words ask for a circuit of a request over these domains
--   AreReadFor       the words of a command are read, and its files are these bytes
use Rattle.std.specs.Prelude.{◌≡◌, ◌≢◌, ℕ, List, Bool, Some, IsSome}
use Rattle.io_edges.specs.Counts.{Rose}
use Rattle.io_edges.specs.Reads.{Store}
use Rattle.circuit_spec.specs.declared.hops.Request.{Request}
use Rattle.circuit_spec.specs.Faults.{IsAccepted, IsKnown}
use Rattle.circuit_spec.specs.Network.{Topology}
use Rattle.command_words.specs.declared.words.Command.{Command}
use Rattle.command_words.specs.declared.words.Command.TheVariants.{Find}
use Rattle.command_words.specs.Words.{Word, Words, command_of}
use Rattle.file_words.specs.Reading.{AreDomains, AreRead, file_words}
use Rattle.finder_cli.specs.Answers.{files_named, own_words}

-- contents are told, and reading has not failed
abbrev pub Tells : Store → Store → Type 0
Tells before after = IsSome before.contents × (¬ Rose before.faults after.faults)

-- no write failed, and memory did not run out
abbrev pub Ran : ℕ → Type 0
Ran status = (status ≢ 6) × (status ≢ 10)

-- the words ask for a circuit of the request over these domains of told files
pub record Asks (words : Words) (before : Store) (r : Request) (T : Topology) : Type 0 where
  pub names : List Word
  pub potentials : Bool
  pub command : command_of words ≡ Some (Find r names potentials)
  pub domains : AreDomains before (file_words 1 names) T

-- the same, where the topology is accepted
pub record AsksAccepted (words : Words) (before : Store) (r : Request) (T : Topology) : Type 0 where
  pub asks : Asks words before r T
  pub accepted : IsAccepted T

-- the same, where the request is known
pub record AsksKnown (words : Words) (before : Store) (r : Request) (T : Topology) : Type 0 where
  pub asks : AsksAccepted words before r T
  pub known : IsKnown T r

-- all words of a command are read, and these are the bytes of its files
pub record AreReadFor (words : Words) (before : Store) (contents : List (List ℕ)) : Type 0 where
  pub command : Command
  pub spelled : command_of words ≡ Some command
  pub held : List (List ℕ)
  pub own : AreRead before (own_words command) held
  pub read : AreRead before (files_named command) contents
