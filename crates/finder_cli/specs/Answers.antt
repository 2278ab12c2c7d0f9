-- How words may be answered.
use Rattle.std.specs.Prelude.{ℕ, ◌≤◌, List, [], ◌++◌, Option, Some, None}
use Rattle.io_edges.specs.Reads.{Store}
use Rattle.circuit_spec.specs.Network.{Topology}
use Rattle.command_words.specs.declared.words.Command.{Command}
use Rattle.command_words.specs.declared.words.Command.TheVariants.{Find, KFind, Check, Replay, Survey, Drill}
use Rattle.command_words.specs.Words.{Words, command_of}
use Rattle.replies.specs.declared.reply.Reply.{Reply}
use Rattle.file_words.specs.declared.reading.FileWord.{FileWord}
use Rattle.file_words.specs.Accepting.{IfAccepted}
use Rattle.file_words.specs.Reading.{OverFiles, file_words}
use Rattle.find_command.specs.Finding.{IsFound}
use Rattle.k_find_command.specs.Listing.{IsKFound}
use Rattle.survey_command.specs.Surveying.{IsSurvey}
use Rattle.check_command.specs.declared.examining.Question.TheVariants as question
use Rattle.check_command.specs.Documents.{answer_words}
use Rattle.check_command.specs.Examining.{IsExamined}
use Rattle.drill_command.specs.Drilling.{IsDrilled}
use Rattle.finder_cli.specs.Usage.{IsUsage}

-- the words that a command reads besides its files
abbrev pub own_words : Command → List FileWord
own_words (Find request files potentials) = []
own_words (KFind k request files) = []
own_words (Check answer files) = answer_words answer
own_words (Replay answer files) = answer_words answer
own_words (Survey files) = []
own_words (Drill levels) = []

-- the words of the files of a command; one that makes its network has none
abbrev pub files_named : Command → List FileWord
files_named (Find request files potentials) = file_words 1 files
files_named (KFind k request files) = file_words 1 files
files_named (Check answer files) = file_words 1 files
files_named (Replay answer files) = file_words 1 files
files_named (Survey files) = file_words 1 files
files_named (Drill levels) = []

-- all words that a command reads, in order
abbrev pub words_read : Command → List FileWord
words_read command = own_words command ++ files_named command

-- the replies of a command whose own words hold these bytes, over an accepted topology
abbrev pub Replies : Command → List (List ℕ) → Topology → Reply → Type 0
Replies (Find request files potentials) held T reply = IsFound request potentials T reply
Replies (KFind k request files) held T reply = IsKFound request k T reply
Replies (Check answer files) held T reply = IsExamined question.Check held T reply
Replies (Replay answer files) held T reply = IsExamined question.Replay held T reply
Replies (Survey files) held T reply = IsSurvey T reply
Replies (Drill levels) held T reply = (levels ≤ 4096) × IsDrilled levels reply

-- how a command may be answered, in a run that found the store as before and left it as after
abbrev pub CommandAnswers : Option Command → Store → Store → Reply → Type 0
CommandAnswers None before after reply = IsUsage reply
CommandAnswers (Some command) before after reply = OverFiles before after (own_words command) (files_named command) (λ held. IfAccepted (Replies command held)) reply

-- these words may be answered so
abbrev pub Answers : Words → Store → Store → Reply → Type 0
Answers words before after reply = CommandAnswers (command_of words) before after reply
