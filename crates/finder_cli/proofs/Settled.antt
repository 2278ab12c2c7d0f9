-- Over told contents, where reading has not failed, all replies that may be have one status.
use Rattle.std.proofs.Common.{◌≡◌, refl, ℕ, List, Option, Some, None, IsSome}
use Rattle.std.proofs.lemmas.Bool.{false≢true}
use Rattle.io_edges.specs.Counts.{Rose}
use Rattle.io_edges.specs.Reads.{Store, Contents}
use Rattle.circuit_spec.specs.Network.{Topology}
use Rattle.command_words.specs.declared.words.Command.{Command}
use Rattle.command_words.specs.declared.words.Command.TheVariants.{Find, KFind, Check, Replay, Survey, Drill}
use Rattle.command_words.specs.Words.{Words, command_of}
use Rattle.replies.specs.declared.reply.Reply.{Reply}
use Rattle.file_words.specs.Accepting.{IfAccepted}
use Rattle.file_words.proofs.Accepted.{accepted-one}
use Rattle.file_words.proofs.Passing.{SameStatus, by-lines, over-files}
use Rattle.find_command.proofs.Searched.{found-one}
use Rattle.k_find_command.proofs.Listed.{k-found-one}
use Rattle.survey_command.proofs.Surveyed.{survey-one}
use Rattle.check_command.specs.declared.examining.Question.TheVariants as question
use Rattle.check_command.proofs.Examined.{examined-one}
use Rattle.finder_cli.proofs.Drilled.{drilled-one}
use Rattle.finder_cli.specs.Answers.{own_words, files_named, Replies, CommandAnswers, Answers}

abbrev Told : Type 0
Told = List ℕ → Option (List ℕ)

replies-one : (command : Command) (held : List (List ℕ)) (T : Topology) (a b : Reply) → Replies command held T a → Replies command held T b → SameStatus a b
replies-one (Find request files potentials) held T a b p q = found-one request potentials T a b p q
replies-one (KFind k request files) held T a b p q = k-found-one request k T a b p q
replies-one (Check answer files) held T a b p q = examined-one question.Check held T a b p q
replies-one (Replay answer files) held T a b p q = examined-one question.Replay held T a b p q
replies-one (Survey files) held T a b p q = survey-one T a b p q
replies-one (Drill levels) held T a b p q = drilled-one levels a b p.1 q.1

command-one : (command : Option Command) (before after : Store) (told : Told) (a b : Reply) → before.contents ≡ Some told → ¬ Rose before.faults after.faults
    → CommandAnswers command before after a → CommandAnswers command before after b → SameStatus a b
command-one None before after told a b e calm p q = by-lines a b _ _ p q refl
command-one (Some command) before after told a b e calm p q =
    over-files before after told (own_words command) (files_named command) (λ held. IfAccepted (Replies command held)) a b e calm
    (λ held T. accepted-one (Replies command held) T a b (replies-one command held T a b)) p q

told-one : (contents : Contents) (command : Option Command) (before after : Store) (a b : Reply) → before.contents ≡ contents → IsSome contents → ¬ Rose before.faults after.faults
    → CommandAnswers command before after a → CommandAnswers command before after b → SameStatus a b
told-one (Some told) command before after a b e some calm p q = command-one command before after told a b e calm p q
told-one None command before after a b e some calm p q = absurd (false≢true some)

pub Answers-one : (words : Words) (before after : Store) (a b : Reply) → IsSome before.contents → ¬ Rose before.faults after.faults
    → Answers words before after a → Answers words before after b → SameStatus a b
Answers-one words before after a b some calm p q = told-one before.contents (command_of words) before after a b refl some calm p q
