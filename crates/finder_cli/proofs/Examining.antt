-- What a run says of a document, and of a network that is made, follows from what the words may be answered.
use Rattle.std.proofs.Common.{◌≡◌, ◌≢◌, ◌∙◌, sym, refl, ap, subst, ℕ, List, [], ◌∷◌, Option, Some, None, IsSome}
use Rattle.std.specs.Io.KnownBytes.{Appends}
use Rattle.std.proofs.lemmas.Bool.{false≢true}
use Rattle.io_edges.specs.Counts.{Rose}
use Rattle.io_edges.specs.Reads.{Store, Contents}
use Rattle.circuit_spec.specs.Network.{Topology}
use Rattle.command_words.specs.declared.words.Command.{Command}
use Rattle.command_words.specs.declared.words.Command.TheVariants.{Check, Replay, Drill}
use Rattle.command_words.specs.Words.{Word, Words, command_of}
use Rattle.replies.specs.declared.reply.Reply.{Reply}
use Rattle.replies.specs.Status.{code}
use Rattle.file_words.specs.Accepting.{IfAccepted}
use Rattle.file_words.specs.Reading.{file_words}
use Rattle.file_words.proofs.Accepted.{after-accepted}
use Rattle.file_words.proofs.Passing.{over-domains}
use Rattle.check_command.specs.declared.examining.Question.{Question}
use Rattle.check_command.specs.declared.examining.Question.TheVariants as question
use Rattle.check_command.specs.Documents.{answer_words}
use Rattle.check_command.specs.Examining.{IsExamined, IsToldOf}
use Rattle.check_command.proofs.Examined.{held-one}
use Rattle.finder_cli.specs.Answers.{Answers, CommandAnswers}
use Rattle.finder_cli.specs.Examining.{ChecksDocument, DrillsNetwork, HoldsDocument, ReplaysRules, TellsDrill, TellsReplay, TellsVerdict}
use Rattle.finder_cli.specs.Premises.{Ran}
use Rattle.finder_cli.proofs.Drilled.{drill-of}
use Rattle.finder_cli.proofs.Sentences.{IsDone}

-- the command that asks this question
abbrev asking : Question → Word → List Word → Command
asking question.Check answer names = Check answer names
asking question.Replay answer names = Replay answer names

over-document : (q : Question) (before after : Store) (answer : Word) (names : List Word) (bytes : List ℕ) (T : Topology) (contents : List ℕ → Option (List ℕ)) (reply : Reply)
    → before.contents ≡ Some contents → ¬ Rose before.faults after.faults → HoldsDocument before answer names bytes T
    → CommandAnswers (Some (asking q answer names)) before after reply → IsExamined q (bytes ∷ []) T reply
over-document question.Check before after answer names bytes T contents reply e calm holds may =
    after-accepted (IsExamined question.Check (bytes ∷ [])) T reply holds.accepted
    (over-domains before after contents (answer_words answer) (file_words 1 names) (λ held. IfAccepted (IsExamined question.Check held)) (bytes ∷ []) T reply e calm (holds.document, tt) holds.domains may)
over-document question.Replay before after answer names bytes T contents reply e calm holds may =
    after-accepted (IsExamined question.Replay (bytes ∷ [])) T reply holds.accepted
    (over-domains before after contents (answer_words answer) (file_words 1 names) (λ held. IfAccepted (IsExamined question.Replay held)) (bytes ∷ []) T reply e calm (holds.document, tt) holds.domains may)

told-document : (q : Question) (told : Contents) (words : Words) (before after : Store) (answer : Word) (names : List Word) (bytes : List ℕ) (T : Topology) (reply : Reply)
    → before.contents ≡ told → IsSome told → ¬ Rose before.faults after.faults → command_of words ≡ Some (asking q answer names) → HoldsDocument before answer names bytes T
    → Answers words before after reply → IsToldOf q T bytes reply
told-document q None words before after answer names bytes T reply e some calm spelled holds may = absurd (false≢true some)
told-document q (Some contents) words before after answer names bytes T reply e some calm spelled holds may =
    let may-so = subst (λ (c : Option Command). CommandAnswers c before after reply) spelled may in
    let examined = over-document q before after answer names bytes T contents reply e calm holds may-so in
    subst (λ (held : List ℕ). IsToldOf q T held reply) (held-one (bytes ∷ []) examined.0 bytes examined.1 refl) examined.2

pub says-checked : (words : Words) (before after : Store) (status : ℕ) (reply : Reply) (old new : Option (List ℕ)) → (Ran status → IsDone words before after status reply) → (status ≢ 6 → Appends old new reply.text)
    → ChecksDocument words before after status old new
says-checked words before after status reply old new done printed = λ ran tells answer names bytes T spelled holds.
    let is = told-document question.Check before.contents words before after answer names bytes T reply refl tells.0 tells.1 spelled holds (done ran).may in
    record {
      verdict = is.verdict;
      is_verdict = is.is_verdict;
      told = (done ran).code ∙ ap (λ (a : Reply). code a.status) is.is;
      printed = subst (λ (a : Reply). Appends old new a.text) is.is (printed ran.0);
    }

pub says-replayed : (words : Words) (before after : Store) (status : ℕ) (reply : Reply) (old new : Option (List ℕ)) → (Ran status → IsDone words before after status reply) → (status ≢ 6 → Appends old new reply.text)
    → ReplaysRules words before after status old new
says-replayed words before after status reply old new done printed = λ ran tells answer names bytes T spelled holds.
    let is = told-document question.Replay before.contents words before after answer names bytes T reply refl tells.0 tells.1 spelled holds (done ran).may in
    record {
      replayed = is.replayed;
      is_replayed = is.is_replayed;
      told = (done ran).code ∙ ap (λ (a : Reply). code a.status) is.is;
      printed = subst (λ (a : Reply). Appends old new a.text) is.is (printed ran.0);
    }

pub says-drilled : (words : Words) (before after : Store) (status : ℕ) (reply : Reply) (old new : Option (List ℕ)) → (Ran status → IsDone words before after status reply) → (status ≢ 6 → Appends old new reply.text)
    → DrillsNetwork words status old new
says-drilled words before after status reply old new done printed = λ ran levels spelled. record {
  reply = reply;
  drilled = (drill-of levels before after reply (subst (λ (c : Option Command). CommandAnswers c before after reply) spelled (done ran).may)).1;
  told = (done ran).code;
  printed = printed ran.0;
}
