-- What stands in the text of a survey.
use Rattle.std.proofs.Common.{◌≡◌, ◌≢◌, ◌∙◌, sym, refl, ap, subst, ℕ, List, [], Option, Some, None, IsSome}
use Rattle.std.proofs.lemmas.Bool.{false≢true}
use Rattle.std.specs.Io.KnownBytes.{Appends}
use Rattle.io_edges.specs.Counts.{Rose}
use Rattle.io_edges.specs.Reads.{Store, Contents}
use Rattle.circuit_spec.specs.Faults.{IsAccepted}
use Rattle.circuit_spec.specs.Network.{Topology}
use Rattle.replies.specs.declared.reply.Reply.{Reply}
use Rattle.command_words.specs.declared.words.Command.{Command}
use Rattle.command_words.specs.declared.words.Command.TheVariants.{Survey}
use Rattle.file_words.specs.Accepting.{IfAccepted}
use Rattle.finder_cli.specs.Answers.{CommandAnswers}
use Rattle.file_words.specs.Reading.{AreDomains, file_words}
use Rattle.finder_cli.specs.Premises.{Ran}
use Rattle.finder_cli.specs.Sentences.{CountsFiles, PrintsCounts}
use Rattle.replies.specs.Status.{code}
use Rattle.survey_command.specs.Surveying.{IsSurvey}
use Rattle.command_words.specs.Words.{Word, Words, command_of}
use Rattle.file_words.proofs.Accepted.{after-accepted}
use Rattle.file_words.proofs.Passing.{over-domains}
use Rattle.finder_cli.proofs.Sentences.{IsDone}

surveyed : (contents : Contents) (before after : Store) (words : Words) (names : List Word) (T : Topology) (status : ℕ) (reply : Reply) → before.contents ≡ contents → IsSome contents → ¬ Rose before.faults after.faults
    → command_of words ≡ Some (Survey names) → AreDomains before (file_words 1 names) T → IsAccepted T → IsDone words before after status reply → IsSurvey T reply
surveyed None before after words names T status reply e told calm spelled are accepted done = absurd (false≢true told)
surveyed (Some contents) before after words names T status reply e told calm spelled are accepted done =
    let may : CommandAnswers (Some (Survey names)) before after reply = subst (λ (c : Option Command). CommandAnswers c before after reply) spelled done.may in
    after-accepted IsSurvey T reply accepted (over-domains before after contents [] (file_words 1 names) (λ held. IfAccepted IsSurvey) [] T reply e calm tt are may)

counted : (T : Topology) (status : ℕ) (reply : Reply) (old new : Option (List ℕ)) → status ≡ code reply.status → IsSurvey T reply → Appends old new reply.text → PrintsCounts T status old new
counted T status reply old new e p printed = record {
  is = e ∙ ap (λ (a : Reply). code a.status) p.is;
  classes = p.classes;
  are = p.are;
  printed = subst (λ (a : Reply). Appends old new a.text) p.is printed;
}

pub says-counts : (words : Words) (before after : Store) (status : ℕ) (reply : Reply) (old new : Option (List ℕ)) → (Ran status → IsDone words before after status reply) → (status ≢ 6 → Appends old new reply.text)
    → CountsFiles words before after status old new
says-counts words before after status reply old new done printed = λ ran tells names T spelled are accepted.
    counted T status reply old new (done ran).code (surveyed before.contents before after words names T status reply refl tells.0 tells.1 spelled are accepted (done ran)) (printed ran.0)
