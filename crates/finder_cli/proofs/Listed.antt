-- What stands in the text of a list of walks.
use Rattle.std.proofs.Common.{◌≡◌, ◌≢◌, ◌∙◌, refl, ap, subst, ℕ, List, [], Option, Some, None, IsSome, ◌⊎◌, inl, inr}
use Rattle.std.proofs.lemmas.Bool.{false≢true}
use Rattle.std.specs.Io.KnownBytes.{Appends}
use Rattle.io_edges.specs.Counts.{Rose}
use Rattle.io_edges.specs.Reads.{Store, Contents}
use Rattle.circuit_spec.specs.declared.hops.Request.{Request}
use Rattle.circuit_spec.specs.Network.{Topology}
use Rattle.replies.specs.declared.reply.Reply.{Reply}
use Rattle.replies.specs.Status.{code}
use Rattle.command_words.specs.declared.words.Command.{Command}
use Rattle.command_words.specs.declared.words.Command.TheVariants.{KFind}
use Rattle.command_words.specs.Words.{Words}
use Rattle.file_words.specs.Accepting.{IfAccepted}
use Rattle.file_words.specs.Reading.{file_words}
use Rattle.file_words.proofs.Accepted.{after-accepted}
use Rattle.file_words.proofs.Passing.{over-domains}
use Rattle.k_find_command.specs.Listing.{IsKFound}
use Rattle.k_find_command.proofs.Listed.{listed-tells}
use Rattle.finder_cli.specs.Answers.{CommandAnswers}
use Rattle.finder_cli.specs.Headline.{Refuses}
use Rattle.finder_cli.specs.Listing.{AsksList, ListsWalks, PrintsList}
use Rattle.finder_cli.specs.Premises.{Ran}
use Rattle.finder_cli.proofs.Headlined.{refuses}
use Rattle.finder_cli.proofs.Sentences.{IsDone}

k-found : (contents : Contents) (before after : Store) (words : Words) (r : Request) (k : ℕ) (T : Topology) (status : ℕ) (reply : Reply) → before.contents ≡ contents → IsSome contents → ¬ Rose before.faults after.faults
    → AsksList words before r k T → IsDone words before after status reply → IsKFound r k T reply
k-found None before after words r k T status reply e told calm asks done = absurd (false≢true told)
k-found (Some contents) before after words r k T status reply e told calm asks done =
    let may : CommandAnswers (Some (KFind k r asks.names)) before after reply = subst (λ (c : Option Command). CommandAnswers c before after reply) asks.command done.may in
    after-accepted (IsKFound r k) T reply asks.accepted (over-domains before after contents [] (file_words 1 asks.names) (λ held. IfAccepted (IsKFound r k)) [] T reply e calm tt asks.domains may)

lists : (T : Topology) (r : Request) (k status : ℕ) (reply : Reply) (old new : Option (List ℕ)) → status ≡ code reply.status → IsKFound r k T reply → Appends old new reply.text
    → PrintsList T r k status old new ⊎ Refuses T r status old new
lists T r k status reply old new e (inl p) printed = inr (refuses T r status reply old new e p printed)
lists T r k status reply old new e (inr p) printed =
    let told = listed-tells T r k reply p in
    inl (record {
      answer = p.answer;
      cheapest = p.cheapest;
      is = e ∙ ap (λ (a : Reply). code a.status) p.is;
      printed = subst (λ (a : Reply). Appends old new a.text) p.is printed;
      outcome = told.outcome;
      is_outcome = told.is;
      told = e ∙ ap code told.same;
    })

pub says-lists : (words : Words) (before after : Store) (status : ℕ) (reply : Reply) (old new : Option (List ℕ)) → (Ran status → IsDone words before after status reply) → (status ≢ 6 → Appends old new reply.text)
    → ListsWalks words before after status old new
says-lists words before after status reply old new done printed = λ ran tells r k T asks.
    lists T r k status reply old new (done ran).code (k-found before.contents before after words r k T status reply refl tells.0 tells.1 asks (done ran)) (printed ran.0)
