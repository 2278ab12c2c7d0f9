-- A network that is made is answered over no file.
use Rattle.std.proofs.Common.{◌≡◌, ◌≤◌, ◌∙◌, sym, refl, ap, subst, ℕ, List, [], ◌∷◌, ◌++◌, Some, Result, Ok, Err, inl, inr}
use Rattle.io_edges.specs.Reads.{Store}
use Rattle.circuit_spec.specs.Faults.{IsAccepted}
use Rattle.circuit_spec.specs.Network.{Topology}
use Rattle.circuit_spec.proofs.OneFault.{sound_has_none}
use Rattle.nml_elements.specs.declared.elements.Domain.{Domain}
use Rattle.command_words.specs.declared.words.Command.TheVariants.{Drill}
use Rattle.replies.specs.declared.reply.Reply.{Reply}
use Rattle.replies.specs.Status.{code, status_of}
use Rattle.replies.specs.declared.reply.Stop.{Stop}
use Rattle.replies.specs.declared.reply.Stop.TheVariants.{Ended, NoMemory}
use Rattle.replies.specs.Through.{Each, Ends, Gives}
use Rattle.file_words.specs.declared.reading.FileWord.{FileWord}
use Rattle.file_words.specs.Accepting.{IfAccepted}
use Rattle.file_words.specs.Reading.{AreDomains, EndsEarly, IsDomain, IsFaulty, IsRead}
use Rattle.file_words.proofs.Accepted.{after-accepted}
use Rattle.file_words.proofs.Passing.{SameStatus}
use Rattle.drill_command.specs.Drilling.{IsDrilled}
use Rattle.drill_command.proofs.Told.{told_once}
use Rattle.finder_cli.specs.Answers.{CommandAnswers, Replies}

no-item : {A : Type 0} (earlier : List A) (item : A) (later : List A) → [] ≡ earlier ++ item ∷ later → ⊥
no-item [] item later e = absurd cc
no-item (x ∷ earlier) item later e = absurd cc

no-end : {A B : Type 0} (R : A → B → Type 0) (EndsAt : ℕ → A → Reply → Type 0) (items : List A) (reply : Reply) → items ≡ [] → Ends R EndsAt items reply → ⊥
no-end R EndsAt items reply none ends = no-item ends.earlier ends.item ends.later (sym none ∙ ends.split)

no-partner : {A B : Type 0} (R : A → B → Type 0) (ys : List B) → Each R [] ys → ys ≡ []
no-partner R [] each = refl
no-partner R (y ∷ ys) each = absurd each

pub nothing-accepted : IsAccepted []
nothing-accepted = record { merged = refl; sound = record { classes = tt; relating = refl } }

drill-answers : (levels : ℕ) (before after : Store) (reply : Reply) → levels ≤ 4096 → IsDrilled levels reply → CommandAnswers (Some (Drill levels)) before after reply
drill-answers levels before after reply few p = inr (record {
  sources = record { held = []; domains = [] };
  are = record { kept = tt; domains = record { contents = []; read = tt; parsed = tt } };
  next = inr (nothing-accepted, (few, p));
})

-- what is given of the network is given of the command
pub drill-gives : (levels : ℕ) (before after : Store) (result : Result Reply Stop) → levels ≤ 4096 → Gives result (IsDrilled levels) → Gives result (CommandAnswers (Some (Drill levels)) before after)
drill-gives levels before after (Ok reply) few p = drill-answers levels before after reply few p
drill-gives levels before after (Err (Ended reply)) few p = drill-answers levels before after reply few p
drill-gives levels before after (Err NoMemory) few p = tt

not-early : (before after : Store) (reply : Reply) → EndsEarly before after [] [] reply → ⊥
not-early before after reply (inl stops) = no-end _ _ [] reply refl stops
not-early before after reply (inr faulty) = no-end IsDomain IsFaulty faulty.read.files reply (no-partner (IsRead before) faulty.read.files faulty.all.contents) faulty.faulty

no-domain : (before : Store) (T : Topology) → AreDomains before [] T → T ≡ []
no-domain before T are = no-partner IsDomain T (subst (λ (contents : List (List ℕ)). Each IsDomain contents T) (no-partner (IsRead before) are.contents are.read) are.parsed)

pub drill-of : (levels : ℕ) (before after : Store) (reply : Reply) → CommandAnswers (Some (Drill levels)) before after reply → (levels ≤ 4096) × IsDrilled levels reply
drill-of levels before after reply (inl early) = absurd (not-early before after reply early)
drill-of levels before after reply (inr over) =
    let none : over.sources.domains ≡ [] = no-domain before over.sources.domains over.are.domains in
    after-accepted (λ T reply. (levels ≤ 4096) × IsDrilled levels reply) over.sources.domains reply (subst (λ (T : Topology). IsAccepted T) (sym none) nothing-accepted) over.next

pub drilled-one : (levels : ℕ) (a b : Reply) → IsDrilled levels a → IsDrilled levels b → SameStatus a b
drilled-one levels a b p q = told_once levels a b p q
