-- The causes of the statuses 2, 3, 5 and 11, and what is printed with them.
use Rattle.std.proofs.Common.{◌≡◌, ◌≢◌, ◌∙◌, ◌↔◌, sym, refl, ap, subst, ℕ, Bool, List, [], ◌∷◌, ◌++◌, Option, Some, None, IsSome, ◌⊎◌, inl, inr, arith, append_assoc}
use Rattle.std.specs.Prelude.{Contains}
use Rattle.std.specs.Io.KnownBytes.{Appends}
use Rattle.std.proofs.lemmas.Bool.{false≢true}
use Rattle.std.proofs.lemmas.List.Elements.{Contains-append_left, Contains-push}
use Rattle.io_edges.specs.Counts.{Rose}
use Rattle.io_edges.specs.Reads.{Store, Contents}
use Rattle.circuit_spec.specs.declared.hops.Outcome.{Outcome}
use Rattle.circuit_spec.specs.declared.hops.Outcome.TheVariants.{Found, NoWalk, Past, Long}
use Rattle.circuit_spec.specs.declared.hops.Request.{Request}
use Rattle.circuit_spec.specs.Faults.{IsAccepted}
use Rattle.circuit_spec.specs.Network.{Topology}
use Rattle.file_words.specs.declared.reading.FileWord.{FileWord}
use Rattle.replies.specs.declared.reply.Reply.{Reply}
use Rattle.replies.specs.declared.reply.Status.TheVariants as statuses
use Rattle.command_words.specs.declared.words.Command.{Command}
use Rattle.command_words.specs.declared.words.Command.TheVariants.{Find, KFind, Check, Replay, Survey, Drill}
use Rattle.file_words.specs.Accepting.{IsRejected, IfAccepted}
use Rattle.finder_cli.specs.Answers.{files_named, own_words, words_read, Replies, CommandAnswers, Answers}
use Rattle.find_command.specs.Finding.{IsFound}
use Rattle.k_find_command.specs.Listing.{IsKFound}
use Rattle.k_find_command.proofs.Listed.{listed-tells}
use Rattle.file_words.specs.Reading.{EndsEarly, IsDomain, IsFaulty, IsRefused, StopsReading}
use Rattle.finder_cli.specs.Premises.{Ran, AreReadFor}
use Rattle.finder_cli.specs.Sentences.{FindsFault, FindsUsage, IsFaultLine, IsNotRead, IsTooLarge, TellsFault}
use Rattle.finder_cli.specs.Usage.{usage_line}
use Rattle.replies.specs.Status.{code, status_of}
use Rattle.survey_command.specs.Surveying.{IsSurvey}
use Rattle.check_command.specs.declared.examining.Question.{Question}
use Rattle.check_command.specs.declared.examining.Question.TheVariants as question
use Rattle.check_command.specs.Examining.{IsExamined}
use Rattle.check_command.proofs.Examined.{examined-code}
use Rattle.drill_command.specs.Drilling.{IsDrilled}
use Rattle.replies.specs.Through.{Each, Ends}
use Rattle.command_words.specs.Words.{Words, command_of}
use Rattle.file_words.proofs.Passing.{domains-one, faulty-apart, over-contents}
use Rattle.finder_cli.proofs.Sentences.{IsDone}
use Rattle.file_words.proofs.Accepted.{rejected-apart}

abbrev code_of : Reply → ℕ
code_of a = code a.status

-- ---- the statuses of the parts

refused-code : (before after : Store) (word : FileWord) (a : Reply) → IsRefused before after word a → (code_of a ≡ 5) ⊎ (code_of a ≡ 11)
refused-code before after word a (inl m) = inl (ap code_of m.is)
refused-code before after word a (inr (inl m)) = inl (ap code_of m.is)
refused-code before after word a (inr (inr m)) = inr (ap code_of m.is)

pub early-code : (before after : Store) (own words : List FileWord) (a : Reply) → EndsEarly before after own words a → (code_of a ≡ 5) ⊎ ((code_of a ≡ 11) ⊎ (code_of a ≡ 3))
early-code before after own words a (inl e) = elim (refused-code before after e.item a e.ends) [ inl five ↦ inl five | inr eleven ↦ inr (inl eleven) ]
early-code before after own words a (inr p) = inr (inr (ap code_of p.faulty.ends.is))

pub rejected-code : (T : Topology) (a : Reply) → IsRejected T a → code_of a ≡ 3
rejected-code T a (inl p) = ap code_of p.is
rejected-code T a (inr p) = ap code_of p.is

-- a status that replies to accepted topologies have
record IsLate (n : ℕ) : Type 0 where
  two : n ≢ 2
  three : n ≢ 3
  five : n ≢ 5
  eleven : n ≢ 11

late-of : (n : ℕ) → (n ≡ 0) ⊎ ((n ≡ 1) ⊎ ((n ≡ 4) ⊎ ((n ≡ 7) ⊎ ((n ≡ 8) ⊎ (n ≡ 9))))) → IsLate n
late-of n (inl e) = record { two = λ f. absurd (omega arith); three = λ f. absurd (omega arith); five = λ f. absurd (omega arith); eleven = λ f. absurd (omega arith) }
late-of n (inr (inl e)) = record { two = λ f. absurd (omega arith); three = λ f. absurd (omega arith); five = λ f. absurd (omega arith); eleven = λ f. absurd (omega arith) }
late-of n (inr (inr (inl e))) = record { two = λ f. absurd (omega arith); three = λ f. absurd (omega arith); five = λ f. absurd (omega arith); eleven = λ f. absurd (omega arith) }
late-of n (inr (inr (inr (inl e)))) = record { two = λ f. absurd (omega arith); three = λ f. absurd (omega arith); five = λ f. absurd (omega arith); eleven = λ f. absurd (omega arith) }
late-of n (inr (inr (inr (inr (inl e))))) = record { two = λ f. absurd (omega arith); three = λ f. absurd (omega arith); five = λ f. absurd (omega arith); eleven = λ f. absurd (omega arith) }
late-of n (inr (inr (inr (inr (inr e))))) = record { two = λ f. absurd (omega arith); three = λ f. absurd (omega arith); five = λ f. absurd (omega arith); eleven = λ f. absurd (omega arith) }

outcome-late : (o : Outcome) (n : ℕ) → n ≡ code (status_of o) → IsLate n
outcome-late (Found cost hops) n e = late-of n (inl e)
outcome-late NoWalk n e = late-of n (inr (inl e))
outcome-late Past n e = late-of n (inr (inr (inr (inl e))))
outcome-late (Long cost hops) n e = late-of n (inr (inr (inr (inr (inl e)))))

found-late : (r : Request) (potentials : Bool) (T : Topology) (a : Reply) → IsFound r potentials T a → IsLate (code_of a)
found-late r potentials T a (inl p) = late-of (code_of a) (inr (inr (inl (ap code_of p.is))))
found-late r potentials T a (inr p) = outcome-late p.answer.outcome (code_of a) (ap code_of p.is)

k-found-late : (r : Request) (k : ℕ) (T : Topology) (a : Reply) → IsKFound r k T a → IsLate (code_of a)
k-found-late r k T a (inl p) = late-of (code_of a) (inr (inr (inl (ap code_of p.is))))
k-found-late r k T a (inr p) = let told = listed-tells T r k a p in outcome-late told.outcome (code_of a) (ap code told.same)

survey-late : (T : Topology) (a : Reply) → IsSurvey T a → IsLate (code_of a)
survey-late T a p = late-of (code_of a) (inl (ap code_of p.is))

examined-late : (question : Question) (held : List (List ℕ)) (T : Topology) (a : Reply) → IsExamined question held T a → IsLate (code_of a)
examined-late question held T a p = elim (examined-code question held T a p) [ inl zero ↦ late-of (code_of a) (inl zero) | inr nine ↦ late-of (code_of a) (inr (inr (inr (inr (inr nine))))) ]

drilled-late : (levels : ℕ) (a : Reply) → IsDrilled levels a → IsLate (code_of a)
drilled-late levels a p = outcome-late p.answer.outcome (code_of a) (ap code_of p.is)

replies-late : (command : Command) (held : List (List ℕ)) (T : Topology) (a : Reply) → Replies command held T a → IsLate (code_of a)
replies-late (Find request files potentials) held T a p = found-late request potentials T a p
replies-late (KFind k request files) held T a p = k-found-late request k T a p
replies-late (Check answer files) held T a p = examined-late question.Check held T a p
replies-late (Replay answer files) held T a p = examined-late question.Replay held T a p
replies-late (Survey files) held T a p = survey-late T a p
replies-late (Drill levels) held T a p = drilled-late levels a p.1

-- ---- 2

not-two : (before after : Store) (command : Command) (a : Reply) → CommandAnswers (Some command) before after a → code_of a ≢ 2
not-two before after command a (inl e) = λ two. elim (early-code before after (own_words command) (files_named command) a e) [
  | inl five ↦ absurd (omega arith)
  | inr (inl eleven) ↦ absurd (omega arith)
  | inr (inr three) ↦ absurd (omega arith)
]
not-two before after command a (inr o) = by-reply o.next
  where
    by-reply : IfAccepted (Replies command o.sources.held) o.sources.domains a → code_of a ≢ 2
    by-reply (inl p) = λ two. let three : code_of a ≡ 3 = rejected-code o.sources.domains a p in absurd (omega arith)
    by-reply (inr p) = (replies-late command o.sources.held o.sources.domains a p.1).two

usage-exact : (command : Option Command) (before after : Store) (status : ℕ) (a : Reply) → status ≡ code_of a → CommandAnswers command before after a → (status ≡ 2) ↔ (command ≡ None)
usage-exact None before after status a e may = (λ two. refl, λ none. e ∙ ap code_of may)
usage-exact (Some command) before after status a e may = (λ two. absurd (not-two before after command a may (sym e ∙ two)), λ none. absurd cc)

usage-printed : (command : Option Command) (before after : Store) (a : Reply) → CommandAnswers command before after a → code_of a ≡ 2 → a.text ≡ usage_line
usage-printed None before after a may two = ap (λ (x : Reply). x.text) may
usage-printed (Some command) before after a may two = absurd (not-two before after command a may two)

pub says-usage : (words : Words) (before after : Store) (status : ℕ) (reply : Reply) (old new : Option (List ℕ)) → (Ran status → IsDone words before after status reply) → (status ≢ 6 → Appends old new reply.text)
    → FindsUsage words status old new
says-usage words before after status reply old new done printed = λ ran. record {
  exactly = usage-exact (command_of words) before after status reply (done ran).code (done ran).may;
  printed = λ two. subst (λ (t : List ℕ). Appends old new t) (usage-printed (command_of words) before after reply (done ran).may (sym (done ran).code ∙ two)) (printed ran.0);
}

-- ---- 3

-- the reply, which has this status and its own text
abbrev fault_reply : Reply → Reply
fault_reply a = record { status = statuses.Fault; text = a.text }

same-reply : (a : Reply) (text : List ℕ) → a ≡ record { status = statuses.Fault; text = text } → a ≡ fault_reply a
same-reply a text e = e ∙ sym (ap fault_reply e)

line-ends : (contents : List (List ℕ)) (a : Reply) → Ends IsDomain IsFaulty contents a → IsFaultLine contents a.text
line-ends contents a p = inl (subst (λ (b : Reply). Ends IsDomain IsFaulty contents b) (same-reply a _ p.ends.is) p)

rejected-reply : (T : Topology) (a : Reply) → IsRejected T a → IsRejected T (fault_reply a)
rejected-reply T a (inl p) = subst (λ (b : Reply). IsRejected T b) (same-reply a _ p.is) (inl p)
rejected-reply T a (inr p) = subst (λ (b : Reply). IsRejected T b) (same-reply a _ p.is) (inr p)

fault-in : (command : Command) (held contents : List (List ℕ)) (status : ℕ) (a : Reply) (old new : Option (List ℕ)) → status ≡ code_of a → Appends old new a.text
    → Ends IsDomain IsFaulty contents a ⊎ ((T : Topology) × Each IsDomain contents T × IfAccepted (Replies command held) T a) → TellsFault contents status old new
fault-in command held contents status a old new e printed (inl p) = record {
  exactly = (λ three good. faulty-apart contents good.0 a good.1 p, λ bad. e ∙ ap code_of p.ends.is);
  printed = λ three. (a.text, line-ends contents a p, printed);
}
fault-in command held contents status a old new e printed (inr (T, each, inl p)) = record {
  exactly = (λ three good. rejected-apart T a p (subst (λ (S : Topology). IsAccepted S) (domains-one contents good.0 T good.1 each) good.2), λ bad. e ∙ rejected-code T a p);
  printed = λ three. (a.text, inr (T, each, rejected-reply T a p), printed);
}
fault-in command held contents status a old new e printed (inr (T, each, inr p)) = record {
  exactly = (λ three. absurd ((replies-late command held T a p.1).three (sym e ∙ three)), λ bad. absurd (bad (T, each, p.0)));
  printed = λ three. absurd ((replies-late command held T a p.1).three (sym e ∙ three));
}

fault-told : (contents : Contents) (words : Words) (before after : Store) (status : ℕ) (a : Reply) (old new : Option (List ℕ)) → before.contents ≡ contents → IsSome contents → ¬ Rose before.faults after.faults
    → IsDone words before after status a → Appends old new a.text → (texts : List (List ℕ)) → AreReadFor words before texts → TellsFault texts status old new
fault-told None words before after status a old new e told calm done printed texts read = absurd (false≢true told)
fault-told (Some contents) words before after status a old new e told calm done printed texts read =
    let may : CommandAnswers (Some read.command) before after a = subst (λ (c : Option Command). CommandAnswers c before after a) read.spelled done.may in
    fault-in read.command read.held texts status a old new done.code printed
    (over-contents before after contents (own_words read.command) (files_named read.command) (λ held. IfAccepted (Replies read.command held)) read.held texts a e calm read.own read.read may)

pub says-fault : (words : Words) (before after : Store) (status : ℕ) (reply : Reply) (old new : Option (List ℕ)) → (Ran status → IsDone words before after status reply) → (status ≢ 6 → Appends old new reply.text)
    → FindsFault words before after status old new
says-fault words before after status reply old new done printed = λ ran tells texts read.
    fault-told before.contents words before after status reply old new refl tells.0 tells.1 (done ran) (printed ran.0) texts read

-- ---- 5 and 11

within : {A : Type 0} (earlier : List A) (item : A) (later items : List A) → items ≡ earlier ++ item ∷ later → Contains items item
within earlier item later items split =
    subst (λ (xs : List _). Contains xs item) (append_assoc earlier (item ∷ []) later ∙ sym split) (Contains-append_left (earlier ++ item ∷ []) later item (Contains-push earlier item))

-- a reply whose status is told of a read stops reading
stopped-by : (command : Command) (before after : Store) (a : Reply) → code_of a ≢ 3 → ¬ IsLate (code_of a) → CommandAnswers (Some command) before after a → StopsReading before after (words_read command) a
stopped-by command before after a three late (inl (inl e)) = e
stopped-by command before after a three late (inl (inr p)) = absurd (three (ap code_of p.faulty.ends.is))
stopped-by command before after a three late (inr o) = by-reply o.next
  where
    by-reply : IfAccepted (Replies command o.sources.held) o.sources.domains a → StopsReading before after (words_read command) a
    by-reply (inl p) = absurd (three (rejected-code o.sources.domains a p))
    by-reply (inr p) = absurd (late (replies-late command o.sources.held o.sources.domains a p.1))

pub stopped-five : (command : Command) (before after : Store) (a : Reply) → code_of a ≡ 5 → CommandAnswers (Some command) before after a → StopsReading before after (words_read command) a
stopped-five command before after a five may = stopped-by command before after a (λ three. absurd (omega arith)) (λ late. late.five five) may

pub stopped-eleven : (command : Command) (before after : Store) (a : Reply) → code_of a ≡ 11 → CommandAnswers (Some command) before after a → StopsReading before after (words_read command) a
stopped-eleven command before after a eleven may = stopped-by command before after a (λ three. absurd (omega arith)) (λ late. late.eleven eleven) may

-- the words of a reply with a status of its own spell a command
pub spelled-by : (words : Words) (before after : Store) (a : Reply) → code_of a ≢ 2 → Answers words before after a → (command : Command) × (command_of words ≡ Some command) × CommandAnswers (Some command) before after a
spelled-by words before after a two may = by-command (command_of words) refl may
  where
    by-command : (o : Option Command) → command_of words ≡ o → CommandAnswers o before after a → (command : Command) × (command_of words ≡ Some command) × CommandAnswers (Some command) before after a
    by-command None e p = absurd (two (ap code_of p))
    by-command (Some command) e p = (command, e, p)

abbrev Prints : Option (List ℕ) → Option (List ℕ) → Reply → Type 0
Prints old new a = Appends old new a.text

not-read : (words : Words) (command : Command) (before after : Store) (a : Reply) (old new : Option (List ℕ)) → command_of words ≡ Some command → code_of a ≡ 5 → Appends old new a.text
    → StopsReading before after (words_read command) a → IsNotRead words before after old new
not-read words command before after a old new spelled five printed e = by-cause e.ends
  where
    named : Contains (words_read command) e.item
    named = within e.earlier e.item e.later (words_read command) e.split

    by-cause : IsRefused before after e.item a → IsNotRead words before after old new
    by-cause (inl m) = record { command = command; spelled = spelled; file = e.item; named = named; cause = inl (m.read, m.cause, subst (Prints old new) m.is printed) }
    by-cause (inr (inl m)) = record { command = command; spelled = spelled; file = e.item; named = named; cause = inr (m.read, m.cause, subst (Prints old new) m.is printed) }
    by-cause (inr (inr m)) = let eleven : code_of a ≡ 11 = ap code_of m.is in absurd (omega arith)

too-large : (words : Words) (command : Command) (before after : Store) (a : Reply) (old new : Option (List ℕ)) → command_of words ≡ Some command → code_of a ≡ 11 → Appends old new a.text
    → StopsReading before after (words_read command) a → IsTooLarge words before after old new
too-large words command before after a old new spelled eleven printed e = by-cause e.ends
  where
    named : Contains (words_read command) e.item
    named = within e.earlier e.item e.later (words_read command) e.split

    by-cause : IsRefused before after e.item a → IsTooLarge words before after old new
    by-cause (inl m) = let five : code_of a ≡ 5 = ap code_of m.is in absurd (omega arith)
    by-cause (inr (inl m)) = let five : code_of a ≡ 5 = ap code_of m.is in absurd (omega arith)
    by-cause (inr (inr m)) =
        record { command = command; spelled = spelled; file = e.item; named = named; read = m.read; taken = m.taken; cause = m.cause; printed = subst (Prints old new) m.is printed }

pub says-not-read : (words : Words) (before after : Store) (status : ℕ) (reply : Reply) (old new : Option (List ℕ)) → (Ran status → IsDone words before after status reply) → (status ≢ 6 → Appends old new reply.text)
    → status ≡ 5 → IsNotRead words before after old new
says-not-read words before after status reply old new done printed five =
    let six : status ≢ 6 = λ e. absurd (omega arith) in
    let ten : status ≢ 10 = λ e. absurd (omega arith) in
    let is : IsDone words before after status reply = done (six, ten) in
    let ended : code_of reply ≡ 5 = sym is.code ∙ five in
    let by = spelled-by words before after reply (λ two. absurd (omega arith)) is.may in
    not-read words by.0 before after reply old new by.1 ended (printed six) (stopped-five by.0 before after reply ended by.2)

pub says-too-large : (words : Words) (before after : Store) (status : ℕ) (reply : Reply) (old new : Option (List ℕ)) → (Ran status → IsDone words before after status reply) → (status ≢ 6 → Appends old new reply.text)
    → status ≡ 11 → IsTooLarge words before after old new
says-too-large words before after status reply old new done printed eleven =
    let six : status ≢ 6 = λ e. absurd (omega arith) in
    let ten : status ≢ 10 = λ e. absurd (omega arith) in
    let is : IsDone words before after status reply = done (six, ten) in
    let ended : code_of reply ≡ 11 = sym is.code ∙ eleven in
    let by = spelled-by words before after reply (λ two. absurd (omega arith)) is.may in
    too-large words by.0 before after reply old new by.1 ended (printed six) (stopped-eleven by.0 before after reply ended by.2)
