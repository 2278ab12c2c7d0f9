-- Which statuses words may have.
use Rattle.std.proofs.Common.{◌≡◌, ◌≢◌, ◌==◌, ◌∙◌, sym, refl, ap, subst, ℕ, ◌<◌, ◌≤◌, Bool, true, false, List, [], ◌∷◌, Option, Some, None, ◌⊎◌, inl, inr, lit<}
use Rattle.std.specs.Prelude.{Contains}
use Rattle.std.proofs.lemmas.Bool.{false≢true}
use Rattle.std.proofs.lemmas.Bool.Decides.{Decides-eqb}
use Rattle.std.proofs.lemmas.List.Elements.{Contains-append_left}
use Rattle.io_edges.specs.Reads.{Store}
use Rattle.circuit_spec.specs.declared.hops.Outcome.{Outcome}
use Rattle.circuit_spec.specs.declared.hops.Outcome.TheVariants.{Found, NoWalk, Past, Long}
use Rattle.circuit_spec.specs.declared.hops.Request.{Request}
use Rattle.circuit_spec.specs.Network.{Topology}
use Rattle.command_words.specs.declared.words.Command.{Command}
use Rattle.command_words.specs.declared.words.Command.TheVariants.{Find, KFind, Check, Replay, Survey, Drill}
use Rattle.command_words.specs.Words.{Word, Words, command_of}
use Rattle.replies.specs.declared.reply.Reply.{Reply}
use Rattle.replies.specs.Status.{code, status_of}
use Rattle.file_words.specs.Accepting.{IfAccepted}
use Rattle.find_command.specs.Finding.{IsFound}
use Rattle.k_find_command.specs.Listing.{IsKFound}
use Rattle.k_find_command.proofs.Listed.{listed-tells}
use Rattle.survey_command.specs.Surveying.{IsSurvey}
use Rattle.check_command.specs.declared.examining.Question.{Question}
use Rattle.check_command.specs.declared.examining.Question.TheVariants as question
use Rattle.check_command.specs.Examining.{IsExamined}
use Rattle.check_command.proofs.Examined.{examined-code}
use Rattle.drill_command.specs.Drilling.{IsDrilled}
use Rattle.drill_command.proofs.Told.{never_none}
use Rattle.finder_cli.specs.Answers.{Answers, CommandAnswers, Replies, files_named, own_words}
use Rattle.finder_cli.specs.Sentences.{statuses_of}
use Rattle.finder_cli.proofs.Causes.{early-code, rejected-code}
use Rattle.finder_cli.proofs.Drilled.{drill-of}

abbrev code_of : Reply → ℕ
code_of a = code a.status

-- 6 and 10 may always be
abbrev pub May : Option Command → ℕ → Type 0
May command n = Contains (6 ∷ 10 ∷ statuses_of command) n

at : (command : Option Command) (n m : ℕ) → n ≡ m → May command m → May command n
at command n m e p = subst (λ (k : ℕ). May command k) (sym e) p

-- ---- searches

abbrev Search : (r : Request) (names : List Word) (potentials : Bool) → Option Command
Search r names potentials = Some (Find r names potentials)

outcome-may : (r : Request) (names : List Word) (potentials : Bool) (o : Outcome) → May (Search r names potentials) (code (status_of o))
outcome-may r names potentials (Found cost hops) = (2, lit< tt, refl)
outcome-may r names potentials NoWalk = (3, lit< tt, refl)
outcome-may r names potentials Past = (7, lit< tt, refl)
outcome-may r names potentials (Long cost hops) = (8, lit< tt, refl)

found-may : (r : Request) (names : List Word) (potentials : Bool) (T : Topology) (a : Reply) → IsFound r potentials T a → May (Search r names potentials) (code_of a)
found-may r names potentials T a (inl p) = at (Search r names potentials) (code_of a) 4 (ap code_of p.is) (5, lit< tt, refl)
found-may r names potentials T a (inr p) = at (Search r names potentials) (code_of a) (code (status_of p.answer.outcome)) (ap code_of p.is) (outcome-may r names potentials p.answer.outcome)

-- a search for several walks ends with the statuses of a search for one
k-found-may : (k : ℕ) (r : Request) (names : List Word) (T : Topology) (a : Reply) → IsKFound r k T a → May (Some (KFind k r names)) (code_of a)
k-found-may k r names T a (inl p) = at (Some (KFind k r names)) (code_of a) 4 (ap code_of p.is) (5, lit< tt, refl)
k-found-may k r names T a (inr p) =
    let told = listed-tells T r k a p in at (Some (KFind k r names)) (code_of a) (code (status_of told.outcome)) (ap code told.same) (outcome-may r names true told.outcome)

-- ---- documents

-- the command may end with 0 or 9
record MayFail (command : Option Command) : Type 0 where
  zero : May command 0
  nine : May command 9

examined-may : (command : Option Command) → MayFail command → (q : Question) (held : List (List ℕ)) (T : Topology) (a : Reply) → IsExamined q held T a → May command (code_of a)
examined-may command may q held T a p = elim (examined-code q held T a p) [ inl zero ↦ at command (code_of a) 0 zero may.zero | inr nine ↦ at command (code_of a) 9 nine may.nine ]

check-may : (answer : Word) (names : List Word) → MayFail (Some (Check answer names))
check-may answer names = record { zero = (2, lit< tt, refl); nine = (5, lit< tt, refl) }

replay-may : (answer : Word) (names : List Word) → MayFail (Some (Replay answer names))
replay-may answer names = record { zero = (2, lit< tt, refl); nine = (5, lit< tt, refl) }

-- ---- networks that are made

drilled-may : (levels : ℕ) (a : Reply) → levels ≤ 4096 → IsDrilled levels a → May (Some (Drill levels)) (code_of a)
drilled-may levels a few p = at (Some (Drill levels)) (code_of a) (code (status_of p.answer.outcome)) (ap code_of p.is) (by-outcome p.answer.outcome refl)
  where
    by-outcome : (o : Outcome) → p.answer.outcome ≡ o → May (Some (Drill levels)) (code (status_of o))
    by-outcome (Found cost hops) is = (2, lit< tt, refl)
    by-outcome NoWalk is = absurd (never_none levels a few p (ap (λ (x : Reply). x.status) p.is ∙ ap status_of is))
    by-outcome Past is = (3, lit< tt, refl)
    by-outcome (Long cost hops) is = (4, lit< tt, refl)

-- ---- all commands

replies-may : (command : Command) (held : List (List ℕ)) (T : Topology) (a : Reply) → Replies command held T a → May (Some command) (code_of a)
replies-may (Find r names potentials) held T a p = found-may r names potentials T a p
replies-may (KFind k r names) held T a p = k-found-may k r names T a p
replies-may (Check answer names) held T a p = examined-may (Some (Check answer names)) (check-may answer names) question.Check held T a p
replies-may (Replay answer names) held T a p = examined-may (Some (Replay answer names)) (replay-may answer names) question.Replay held T a p
replies-may (Survey names) held T a p = at (Some (Survey names)) (code_of a) 0 (ap code_of p.is) (2, lit< tt, refl)
replies-may (Drill levels) held T a p = drilled-may levels a p.0 p.1

-- a command that reads files may end with a fault, or at a read
record MayStop (command : Command) : Type 0 where
  three : May (Some command) 3
  five : May (Some command) 5
  eleven : May (Some command) 11

early-may : (command : Command) → MayStop command → (n : ℕ) → (n ≡ 5) ⊎ ((n ≡ 11) ⊎ (n ≡ 3)) → May (Some command) n
early-may command stop n (inl e) = at (Some command) n 5 e stop.five
early-may command stop n (inr (inl e)) = at (Some command) n 11 e stop.eleven
early-may command stop n (inr (inr e)) = at (Some command) n 3 e stop.three

reading-may : (command : Command) → MayStop command → (before after : Store) (a : Reply) → CommandAnswers (Some command) before after a → May (Some command) (code_of a)
reading-may command stop before after a (inl e) = early-may command stop (code_of a) (early-code before after (own_words command) (files_named command) a e)
reading-may command stop before after a (inr o) = by-reply o.next
  where
    by-reply : IfAccepted (Replies command o.sources.held) o.sources.domains a → May (Some command) (code_of a)
    by-reply (inl p) = at (Some command) (code_of a) 3 (rejected-code o.sources.domains a p) stop.three
    by-reply (inr p) = replies-may command o.sources.held o.sources.domains a p.1

command-may : (command : Option Command) (before after : Store) (a : Reply) → CommandAnswers command before after a → May command (code_of a)
command-may None before after a may = at None (code_of a) 2 (ap code_of may) (2, lit< tt, refl)
command-may (Some (Find r names potentials)) before after a may = reading-may (Find r names potentials) (record { three = (4, lit< tt, refl); five = (6, lit< tt, refl); eleven = (9, lit< tt, refl) }) before after a may
command-may (Some (KFind k r names)) before after a may = reading-may (KFind k r names) (record { three = (4, lit< tt, refl); five = (6, lit< tt, refl); eleven = (9, lit< tt, refl) }) before after a may
command-may (Some (Check answer names)) before after a may = reading-may (Check answer names) (record { three = (3, lit< tt, refl); five = (4, lit< tt, refl); eleven = (6, lit< tt, refl) }) before after a may
command-may (Some (Replay answer names)) before after a may = reading-may (Replay answer names) (record { three = (3, lit< tt, refl); five = (4, lit< tt, refl); eleven = (6, lit< tt, refl) }) before after a may
command-may (Some (Survey names)) before after a may = reading-may (Survey names) (record { three = (3, lit< tt, refl); five = (4, lit< tt, refl); eleven = (5, lit< tt, refl) }) before after a may
command-may (Some (Drill levels)) before after a may = let drilled = drill-of levels before after a may in drilled-may levels a drilled.0 drilled.1

-- a status that is told where it is not 6
pub six-or : (status n : ℕ) → (status ≢ 6 → status ≡ n) → (status ≡ 6) ⊎ (status ≡ n)
six-or status n told = by-test (status == 6) refl
  where
    by-test : (b : Bool) → (status == 6) ≡ b → (status ≡ 6) ⊎ (status ≡ n)
    by-test true e = inl ((Decides-eqb status 6).0 e)
    by-test false e = inr (told (λ six. false≢true (sym e ∙ (Decides-eqb status 6).1 six)))

-- the status is that of a reply that may be, unless a write failed
pub says-statuses : (words : Words) (before after : Store) (status : ℕ) (a : Reply) → Answers words before after a → (status ≡ 6) ⊎ (status ≡ code_of a) → May (command_of words) status
says-statuses words before after status a may (inl six) = at (command_of words) status 6 six (Contains-append_left (6 ∷ 10 ∷ []) (statuses_of (command_of words)) 6 (0, lit< tt, refl))
says-statuses words before after status a may (inr e) = at (command_of words) status (code_of a) e (command-may (command_of words) before after a may)

-- or memory ran out
pub says-ten : (words : Words) → May (command_of words) 10
says-ten words = Contains-append_left (6 ∷ 10 ∷ []) (statuses_of (command_of words)) 10 (1, lit< tt, refl)
