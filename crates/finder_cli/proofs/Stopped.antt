-- At which word reading stops, over told contents.
use Rattle.std.proofs.Common.{◌≡◌, ◌≢◌, ◌∙◌, sym, refl, ap, subst, ℕ, List, Option, Some, None, IsSome, ◌⊎◌, inl, inr, arith}
use Rattle.std.specs.Prelude.{codes}
use Rattle.std.specs.Io.KnownBytes.{Appends}
use Rattle.std.proofs.lemmas.Bool.{false≢true}
use Rattle.io_edges.specs.Counts.{Rose}
use Rattle.io_edges.specs.Reads.{Store, Contents, IsAbsent, IsOver}
use Rattle.command_words.specs.declared.words.Command.{Command}
use Rattle.command_words.specs.Words.{Words, command_of}
use Rattle.replies.specs.declared.reply.Reply.{Reply}
use Rattle.replies.specs.Status.{code}
use Rattle.file_words.specs.declared.reading.FileWord.{FileWord}
use Rattle.file_words.specs.Accepting.{IfAccepted}
use Rattle.file_words.specs.Reading.{IsMissing, IsRead, IsRefused, IsTooBig, StopsReading}
use Rattle.file_words.proofs.Passing.{refused-at, missing-unread, big-unread, missing-told, big-told, missing-calm}
use Rattle.finder_cli.specs.Answers.{CommandAnswers, Replies, files_named, own_words, words_read}
use Rattle.finder_cli.specs.Premises.{Ran}
use Rattle.finder_cli.specs.Sentences.{FindsMissing, FindsTooBig, IsFirstMissing, IsFirstTooBig, IsReached, StopsAt}
use Rattle.finder_cli.proofs.Causes.{spelled-by, stopped-five, stopped-eleven}
use Rattle.finder_cli.proofs.Sentences.{IsDone}

abbrev Told : Type 0
Told = List ℕ → Option (List ℕ)

abbrev code_of : Reply → ℕ
code_of a = code a.status

-- the run of told contents, in which reading has not failed, that a reply ends
record Runs (words : Words) (before after : Store) (told : Told) (reply : Reply) : Type 0 where
  e : before.contents ≡ Some told
  calm : ¬ Rose before.faults after.faults
  may : CommandAnswers (command_of words) before after reply

answers-of : (words : Words) (before after : Store) (told : Told) (reply : Reply) (word : FileWord) → Runs words before after told reply → (at : IsReached words before word) → CommandAnswers (Some at.command) before after reply
answers-of words before after told reply word runs at = subst (λ (c : Option Command). CommandAnswers c before after reply) at.spelled runs.may

refused-there : (words : Words) (before after : Store) (told : Told) (reply : Reply) (word : FileWord) → Runs words before after told reply → (at : IsReached words before word) → ((bytes : List ℕ) → ¬ IsRead before word bytes)
    → IsRefused before after word reply
refused-there words before after told reply word runs at unread =
    refused-at before after told (own_words at.command) (files_named at.command) (λ held. IfAccepted (Replies at.command held)) reply at.earlier word at.later at.contents runs.e runs.calm at.split at.read unread
    (answers-of words before after told reply word runs at)

reached : (words : Words) (command : Command) (before after : Store) (reply : Reply) → command_of words ≡ Some command → (s : StopsReading before after (words_read command) reply) → IsReached words before s.item
reached words command before after reply spelled s = record { command = command; spelled = spelled; earlier = s.earlier; later = s.later; split = s.split; contents = s.partners; read = s.passed }

-- ---- 5

five-only : (words : Words) (before after : Store) (told : Told) (reply : Reply) → Runs words before after told reply → code_of reply ≡ 5 → (word : FileWord) × IsFirstMissing words before word
five-only words before after told reply runs five =
    let by = spelled-by words before after reply (λ two. absurd (omega arith)) runs.may in
    let stop : StopsReading before after (words_read by.0) reply = stopped-five by.0 before after reply five by.2 in
    (stop.item, record { reached = reached words by.0 before after reply by.1 stop; missing = by-cause stop.item stop.ends })
  where
    by-cause : (word : FileWord) → IsRefused before after word reply → IsAbsent before.contents word.name ⊥
    by-cause word (inl m) = missing-calm before after word reply runs.calm m
    by-cause word (inr (inl m)) = absurd (runs.calm m.cause)
    by-cause word (inr (inr m)) = let eleven : code_of reply ≡ 11 = ap code_of m.is in absurd (omega arith)

five-whenever : (words : Words) (before after : Store) (told : Told) (reply : Reply) (word : FileWord) → Runs words before after told reply → IsFirstMissing words before word → IsMissing before after word reply
five-whenever words before after told reply word runs first =
    missing-told before after told word reply runs.e runs.calm first.missing
    (refused-there words before after told reply word runs first.reached (missing-unread before told word runs.e first.missing))

-- ---- 11

eleven-only : (words : Words) (before after : Store) (told : Told) (reply : Reply) → Runs words before after told reply → code_of reply ≡ 11 → (word : FileWord) × IsFirstTooBig words before word
eleven-only words before after told reply runs eleven =
    let by = spelled-by words before after reply (λ two. absurd (omega arith)) runs.may in
    let stop : StopsReading before after (words_read by.0) reply = stopped-eleven by.0 before after reply eleven by.2 in
    (stop.item, record { reached = reached words by.0 before after reply by.1 stop; over = by-cause stop.item stop.ends })
  where
    by-cause : (word : FileWord) → IsRefused before after word reply → IsOver before.contents word.name word.limit
    by-cause word (inl m) = let five : code_of reply ≡ 5 = ap code_of m.is in absurd (omega arith)
    by-cause word (inr (inl m)) = let five : code_of reply ≡ 5 = ap code_of m.is in absurd (omega arith)
    by-cause word (inr (inr m)) = m.cause

eleven-whenever : (words : Words) (before after : Store) (told : Told) (reply : Reply) (word : FileWord) → Runs words before after told reply → IsFirstTooBig words before word → IsTooBig before after word reply
eleven-whenever words before after told reply word runs first =
    big-told before after told word reply runs.e runs.calm first.over
    (refused-there words before after told reply word runs first.reached (big-unread before told word runs.e first.over))

-- ---- the sentences

abbrev Prints : Option (List ℕ) → Option (List ℕ) → Reply → Type 0
Prints old new a = Appends old new a.text

missing-in : (contents : Contents) (words : Words) (before after : Store) (status : ℕ) (reply : Reply) (old new : Option (List ℕ)) → before.contents ≡ contents → IsSome contents → ¬ Rose before.faults after.faults
    → IsDone words before after status reply → Appends old new reply.text → StopsAt (IsFirstMissing words before) 5 (codes "absent") status old new
missing-in None words before after status reply old new e some calm done printed = absurd (false≢true some)
missing-in (Some told) words before after status reply old new e some calm done printed =
    let runs : Runs words before after told reply = record { e = e; calm = calm; may = done.may } in
    record {
      only = λ five. five-only words before after told reply runs (sym done.code ∙ five);
      whenever = λ word first.
          let m : IsMissing before after word reply = five-whenever words before after told reply word runs first in
          (done.code ∙ ap code_of m.is, subst (Prints old new) m.is printed);
    }

too-big-in : (contents : Contents) (words : Words) (before after : Store) (status : ℕ) (reply : Reply) (old new : Option (List ℕ)) → before.contents ≡ contents → IsSome contents → ¬ Rose before.faults after.faults
    → IsDone words before after status reply → Appends old new reply.text → StopsAt (IsFirstTooBig words before) 11 (codes "too-big") status old new
too-big-in None words before after status reply old new e some calm done printed = absurd (false≢true some)
too-big-in (Some told) words before after status reply old new e some calm done printed =
    let runs : Runs words before after told reply = record { e = e; calm = calm; may = done.may } in
    record {
      only = λ eleven. eleven-only words before after told reply runs (sym done.code ∙ eleven);
      whenever = λ word first.
          let m : IsTooBig before after word reply = eleven-whenever words before after told reply word runs first in
          (done.code ∙ ap code_of m.is, subst (Prints old new) m.is printed);
    }

pub says-missing : (words : Words) (before after : Store) (status : ℕ) (reply : Reply) (old new : Option (List ℕ)) → (Ran status → IsDone words before after status reply) → (status ≢ 6 → Appends old new reply.text)
    → FindsMissing words before after status old new
says-missing words before after status reply old new done printed = λ ran tells.
    missing-in before.contents words before after status reply old new refl tells.0 tells.1 (done ran) (printed ran.0)

pub says-too-big : (words : Words) (before after : Store) (status : ℕ) (reply : Reply) (old new : Option (List ℕ)) → (Ran status → IsDone words before after status reply) → (status ≢ 6 → Appends old new reply.text)
    → FindsTooBig words before after status old new
says-too-big words before after status reply old new done printed = λ ran tells.
    too-big-in before.contents words before after status reply old new refl tells.0 tells.1 (done ran) (printed ran.0)
