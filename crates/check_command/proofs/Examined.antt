-- The replies to a question on a document have one status, and tell one thing.
use Rattle.std.proofs.Common.{◌≡◌, ◌≢◌, ◌⊎◌, ◌∙◌, sym, refl, ap, subst, ℕ, List, [], ◌∷◌, inl, inr}
use Rattle.circuit_spec.specs.Network.{Topology}
use Rattle.answer_text.proofs.OneAnswer.{spelled_once}
use Rattle.replies.specs.declared.reply.Reply.{Reply}
use Rattle.replies.specs.Status.{code}
use Rattle.file_words.proofs.Passing.{SameStatus, by-lines}
use Rattle.verdict.specs.declared.verdicts.Verdict.{Verdict}
use Rattle.verdict.specs.declared.verdicts.Verdict.TheVariants.{Valid, NotValid}
use Rattle.verdict.specs.Verdicts.{IsVerdict}
use Rattle.verdict.proofs.OneVerdict.{one_verdict}
use Rattle.rule_replay.specs.declared.replayed.Replayed.{Replayed}
use Rattle.rule_replay.specs.declared.replayed.Replayed.TheVariants.{Carried, NotCarried}
use Rattle.rule_replay.specs.Replaying.{IsReplayed}
use Rattle.rule_replay.proofs.Forwarded.{one_text}
use Rattle.rule_replay.proofs.Single.{replayed_one}
use Rattle.check_command.specs.declared.examining.Question.{Question}
use Rattle.check_command.specs.declared.examining.Question.TheVariants.{Check, Replay}
use Rattle.check_command.specs.Checking.{IsJudged, status_of_verdict}
use Rattle.check_command.specs.Examining.{IsExamined, IsToldOf}
use Rattle.check_command.specs.Replaying.{IsCarriedOut, status_of_replay}

pub same-verdict : (T : Topology) (bytes : List ℕ) (x y : Verdict) → IsVerdict T bytes x → IsVerdict T bytes y → x ≡ y
same-verdict T bytes x y p q = one_verdict spelled_once T bytes x y p q

judged-one : (T : Topology) (bytes : List ℕ) (a b : Reply) → IsJudged T bytes a → IsJudged T bytes b → SameStatus a b
judged-one T bytes a b p q = by-lines a b _ _ p.is q.is (ap status_of_verdict (same-verdict T bytes p.verdict q.verdict p.is_verdict q.is_verdict))

carried-one : (T : Topology) (bytes : List ℕ) (a b : Reply) → IsCarriedOut T bytes a → IsCarriedOut T bytes b → SameStatus a b
carried-one T bytes a b p q = by-lines a b _ _ p.is q.is (ap status_of_replay (replayed_one T one_text bytes p.replayed q.replayed p.is_replayed q.is_replayed))

told-one : (question : Question) (T : Topology) (bytes : List ℕ) (a b : Reply) → IsToldOf question T bytes a → IsToldOf question T bytes b → SameStatus a b
told-one Check T bytes a b p q = judged-one T bytes a b p q
told-one Replay T bytes a b p q = carried-one T bytes a b p q

pub held-one : (xs : List (List ℕ)) (x y : List ℕ) → xs ≡ x ∷ [] → xs ≡ y ∷ [] → x ≡ y
held-one xs x y p q = cc

pub examined-one : (question : Question) (held : List (List ℕ)) (T : Topology) (a b : Reply) → IsExamined question held T a → IsExamined question held T b → SameStatus a b
examined-one question held T a b p q =
    told-one question T p.0 a b p.2 (subst (λ (bytes : List ℕ). IsToldOf question T bytes b) (held-one held q.0 p.0 q.1 p.1) q.2)

-- ---- statuses

verdict-code : (v : Verdict) → (code (status_of_verdict v) ≡ 0) ⊎ (code (status_of_verdict v) ≡ 9)
verdict-code (Valid outcome) = inl refl
verdict-code (NotValid line broken) = inr refl

replay-code : (r : Replayed) → (code (status_of_replay r) ≡ 0) ⊎ (code (status_of_replay r) ≡ 9)
replay-code (Carried rules any_order) = inl refl
replay-code (NotCarried at why) = inr refl

told-code : (question : Question) (T : Topology) (bytes : List ℕ) (a : Reply) → IsToldOf question T bytes a → (code a.status ≡ 0) ⊎ (code a.status ≡ 9)
told-code Check T bytes a p = subst (λ (reply : Reply). (code reply.status ≡ 0) ⊎ (code reply.status ≡ 9)) (sym p.is) (verdict-code p.verdict)
told-code Replay T bytes a p = subst (λ (reply : Reply). (code reply.status ≡ 0) ⊎ (code reply.status ≡ 9)) (sym p.is) (replay-code p.replayed)

-- the status is 0 or 9
pub examined-code : (question : Question) (held : List (List ℕ)) (T : Topology) (a : Reply) → IsExamined question held T a → (code a.status ≡ 0) ⊎ (code a.status ≡ 9)
examined-code question held T a p = told-code question T p.0 a p.2
