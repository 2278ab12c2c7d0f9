-- A topology is either accepted or rejected, and rejections have one status.
use Rattle.std.proofs.Common.{◌≡◌, ◌∙◌, sym, refl, List, [], ◌∷◌, inl, inr}
use Rattle.circuit_spec.specs.declared.faults.MergeFault.{MergeFault}
use Rattle.circuit_spec.specs.Faults.{IsAccepted, merge_faults}
use Rattle.circuit_spec.specs.Network.{Topology}
use Rattle.circuit_spec.proofs.OneFault.{sound_has_none}
use Rattle.replies.specs.declared.reply.Reply.{Reply}
use Rattle.file_words.specs.Accepting.{IsRejected, IfAccepted}
use Rattle.file_words.proofs.Passing.{SameStatus, by-lines}

first-none : (faults rest : List MergeFault) (fault : MergeFault) → faults ≡ fault ∷ rest → faults ≡ [] → ⊥
first-none faults rest fault p q = let e : fault ∷ rest ≡ [] = sym p ∙ q in cc

pub rejected-apart : (T : Topology) (a : Reply) → IsRejected T a → IsAccepted T → ⊥
rejected-apart T a (inl p) accepted = first-none (merge_faults T) p.first.0 p.fault p.first.1 accepted.merged
rejected-apart T a (inr p) accepted = sound_has_none T p.fault accepted.sound p.first

rejected-one : (T : Topology) (a b : Reply) → IsRejected T a → IsRejected T b → SameStatus a b
rejected-one T a b (inl p) (inl q) = by-lines a b _ _ p.is q.is refl
rejected-one T a b (inl p) (inr q) = by-lines a b _ _ p.is q.is refl
rejected-one T a b (inr p) (inl q) = by-lines a b _ _ p.is q.is refl
rejected-one T a b (inr p) (inr q) = by-lines a b _ _ p.is q.is refl

pub accepted-one : (Next : Topology → Reply → Type 0) (T : Topology) (a b : Reply) → (Next T a → Next T b → SameStatus a b) → IfAccepted Next T a → IfAccepted Next T b → SameStatus a b
accepted-one Next T a b next (inl p) (inl q) = rejected-one T a b p q
accepted-one Next T a b next (inl p) (inr q) = absurd (rejected-apart T a p q.0)
accepted-one Next T a b next (inr p) (inl q) = absurd (rejected-apart T b q p.0)
accepted-one Next T a b next (inr p) (inr q) = next p.1 q.1

-- over an accepted topology the reply is the one that follows
pub after-accepted : (Next : Topology → Reply → Type 0) (T : Topology) (a : Reply) → IsAccepted T → IfAccepted Next T a → Next T a
after-accepted Next T a accepted (inl p) = absurd (rejected-apart T a p accepted)
after-accepted Next T a accepted (inr p) = p.1
