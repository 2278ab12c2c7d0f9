-- A text has one verdict: it spells one answer, or it has one first line that does not fit.
use Rattle.std.proofs.Common.{◌≡◌, ◌+◌, ℕ, inl, inr, List, [], ◌∷◌, ◌++◌, length, refl, sym, ◌∙◌, ap, subst, append_assoc, append-nil}
use Rattle.std.proofs.lemmas.List.{append_cancel_left}
use Rattle.circuit_spec.specs.Network.{Topology}
use Rattle.circuit_spec.proofs.Ends.{Behind, splits}
use Rattle.line_text.specs.Lines.{Line, IsFirstMisfit, IsFront, Misfits, pieces, text_of}
use Rattle.line_text.proofs.Words.{pieces_again}
use Rattle.answer_spec.specs.declared.answer.Answer.{Answer}
use Rattle.answer_spec.specs.Certificate.{Certificate}
use Rattle.answer_spec.specs.WellFormed.{IsWellFormed}
use Rattle.answer_text.specs.Spelling.{IsDocument, lines_of}
use Rattle.answer_text.proofs.AnswerLaws.{lines_whole}
use Rattle.verdict.specs.declared.rules.Rule.{Rule}
use Rattle.verdict.specs.declared.verdicts.Verdict.{Verdict}
use Rattle.verdict.specs.declared.verdicts.Verdict.TheVariants.{Valid, NotValid}
use Rattle.verdict.specs.Faults.{IsFirstFault}
use Rattle.verdict.specs.Verdicts.{IsSpelledBy, IsVerdict}
use Rattle.verdict.proofs.OneFault.{no_certificate, one_fault}

-- ---- lines that do not fit

-- what is not last among the pieces does not fit behind the lines before it, so no document begins with both
not_in_front : (D : List Line → Type 0) (before : List Line) (p : Line) (rest more : List Line) (q : Line) (last : List Line) → Misfits D before (p ∷ rest) → rest ≡ more ++ q ∷ last → IsFront D (before ++ p ∷ more) → ⊥
not_in_front D before p [] [] q last misfit same front = absurd cc
not_in_front D before p [] (m ∷ more) q last misfit same front = absurd cc
not_in_front D before p (next ∷ rest) more q last misfit same front =
    misfit (more ++ front.0, subst D (append_assoc before (p ∷ more) front.0 ∙ sym (append_assoc before (p ∷ []) (more ++ front.0))) front.1)

behind_misfit : (D : List Line → Type 0) (before : List Line) (p : Line) (rest after : List Line) (q : Line) (last : List Line) → before ++ p ∷ rest ≡ after ++ q ∷ last → Misfits D before (p ∷ rest) → Behind before p after → IsFront D after → ⊥
behind_misfit D before p rest after q last same misfit behind front =
    let moved = same ∙ ap (λ (ls : List Line). ls ++ q ∷ last) behind.whole ∙ append_assoc before (p ∷ behind.more) (q ∷ last) in
    let cut : p ∷ rest ≡ p ∷ (behind.more ++ q ∷ last) = append_cancel_left before (p ∷ rest) (p ∷ (behind.more ++ q ∷ last)) moved in
    let left : rest ≡ behind.more ++ q ∷ last = cc in
    not_in_front D before p rest behind.more q last misfit left (subst (IsFront D) behind.whole front)

one_place : (D : List Line → Type 0) (b r c s : List Line) → b ++ r ≡ c ++ s → IsFront D b → Misfits D b r → IsFront D c → Misfits D c s → length b ≡ length c
one_place D b [] c s same f m g n = absurd m
one_place D b (p ∷ r) c [] same f m g n = absurd n
one_place D b (p ∷ r) c (q ∷ s) same f m g n =
    elim (splits b p r c q s same) [
      | inl e ↦ ap length e.0
      | inr more ↦ elim more [
        | inl behind ↦ absurd (behind_misfit D b p r c q s same m behind g)
        | inr behind ↦ absurd (behind_misfit D c q s b p r (sym same) n behind f)
      ]
    ]

one_misfit : (D : List Line → Type 0) (bytes : List ℕ) (m n : ℕ) → IsFirstMisfit D bytes m → IsFirstMisfit D bytes n → m ≡ n
one_misfit D bytes m n f g =
    let same = one_place D f.before f.rest g.before g.rest (sym f.parts ∙ g.parts) f.front f.misfit g.front g.misfit in
    f.number ∙ ap (λ (k : ℕ). k + 1) same ∙ sym g.number

-- all pieces of a document fit
pieces_fit : (D : List Line → Type 0) (before rest lines : List Line) → before ++ rest ≡ lines ++ [] ∷ [] → D lines → Misfits D before rest → ⊥
pieces_fit D before [] lines same document misfit = misfit
pieces_fit D before (p ∷ rest) lines same document misfit =
    elim (splits before p rest lines [] [] same) [
      | inl e ↦ last rest e.0 e.1 e.2 misfit
      | inr more ↦ elim more [
        | inl behind ↦ behind_misfit D before p rest lines [] [] same misfit behind ([], subst D (sym (append-nil lines)) document)
        | inr behind ↦ past behind
      ]
    ]
  where
    last : (rest : List Line) → before ≡ lines → p ≡ [] → rest ≡ [] → Misfits D before (p ∷ rest) → ⊥
    last [] e f g m = m (f, subst D (sym e) document)
    last (q ∷ qs) e f g m = absurd cc

    none : (more : List Line) → [] ≡ more ++ p ∷ rest → ⊥
    none [] e = absurd cc
    none (m ∷ more) e = absurd cc

    past : Behind lines [] before → ⊥
    past behind =
        let moved = sym same ∙ ap (λ (ls : List Line). ls ++ p ∷ rest) behind.whole ∙ append_assoc lines ([] ∷ behind.more) (p ∷ rest) in
        let cut : ([] ∷ []) ≡ [] ∷ (behind.more ++ p ∷ rest) = append_cancel_left lines ([] ∷ []) ([] ∷ (behind.more ++ p ∷ rest)) moved in
        none behind.more cc

spelled_fits : (bytes : List ℕ) (a : Answer) (n : ℕ) → IsSpelledBy bytes a → IsFirstMisfit IsDocument bytes n → ⊥
spelled_fits bytes a n s m =
    let is = ap pieces s.spelled ∙ pieces_again (lines_of a) (lines_whole a s.well_formed) in
    pieces_fit IsDocument m.before m.rest (lines_of a) (sym m.parts ∙ is) (a, s.well_formed, refl) m.misfit

-- ---- verdicts

module _ (one_answer : (a b : Answer) → IsWellFormed a → IsWellFormed b → text_of (lines_of a) ≡ text_of (lines_of b) → a ≡ b) where
  same_answer : (bytes : List ℕ) (a b : Answer) → IsSpelledBy bytes a → IsSpelledBy bytes b → a ≡ b
  same_answer bytes a b s t = one_answer a b s.well_formed t.well_formed (sym s.spelled ∙ t.spelled)

  valid_alone : (T : Topology) (bytes : List ℕ) (a : Answer) (line : ℕ) (broken : Rule) → IsSpelledBy bytes a → Certificate T a → IsVerdict T bytes (NotValid line broken) → ⊥
  valid_alone T bytes a line broken s c (inl g) = spelled_fits bytes a line s g.1
  valid_alone T bytes a line broken s c (inr g) = no_certificate T g.0 broken line g.2 (subst (Certificate T) (same_answer bytes a g.0 s g.1) c)

  same_fault : (T : Topology) (bytes : List ℕ) (m n : ℕ) (r s : Rule) → IsVerdict T bytes (NotValid m r) → IsVerdict T bytes (NotValid n s) → (r ≡ s) × (m ≡ n)
  same_fault T bytes m n r s (inl f) (inl g) = (f.0 ∙ sym g.0, one_misfit IsDocument bytes m n f.1 g.1)
  same_fault T bytes m n r s (inl f) (inr g) = absurd (spelled_fits bytes g.0 m g.1 f.1)
  same_fault T bytes m n r s (inr f) (inl g) = absurd (spelled_fits bytes f.0 n f.1 g.1)
  same_fault T bytes m n r s (inr f) (inr g) =
      one_fault T f.0 r s m n f.2 (subst (λ (a : Answer). IsFirstFault T a s n) (same_answer bytes g.0 f.0 g.1 f.1) g.2)

  pub one_verdict : (T : Topology) (bytes : List ℕ) (x y : Verdict) → IsVerdict T bytes x → IsVerdict T bytes y → x ≡ y
  one_verdict T bytes (Valid o) (Valid p) f g = ap Valid (sym f.3 ∙ ap (λ (a : Answer). a.outcome) (same_answer bytes f.0 g.0 f.1 g.1) ∙ g.3)
  one_verdict T bytes (Valid o) (NotValid n s) f g = absurd (valid_alone T bytes f.0 n s f.1 f.2 g)
  one_verdict T bytes (NotValid m r) (Valid p) f g = absurd (valid_alone T bytes g.0 m r g.1 g.2 f)
  one_verdict T bytes (NotValid m r) (NotValid n s) f g =
      let same = same_fault T bytes m n r s f g in
      ap (λ (line : ℕ). NotValid line r) same.1 ∙ ap (NotValid n) same.0
