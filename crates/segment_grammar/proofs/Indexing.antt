-- The index from its parts: rows of flat steps, of pushes and of pops.
use Rattle.std.proofs.Common.{◌≡◌, ℕ, ◌<◌, length, refl, sym, ◌∙◌, ap, subst, Some}
use Rattle.ml_base.specs.declared.numbers.StateNo.{StateNo}
use Rattle.ml_base.specs.declared.numbers.FrameNo.{FrameNo}
use Rattle.adapt_machine.specs.Machine.{MachineValue}
use Rattle.adapt_machine.specs.declared.MachineKind.{MachineKind}
use Rattle.adapt_machine.specs.declared.MachineKind.TheVariants.{Flat, Push, Pop}
use Rattle.segment_grammar.specs.Rows.{row_of}
use Rattle.segment_grammar.specs.FrameRows.{frame_row}
use Rattle.segment_grammar.specs.Grouped.{for_flat, for_push}
use Rattle.segment_grammar.specs.Index.{IndexValue, IsFlatFrom, IsPushFrom, IsPushInto, IsPopAt, AreSteps, AreWithin, IsIndexOf}
use Rattle.segment_grammar.proofs.Numbering.{state_same}
use Rattle.segment_grammar.proofs.Filing.{lists_same}

flat_row : (kind : MachineKind) (a b : ℕ) → for_flat kind (Some a) ≡ Some b → (kind ≡ Flat) × (a ≡ b)
flat_row Flat a b e = (refl, cc)
flat_row Push a b e = absurd (cc)
flat_row Pop a b e = absurd (cc)

push_row : (kind : MachineKind) (a b : ℕ) → for_push kind (Some a) ≡ Some b → (kind ≡ Push) × (a ≡ b)
push_row Flat a b e = absurd (cc)
push_row Push a b e = (refl, cc)
push_row Pop a b e = absurd (cc)

module _ (m : MachineValue) (index : IndexValue) (count : ℕ) (states : count ≡ m.states) (same : index.states ≡ count)
    (flats : (s : ℕ) → s < count → AreSteps m (λ t. for_flat t.kind (Some t.from.0) ≡ Some s) (row_of index.flats s))
    (pushes : (s : ℕ) → s < count → AreSteps m (λ t. for_push t.kind (Some t.from.0) ≡ Some s) (row_of index.pushes s))
    (pushes_into : (s : ℕ) → s < count → AreSteps m (λ t. for_push t.kind (Some t.to.0) ≡ Some s) (row_of index.pushes_into s))
    (pops : (s : StateNo) (f : FrameNo) → AreSteps m (IsPopAt s f) (frame_row index.pops s.0 f.0)) (within : AreWithin m.steps (length m.steps) m.states) where
  below : (s : StateNo) → s.0 < m.states → s.0 < count
  below s l = subst (λ n. s.0 < n) (sym states) l

  pub index_of : IsIndexOf m index
  index_of = record {
    states_same = same ∙ states;
    within = within;
    flats = λ s l. lists_same m.steps (length m.steps) (λ t. for_flat t.kind (Some t.from.0) ≡ Some s.0) (IsFlatFrom s) (row_of index.flats s.0)
        (λ t e. let p = flat_row t.kind t.from.0 s.0 e in (p.0, state_same t.from s p.1)) (λ t h. ap (λ k. for_flat k (Some t.from.0)) h.0 ∙ ap (λ v. Some v.0) h.1) (flats s.0 (below s l));
    pushes = λ s l. lists_same m.steps (length m.steps) (λ t. for_push t.kind (Some t.from.0) ≡ Some s.0) (IsPushFrom s) (row_of index.pushes s.0)
        (λ t e. let p = push_row t.kind t.from.0 s.0 e in (p.0, state_same t.from s p.1)) (λ t h. ap (λ k. for_push k (Some t.from.0)) h.0 ∙ ap (λ v. Some v.0) h.1) (pushes s.0 (below s l));
    pushes_into = λ s l. lists_same m.steps (length m.steps) (λ t. for_push t.kind (Some t.to.0) ≡ Some s.0) (IsPushInto s) (row_of index.pushes_into s.0)
        (λ t e. let p = push_row t.kind t.to.0 s.0 e in (p.0, state_same t.to s p.1)) (λ t h. ap (λ k. for_push k (Some t.to.0)) h.0 ∙ ap (λ v. Some v.0) h.1) (pushes_into s.0 (below s l));
    pops = pops;
  }
