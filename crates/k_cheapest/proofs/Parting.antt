-- How a segment under a root ends, and what ends so.
use Rattle.std.proofs.Common.{◌≡◌, ◌⊎◌, ℕ, List, [], ◌∷◌, ◌++◌, length, refl, sym, subst, inl, inr, Contains}
use Rattle.ml_base.specs.declared.numbers.StateNo.{StateNo}
use Rattle.ml_base.specs.declared.numbers.FrameNo.{FrameNo}
use Rattle.ml_base.specs.declared.numbers.Root.{Root}
use Rattle.ml_base.specs.declared.numbers.Root.TheVariants.{Request, Entry}
use Rattle.walk_grammar.specs.System as walk
use Rattle.walk_grammar.specs.System.{System, Run, cost_of}
use Rattle.walk_grammar.proofs.Found.{IsFound, found_opens}
use Rattle.walk_derivations.specs.Derivations.{Derivation, Rest, Then, Nest, steps_of, Derives}
use Rattle.walk_derivations.proofs.Deriving.{step_behind, nest_behind, derivation_runs, run_derives}
use Rattle.adapt_machine.specs.declared.MachineStep.{MachineStep}
use Rattle.adapt_machine.specs.Walks.{system_of}
use Rattle.segment_grammar.specs.Reached.{origin_of, IsSegmentUnder}
use Rattle.k_cheapest.specs.declared.choice.Choice.{Choice}
use Rattle.k_cheapest.specs.Choices.{BeginsAt, IsChoice, Chooses, ChoosesAny, ChoosesNone, ChoosesFlat, ChoosesNest, ChoosesStep, ChoosesSome}

module _ (steps : List MachineStep) (starts : List StateNo) where
  abbrev S : System StateNo FrameNo ℕ
  S = system_of steps

  abbrev Start : StateNo → Type 0
  Start a = Contains starts a

  -- where the segments of a root begin
  abbrev Base : Root → StateNo → Type 0
  Base Request b = Contains starts b
  Base (Entry e) b = walk.IsEntered S Start e × (e ≡ b)

  pub based : (root : Root) (us : List ℕ) (y : StateNo) → IsSegmentUnder steps starts root us y → (b : StateNo) × Base root b × Run S b [] us y []
  based Request us y is = (is.0, is.1, is.2)
  based (Entry e) us y is = (e, (is.0, refl), is.1)

  pub rooted : (root : Root) (b : StateNo) (us : List ℕ) (y : StateNo) → Base root b → Run S b [] us y [] → IsSegmentUnder steps starts root us y
  rooted Request b us y at run = (b, at, run)
  rooted (Entry e) b us y at run = (at.0, subst (λ v. Run S v [] us y []) (sym at.1) run)

  -- a push behind a segment enters its state
  pub entered : (root : Root) (us : List ℕ) (x e : StateNo) (k : ℕ) (f : FrameNo) → IsSegmentUnder steps starts root us x → S.Pushes x k f e → walk.IsEntered S Start e
  entered root us x e k f is push =
      let at : IsFound S Start (origin_of root) x (cost_of S us) (length us) = record { segment = us; is_segment = is; cost = refl; hops = refl } in
      let found : IsFound S Start (walk.Entry e) e 0 0 = found_opens S Start (origin_of root) x (cost_of S us) (length us) at k f e push in
      found.is_segment.0

  parted : (c : Choice) (b : StateNo) (d : Derivation ℕ) (ks : List ℕ) → Base c.root b → Derives S b d c.state → Chooses steps starts c (steps_of d) ks
      → ChoosesNone steps starts c ks ⊎ ChoosesSome steps starts c ks
  parted c b Rest ks at is chosen = inl (rooted c.root b [] c.state at (is, refl), chosen)
  parted c b (Then before k) ks at is chosen =
      inr (k, inl (steps_of before, is.0, rooted c.root b (steps_of before) is.0 at (derivation_runs S b before is.0 is.1), is.2, chosen))
  parted c b (Nest before k inner l) ks at is chosen =
      let prev : IsSegmentUnder steps starts c.root (steps_of before) is.0 = rooted c.root b (steps_of before) is.0 at (derivation_runs S b before is.0 is.4) in
      inr (
        l,
        inr (
          k,
          (
            steps_of before,
            steps_of inner,
            is.0,
            is.1,
            is.2,
            is.3,
            prev,
            is.5,
            (entered c.root (steps_of before) is.0 is.1 k is.3 prev is.5, derivation_runs S is.1 inner is.2 is.6),
            is.7,
            chosen,
          ),
        ),
      )

  -- a segment is empty, or it has a last step
  pub any_parts : (c : Choice) (ks : List ℕ) → ChoosesAny steps starts c ks → ChoosesNone steps starts c ks ⊎ ChoosesSome steps starts c ks
  any_parts c ks any =
      let at : (b : StateNo) × Base c.root b × Run S b [] any.0 c.state [] = based c.root any.0 c.state any.1 in
      let d : (d : Derivation ℕ) × Derives S at.0 d c.state × (steps_of d ≡ any.0) = run_derives S at.0 any.0 c.state at.2 in
      parted c at.0 d.0 ks at.1 d.1 (subst (λ v. Chooses steps starts c v ks) (sym d.2) any.2)

  pub none_any : (c : Choice) (ks : List ℕ) → ChoosesNone steps starts c ks → ChoosesAny steps starts c ks
  none_any c ks none = ([], none.0, none.1)

  flat_any : (c : Choice) (k : ℕ) (ks : List ℕ) → ChoosesFlat steps starts c k ks → ChoosesAny steps starts c ks
  flat_any c k ks flat =
      let at : (b : StateNo) × Base c.root b × Run S b [] flat.0 flat.1 [] = based c.root flat.0 flat.1 flat.2 in
      (flat.0 ++ k ∷ [], rooted c.root at.0 (flat.0 ++ k ∷ []) c.state at.1 (step_behind S at.0 flat.1 c.state flat.0 k at.2 flat.3), flat.4)

  nest_any : (c : Choice) (k l : ℕ) (ks : List ℕ) → ChoosesNest steps starts c k l ks → ChoosesAny steps starts c ks
  nest_any c k l ks nest =
      let at : (b : StateNo) × Base c.root b × Run S b [] nest.0 nest.2 [] = based c.root nest.0 nest.2 nest.6 in (
        nest.0 ++ k ∷ (nest.1 ++ l ∷ []),
        rooted c.root at.0 (nest.0 ++ k ∷ (nest.1 ++ l ∷ [])) c.state at.1
            (nest_behind S at.0 nest.2 nest.3 nest.4 c.state nest.5 nest.0 nest.1 k l at.2 nest.7 nest.8.1 nest.9),
        nest.10,
      )

  step_any : (c : Choice) (l : ℕ) (ks : List ℕ) → ChoosesStep steps starts c l ks → ChoosesAny steps starts c ks
  step_any c l ks (inl flat) = flat_any c l ks flat
  step_any c l ks (inr nest) = nest_any c nest.0 l ks nest.1

  pub some_any : (c : Choice) (ks : List ℕ) → ChoosesSome steps starts c ks → ChoosesAny steps starts c ks
  some_any c ks some = step_any c some.0 ks some.1

  -- the empty segment ends where a segment may begin, if any ends there
  pub begins_empty : (c : Choice) → IsChoice steps starts c → BeginsAt starts c.root c.state → IsSegmentUnder steps starts c.root [] c.state
  begins_empty c is begins = by_root c.root c.state is.reached.0 is.reached.1 begins where
    by_root : (root : Root) (y : StateNo) (us : List ℕ) → IsSegmentUnder steps starts root us y → BeginsAt starts root y → IsSegmentUnder steps starts root [] y
    by_root Request y us is begins = (y, begins, (refl, refl))
    by_root (Entry e) y us is begins = (is.0, (begins, refl))

  pub empty_begins : (root : Root) (y : StateNo) → IsSegmentUnder steps starts root [] y → BeginsAt starts root y
  empty_begins Request y is = subst (λ v. Contains starts v) is.2.0 is.1
  empty_begins (Entry e) y is = is.1.0
