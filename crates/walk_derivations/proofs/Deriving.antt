-- A derivation makes a segment, and each segment has one: the run is cut from the front, one waiting piece for each frame.
use Rattle.std.proofs.Common.{◌≡◌, List, [], ◌∷◌, ◌++◌, refl, sym, ◌∙◌, ap, subst, inl, inr, append_assoc}
use Rattle.std.proofs.lemmas.List.{append-nil}
use Rattle.walk_grammar.specs.System.{System, Goes, Run}
use Rattle.walk_grammar.proofs.Found.{run_append, run_under}
use Rattle.walk_derivations.specs.Derivations.{Derivation, Rest, Then, Nest, steps_of, Derives}

module _ {State Frame Step : Type 0} (S : System State Frame Step) where
  -- a step that keeps the stack, behind a segment
  pub step_behind : (x z y : State) (before : List Step) (k : Step) → Run S x [] before z [] → S.Keeps z k y → Run S x [] (before ++ k ∷ []) y []
  step_behind x z y before k run is = run_append S before (k ∷ []) x [] z [] y [] run (y, [], inl (is, refl), (refl, refl))

  -- a nest, behind a segment
  pub nest_behind : (x z e v y : State) (f : Frame) (before inside : List Step) (k l : Step) → Run S x [] before z [] → S.Pushes z k f e → Run S e [] inside v [] → S.Pops v l f y
      → Run S x [] (before ++ k ∷ (inside ++ l ∷ [])) y []
  nest_behind x z e v y f before inside k l run push within pop =
      run_append S before (k ∷ (inside ++ l ∷ [])) x [] z [] y [] run (
        e,
        f ∷ [],
        inr (inl (f, push, refl)),
        run_append S inside (l ∷ []) e (f ∷ []) v (f ∷ []) y [] (run_under S inside e [] v [] (f ∷ []) within) (y, [], inr (inr (f, pop, refl)), (refl, refl)),
      )

  pub derivation_runs : (x : State) (d : Derivation Step) (y : State) → Derives S x d y → Run S x [] (steps_of d) y []
  derivation_runs x Rest y is = (is, refl)
  derivation_runs x (Then before k) y is = step_behind x is.0 y (steps_of before) k (derivation_runs x before is.0 is.1) is.2
  derivation_runs x (Nest before k inner l) y is =
      nest_behind x is.0 is.1 is.2 y is.3 (steps_of before) (steps_of inner) k l (derivation_runs x before is.0 is.4) is.5 (derivation_runs is.1 inner is.2 is.6) is.7

  -- a derivation whose push waits for its pop, on top of what waits below
  pub record Waits (Rest-of : State → List Step → Type 0) (f : Frame) (base : State) (ks : List Step) : Type 0 where
    pub under : State
    pub below : List Step
    pub waits : Rest-of under below
    pub own : Derivation Step
    pub at : State
    pub derives : Derives S under own at
    pub push : Step
    pub pushes : S.Pushes at push f base
    pub steps : ks ≡ below ++ (steps_of own ++ push ∷ [])

  abbrev pub Below : State → List Frame → State → List Step → Type 0
  Below x [] base ks = (x ≡ base) × (ks ≡ [])
  Below x (f ∷ s) base ks = Waits (Below x s) f base ks

  -- steps that came to this state and stack: what waits, and the derivation since
  pub record Held (x : State) (s : List Frame) (y : State) (ks : List Step) : Type 0 where
    pub base : State
    pub below : List Step
    pub waits : Below x s base below
    pub own : Derivation Step
    pub derives : Derives S base own y
    pub steps : ks ≡ below ++ steps_of own

  keep_held : (x : State) (s : List Frame) (y : State) (ks : List Step) (k : Step) (z : State) → S.Keeps y k z → Held x s y ks → Held x s z (ks ++ k ∷ [])
  keep_held x s y ks k z is held = record {
    base = held.base;
    below = held.below;
    waits = held.waits;
    own = Then held.own k;
    derives = (y, held.derives, is);
    steps = rw held.steps (append_assoc held.below (steps_of held.own) (k ∷ []));
  }

  push_held : (x : State) (s : List Frame) (y : State) (ks : List Step) (k : Step) (f : Frame) (z : State) → S.Pushes y k f z → Held x s y ks → Held x (f ∷ s) z (ks ++ k ∷ [])
  push_held x s y ks k f z is held = record {
    base = z;
    below = ks ++ k ∷ [];
    waits = record {
      under = held.base;
      below = held.below;
      waits = held.waits;
      own = held.own;
      at = y;
      derives = held.derives;
      push = k;
      pushes = is;
      steps = rw held.steps (append_assoc held.below (steps_of held.own) (k ∷ []));
    };
    own = Rest;
    derives = refl;
    steps = sym (append-nil (ks ++ k ∷ []));
  }

  pop_held : (x : State) (s : List Frame) (y : State) (ks : List Step) (l : Step) (f : Frame) (z : State) → S.Pops y l f z → Held x (f ∷ s) y ks → Held x s z (ks ++ l ∷ [])
  pop_held x s y ks l f z is held =
      let w : Waits (Below x s) f held.base held.below = held.waits in
      record {
        base = w.under;
        below = w.below;
        waits = w.waits;
        own = Nest w.own w.push held.own l;
        derives = (w.at, held.base, y, f, w.derives, w.pushes, held.derives, is);
        steps = rw (held.steps, w.steps) (simp append_assoc);
      }

  step_held : (x : State) (s : List Frame) (y : State) (ks : List Step) (k : Step) (z : State) (u : List Frame) → Goes S y s k z u → Held x s y ks → Held x u z (ks ++ k ∷ [])
  step_held x s y ks k z u (inl a) held = subst (λ v. Held x v z (ks ++ k ∷ [])) (sym a.1) (keep_held x s y ks k z a.0 held)
  step_held x s y ks k z u (inr (inl b)) held = subst (λ v. Held x v z (ks ++ k ∷ [])) (sym b.2) (push_held x s y ks k b.0 z b.1 held)
  step_held x s y ks k z u (inr (inr d)) held = pop_held x u y ks k d.0 z d.1 (subst (λ v. Held x v y ks) d.2 held)

  run_held : (x : State) (ls : List Step) (s : List Frame) (y : State) (ks : List Step) (z : State) (u : List Frame) → Run S y s ls z u → Held x s y ks → Held x u z (ks ++ ls)
  run_held x [] s y ks z u run held =
      subst (λ v. Held x u z v) (sym (append-nil ks)) (subst (λ v. Held x u v ks) run.0 (subst (λ v. Held x v y ks) run.1 held))
  run_held x (k ∷ ls) s y ks z u run held =
      subst (λ v. Held x u z v) (append_assoc ks (k ∷ []) ls) (run_held x ls run.1 run.0 (ks ++ k ∷ []) z u run.3 (step_held x s y ks k run.0 run.1 run.2 held))

  -- each segment is the steps of a derivation
  pub run_derives : (x : State) (ks : List Step) (y : State) → Run S x [] ks y [] → (d : Derivation Step) × Derives S x d y × (steps_of d ≡ ks)
  run_derives x ks y run =
      let last : Held x [] y ([] ++ ks) = run_held x ks [] x [] y [] run (record { base = x; below = []; waits = (refl, refl); own = Rest; derives = refl; steps = refl }) in (
        last.own,
        subst (λ v. Derives S v last.own y) (sym last.waits.0) last.derives,
        sym (last.steps ∙ ap (λ v. v ++ steps_of last.own) last.waits.1),
      )
