-- A system that does what another does: each step of the one has a step of the other, between related states, of the same cost and over related frames.
use Rattle.std.proofs.Common.{◌≡◌, ◌+◌, List, [], ◌∷◌, refl, sym, ◌∙◌, ap, subst, inl, inr}
use Rattle.walk_grammar.specs.System.{System, Origin, Request, Entry, Goes, Run, cost_of, IsEntered, IsSegmentUnder}

-- items of one list are related to those of another, one after another
abbrev pub AreRelated : {A B : Type 0} → (A → B → Type 0) → List A → List B → Type 0
AreRelated R [] ys = ys ≡ []
AreRelated R (x ∷ xs) [] = ⊥
AreRelated R (x ∷ xs) (y ∷ ys) = R x y × AreRelated R xs ys

-- how the states, frames and steps of two systems belong together
pub record Relating (State Frame Step State' Frame' Step' : Type 0) : Type 1 where
  pub states : State → State' → Type 0
  pub frames : Frame → Frame' → Type 0
  pub steps : Step → Step' → Type 0

pub record Does {State Frame Step State' Frame' Step' : Type 0} (S : System State Frame Step) (S' : System State' Frame' Step') (R : Relating State Frame Step State' Frame' Step')
    (k : Step) (y : State) (Goal : Step' → State' → Type 0) : Type 0 where
  pub step : Step'
  pub to : State'
  pub same_step : R.steps k step
  pub same_to : R.states y to
  pub cost : S'.cost step ≡ S.cost k
  pub does : Goal step to

pub record Simulates {State Frame Step State' Frame' Step' : Type 0} (S : System State Frame Step) (S' : System State' Frame' Step') (R : Relating State Frame Step State' Frame' Step')
    (Start : State → Type 0) (Start' : State' → Type 0) : Type 0 where
  pub keeps : (x : State) (k : Step) (y : State) (x' : State') → S.Keeps x k y → R.states x x' → Does S S' R k y (λ k' y'. S'.Keeps x' k' y')
  pub pushes : (x : State) (k : Step) (f : Frame) (y : State) (x' : State') → S.Pushes x k f y → R.states x x' → Does S S' R k y (λ k' y'. (f' : Frame') × R.frames f f' × S'.Pushes x' k' f' y')
  pub pops : (x : State) (k : Step) (f : Frame) (y : State) (x' : State') (f' : Frame') → S.Pops x k f y → R.states x x' → R.frames f f' → Does S S' R k y (λ k' y'. S'.Pops x' k' f' y')
  pub starts : (x : State) → Start x → (x' : State') × R.states x x' × Start' x'
  pub one : (x : State) (x' x'' : State') → R.states x x' → R.states x x'' → x' ≡ x''

module _ {State Frame Step State' Frame' Step' : Type 0} (S : System State Frame Step) (S' : System State' Frame' Step') (R : Relating State Frame Step State' Frame' Step')
    (Start : State → Type 0) (Start' : State' → Type 0) (sim : Simulates S S' R Start Start') where
  -- a step with its stacks
  pub record Gone (x' : State') (s' : List Frame') (k : Step) (y : State) (u : List Frame) : Type 0 where
    pub step : Step'
    pub to : State'
    pub left : List Frame'
    pub same_step : R.steps k step
    pub same_to : R.states y to
    pub same_left : AreRelated R.frames u left
    pub cost : S'.cost step ≡ S.cost k
    pub goes : Goes S' x' s' step to left

  gone_keeps : (x : State) (s : List Frame) (k : Step) (y : State) (u : List Frame) (x' : State') (s' : List Frame') → S.Keeps x k y → u ≡ s → R.states x x' → AreRelated R.frames s s' → Gone x' s' k y u
  gone_keeps x s k y u x' s' is same at stack =
      let d = sim.keeps x k y x' is at in
      record {
        step = d.step;
        to = d.to;
        left = s';
        same_step = d.same_step;
        same_to = d.same_to;
        same_left = subst (λ v. AreRelated R.frames v s') (sym same) stack;
        cost = d.cost;
        goes = inl (d.does, refl);
      }

  gone_pushes : (x : State) (s : List Frame) (k : Step) (f : Frame) (y : State) (u : List Frame) (x' : State') (s' : List Frame') → S.Pushes x k f y → u ≡ f ∷ s → R.states x x' → AreRelated R.frames s s' → Gone x' s' k y u
  gone_pushes x s k f y u x' s' is same at stack =
      let d = sim.pushes x k f y x' is at in
      record {
        step = d.step;
        to = d.to;
        left = d.does.0 ∷ s';
        same_step = d.same_step;
        same_to = d.same_to;
        same_left = subst (λ v. AreRelated R.frames v (d.does.0 ∷ s')) (sym same) (d.does.1, stack);
        cost = d.cost;
        goes = inr (inl (d.does.0, d.does.2, refl));
      }

  gone_pops : (x : State) (s : List Frame) (k : Step) (f : Frame) (y : State) (u : List Frame) (x' : State') (s' : List Frame') → S.Pops x k f y → s ≡ f ∷ u → R.states x x' → AreRelated R.frames (f ∷ u) s' → Gone x' s' k y u
  gone_pops x s k f y u x' [] is same at stack = absurd stack
  gone_pops x s k f y u x' (f' ∷ u') is same at stack =
      let d = sim.pops x k f y x' f' is at stack.0 in
      record {
        step = d.step;
        to = d.to;
        left = u';
        same_step = d.same_step;
        same_to = d.same_to;
        same_left = stack.1;
        cost = d.cost;
        goes = inr (inr (f', d.does, refl));
      }

  gone : (x : State) (s : List Frame) (k : Step) (y : State) (u : List Frame) (x' : State') (s' : List Frame') → Goes S x s k y u → R.states x x' → AreRelated R.frames s s' → Gone x' s' k y u
  gone x s k y u x' s' (inl a) at stack = gone_keeps x s k y u x' s' a.0 a.1 at stack
  gone x s k y u x' s' (inr (inl b)) at stack = gone_pushes x s k b.0 y u x' s' b.1 b.2 at stack
  gone x s k y u x' s' (inr (inr d)) at stack = gone_pops x s k d.0 y u x' s' d.1 d.2 at (subst (λ v. AreRelated R.frames v s') d.2 stack)

  -- a run with its stacks
  pub record Went (x' : State') (s' : List Frame') (ks : List Step) (y : State) (u : List Frame) : Type 0 where
    pub steps : List Step'
    pub to : State'
    pub left : List Frame'
    pub same_steps : AreRelated R.steps ks steps
    pub same_to : R.states y to
    pub same_left : AreRelated R.frames u left
    pub cost : cost_of S' steps ≡ cost_of S ks
    pub run : Run S' x' s' steps to left

  one_more : (x' : State') (s' : List Frame') (k : Step) (z : State) (t : List Frame) (ks : List Step) (y : State) (u : List Frame) (g : Gone x' s' k z t) → Went g.to g.left ks y u → Went x' s' (k ∷ ks) y u
  one_more x' s' k z t ks y u g w = record {
    steps = g.step ∷ w.steps;
    to = w.to;
    left = w.left;
    same_steps = (g.same_step, w.same_steps);
    same_to = w.same_to;
    same_left = w.same_left;
    cost = ap (λ c. c + cost_of S' w.steps) g.cost ∙ ap (λ c. S.cost k + c) w.cost;
    run = (g.to, g.left, g.goes, w.run);
  }

  went : (ks : List Step) (x : State) (s : List Frame) (y : State) (u : List Frame) (x' : State') (s' : List Frame') → Run S x s ks y u → R.states x x' → AreRelated R.frames s s' → Went x' s' ks y u
  went [] x s y u x' s' run at stack = record {
    steps = [];
    to = x';
    left = s';
    same_steps = refl;
    same_to = subst (λ z. R.states z x') run.0 at;
    same_left = subst (λ v. AreRelated R.frames v s') run.1 stack;
    cost = refl;
    run = (refl, refl);
  }
  went (k ∷ ks) x s y u x' s' run at stack =
      let g = gone x s k run.0 run.1 x' s' run.2 at stack in
      one_more x' s' k run.0 run.1 ks y u g (went ks run.0 run.1 y u g.to g.left run.3 g.same_to g.same_left)

  -- Segments

  -- roots that belong together
  abbrev pub AreRoots : Origin State → Origin State' → Type 0
  AreRoots Request Request = Unit {0}
  AreRoots Request (Entry x') = ⊥
  AreRoots (Entry x) Request = ⊥
  AreRoots (Entry x) (Entry x') = R.states x x'

  -- a segment to a related state
  pub record Stands (root' : Origin State') (ks : List Step) (y' : State') : Type 0 where
    pub steps : List Step'
    pub same_steps : AreRelated R.steps ks steps
    pub cost : cost_of S' steps ≡ cost_of S ks
    pub segment : IsSegmentUnder S' Start' root' steps y'

  run_stands : (ks : List Step) (y : State) (x' y' : State') (w : Went x' [] ks y []) → R.states y y' → Run S' x' [] w.steps y' []
  run_stands ks y x' y' w at =
      subst (λ v. Run S' x' [] w.steps y' v) w.same_left (subst (λ z. Run S' x' [] w.steps z w.left) (sim.one y w.to y' w.same_to at) w.run)

  entered : (x : State) (x' : State') → R.states x x' → IsEntered S Start x → IsEntered S' Start' x'
  entered x x' at is =
      let a = sim.starts is.0 is.1 in
      let w = went is.2.0 is.0 [] is.2.1 is.2.2 a.0 [] is.2.3 a.1 refl in
      let d = sim.pushes is.2.1 is.2.4.0 is.2.4.1 x w.to is.2.4.2 w.same_to in
      (a.0, a.2, (w.steps, w.to, w.left, w.run, (d.step, d.does.0, subst (λ z. S'.Pushes w.to d.step d.does.0 z) (sim.one x d.to x' d.same_to at) d.does.2)))

  pub stands : (root : Origin State) (root' : Origin State') (ks : List Step) (y : State) (y' : State') → AreRoots root root' → R.states y y' → IsSegmentUnder S Start root ks y → Stands root' ks y'
  stands Request Request ks y y' roots at is =
      let a = sim.starts is.0 is.1 in
      let w = went ks is.0 [] y [] a.0 [] is.2 a.1 refl in
      record { steps = w.steps; same_steps = w.same_steps; cost = w.cost; segment = (a.0, a.2, run_stands ks y a.0 y' w at) }
  stands Request (Entry x') ks y y' roots at is = absurd roots
  stands (Entry x) Request ks y y' roots at is = absurd roots
  stands (Entry x) (Entry x') ks y y' roots at is =
      let w = went ks x [] y [] x' [] is.1 roots refl in
      record { steps = w.steps; same_steps = w.same_steps; cost = w.cost; segment = (entered x x' roots is.0, run_stands ks y x' y' w at) }

  -- related states of the root and of the end of a segment
  pub root_met : (x : State) → IsEntered S Start x → (x' : State') × R.states x x'
  root_met x is =
      let a = sim.starts is.0 is.1 in
      let w = went is.2.0 is.0 [] is.2.1 is.2.2 a.0 [] is.2.3 a.1 refl in
      let d = sim.pushes is.2.1 is.2.4.0 is.2.4.1 x w.to is.2.4.2 w.same_to in
      (d.to, d.same_to)

  pub end_met : (root : Origin State) (ks : List Step) (y : State) → IsSegmentUnder S Start root ks y → (y' : State') × R.states y y'
  end_met Request ks y is =
      let a = sim.starts is.0 is.1 in
      let w = went ks is.0 [] y [] a.0 [] is.2 a.1 refl in
      (w.to, w.same_to)
  end_met (Entry x) ks y is =
      let e = root_met x is.0 in
      let w = went ks x [] y [] e.0 [] is.1 e.1 refl in
      (w.to, w.same_to)
