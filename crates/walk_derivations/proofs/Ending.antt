-- Where steps tell what they do to the stack, a segment ends in one way, and so has one derivation: had it two, the inner part of
-- one would run through a place where the other has popped every frame.
use Rattle.std.proofs.Common.{◌≡◌, ◌⊎◌, ℕ, ◌+◌, List, [], ◌∷◌, ◌++◌, length, refl, sym, ◌∙◌, ap, subst, inl, inr, arith, append_assoc}
use Rattle.walk_grammar.specs.System.{System, Goes, Run}
use Rattle.walk_derivations.specs.Derivations.{Derivation, Rest, Then, Nest, steps_of, Derives}
use Rattle.walk_derivations.specs.Endings.{Ending, WithStep, WithNest, EndsAs, HaveKinds}
use Rattle.walk_derivations.proofs.Parting.{Same, Later, Sooner, parts, not_empty, Ends, ends}
use Rattle.walk_derivations.proofs.Deriving.{derivation_runs, run_derives}

module _ {State Frame Step : Type 0} (S : System State Frame Step) where
  -- How many frames there are along a run.

  abbrev Keeping : Step → Type 0
  Keeping k = (x : State) × (y : State) × S.Keeps x k y

  abbrev Pushing : Step → Type 0
  Pushing k = (x : State) × (f : Frame) × (y : State) × S.Pushes x k f y

  abbrev Popping : Step → Type 0
  Popping k = (x : State) × (f : Frame) × (y : State) × S.Pops x k f y

  -- the step goes from `n` frames to `m`
  abbrev Steps-from : ℕ → Step → ℕ → Type 0
  Steps-from n k m = (Keeping k × (m ≡ n)) ⊎ ((Pushing k × (m ≡ n + 1)) ⊎ (Popping k × (n ≡ m + 1)))

  -- the steps go from `n` frames to `m`
  abbrev Rises : ℕ → List Step → ℕ → Type 0
  Rises n [] m = n ≡ m
  Rises n (k ∷ ks) m = (j : ℕ) × Steps-from n k j × Rises j ks m

  goes_from : (x : State) (s : List Frame) (k : Step) (y : State) (u : List Frame) → Goes S x s k y u → Steps-from (length s) k (length u)
  goes_from x s k y u (inl a) = inl ((x, y, a.0), ap length a.1)
  goes_from x s k y u (inr (inl b)) = inr (inl ((x, b.0, y, b.1), (let e : length u ≡ length (b.0 ∷ s) = ap length b.2 in omega arith)))
  goes_from x s k y u (inr (inr d)) = inr (inr ((x, d.0, y, d.1), (let e : length s ≡ length (d.0 ∷ u) = ap length d.2 in omega arith)))

  run_rises : (ks : List Step) (x : State) (s : List Frame) (y : State) (u : List Frame) → Run S x s ks y u → Rises (length s) ks (length u)
  run_rises [] x s y u run = ap length run.1
  run_rises (k ∷ ks) x s y u run = (length run.1, goes_from x s k run.0 run.1 run.2, run_rises ks run.0 run.1 y u run.3)

  record Parted (n : ℕ) (us : List Step) (a : Step) (vs : List Step) (m : ℕ) : Type 0 where
    here : ℕ
    next : ℕ
    first : Rises n us here
    middle : Steps-from here a next
    last : Rises next vs m

  part_rises : (us : List Step) (a : Step) (vs : List Step) (n m : ℕ) → Rises n (us ++ a ∷ vs) m → Parted n us a vs m
  part_rises [] a vs n m is = record { here = n; next = is.0; first = refl; middle = is.1; last = is.2 }
  part_rises (k ∷ us) a vs n m is =
      let p : Parted is.0 us a vs m = part_rises us a vs is.0 m is.2 in
      record { here = p.here; next = p.next; first = (is.0, is.1, p.first); middle = p.middle; last = p.last }

module _ {State Frame Step : Type 0} (S : System State Frame Step) (kinds : HaveKinds S) where
  -- The same step changes the number of frames by the same, wherever it is taken.
  step_same : (k : Step) (n m n' m' : ℕ) → Steps-from S n k m → Steps-from S n' k m' → n + m' ≡ n' + m
  step_same k n m n' m' (inl a) (inl b) = omega (arith, a.1, b.1)
  step_same k n m n' m' (inl a) (inr (inl b)) = absurd (kinds.keeps_or_pushes k a.0.0 a.0.1 b.0.0 b.0.2 b.0.1 a.0.2 b.0.3)
  step_same k n m n' m' (inl a) (inr (inr b)) = absurd (kinds.keeps_or_pops k a.0.0 a.0.1 b.0.0 b.0.2 b.0.1 a.0.2 b.0.3)
  step_same k n m n' m' (inr (inl a)) (inl b) = absurd (kinds.keeps_or_pushes k b.0.0 b.0.1 a.0.0 a.0.2 a.0.1 b.0.2 a.0.3)
  step_same k n m n' m' (inr (inl a)) (inr (inl b)) = omega (arith, a.1, b.1)
  step_same k n m n' m' (inr (inl a)) (inr (inr b)) = absurd (kinds.pushes_or_pops k a.0.0 a.0.2 b.0.0 b.0.2 a.0.1 b.0.1 a.0.3 b.0.3)
  step_same k n m n' m' (inr (inr a)) (inl b) = absurd (kinds.keeps_or_pops k b.0.0 b.0.1 a.0.0 a.0.2 a.0.1 b.0.2 a.0.3)
  step_same k n m n' m' (inr (inr a)) (inr (inl b)) = absurd (kinds.pushes_or_pops k b.0.0 b.0.2 a.0.0 a.0.2 b.0.1 a.0.1 b.0.3 a.0.3)
  step_same k n m n' m' (inr (inr a)) (inr (inr b)) = omega (arith, a.1, b.1)

  rises_same : (ks : List Step) (n m n' m' : ℕ) → Rises S n ks m → Rises S n' ks m' → n + m' ≡ n' + m
  rises_same [] n m n' m' a b = omega (arith, a, b)
  rises_same (k ∷ ks) n m n' m' a b = omega (arith, step_same k n a.0 n' b.0 a.1 b.1, rises_same ks a.0 m b.0 m' a.2 b.2)

  -- A segment, a push and a part of a segment are no segment: a frame is left.
  frame_left : (us ws vs : List Step) (a b : Step) → Rises S 0 us 0 → Pushing S a → Rises S 0 (ws ++ b ∷ vs) 0 → Rises S 0 (us ++ a ∷ ws) 0 → ⊥
  frame_left us ws vs a b first push inner whole =
      let p : Parted S 0 us a ws 0 = part_rises S us a ws 0 0 whole in
      let q : Parted S 0 ws b vs 0 = part_rises S ws b vs 0 0 inner in
      let here : 0 + p.here ≡ 0 + 0 = rises_same us 0 0 0 p.here first p.first in
      let next : p.here + (0 + 1) ≡ 0 + p.next = step_same a p.here p.next 0 (0 + 1) p.middle (inr (inl (push, refl))) in
      let left : p.next + q.here ≡ 0 + 0 = rises_same ws p.next 0 0 q.here p.last q.first in
      omega arith

  -- segments by their frames alone
  level : (ks : List Step) (x y : State) → Run S x [] ks y [] → Rises S 0 ks 0
  level ks x y run = run_rises S ks x [] y [] run

  nests_same : (us vs us' vs' : List Step) (a b a' b' : Step) → Rises S 0 us 0 → Pushing S a → Rises S 0 vs 0 → Rises S 0 us' 0 → Pushing S a' → Rises S 0 vs' 0
      → us ++ a ∷ (vs ++ b ∷ []) ≡ us' ++ a' ∷ (vs' ++ b' ∷ []) → WithNest us a vs b ≡ WithNest us' a' vs' b'
  nests_same us vs us' vs' a b a' b' first push inner first' push' inner' e =
      let regrouped : (us ++ a ∷ vs) ++ b ∷ [] ≡ (us' ++ a' ∷ vs') ++ b' ∷ [] = simp append_assoc e in
      let last : Ends (us ++ a ∷ vs) (us' ++ a' ∷ vs') b b' = ends (us ++ a ∷ vs) (us' ++ a' ∷ vs') b b' regrouped in
      elim (parts us a vs us' a' vs' last.before) [
        | Same p q r ↦ cc
        | Later ws p q ↦ absurd (frame_left us ws vs' a a' first push (subst (λ v. Rises S 0 v 0) q inner) (subst (λ v. Rises S 0 v 0) p first'))
        | Sooner ws p q ↦ absurd (frame_left us' ws vs a' a first' push' (subst (λ v. Rises S 0 v 0) q inner') (subst (λ v. Rises S 0 v 0) p first))
      ]

  -- what ends with a nest does not end with a step
  step_or_nest : (before us vs : List Step) (k a b : Step) → Keeping S k → Popping S b → before ++ k ∷ [] ≡ us ++ a ∷ (vs ++ b ∷ []) → ⊥
  step_or_nest before us vs k a b keep pop e =
      let regrouped : before ++ k ∷ [] ≡ (us ++ a ∷ vs) ++ b ∷ [] = simp append_assoc e in
      let last : Ends before (us ++ a ∷ vs) k b = ends before (us ++ a ∷ vs) k b regrouped in
      let pop' : Popping S k = subst (Popping S) (sym last.last) pop in
      kinds.keeps_or_pops k keep.0 keep.1 pop'.0 pop'.2 pop'.1 keep.2 pop'.3

  -- the steps alone tell how a segment ends
  pub endings_same : (ks : List Step) (x y v z : State) (one other : Ending Step) → EndsAs S x ks y one → EndsAs S v ks z other → one ≡ other
  endings_same ks x y v z (WithStep before k) (WithStep before' k') a b =
      let last : Ends before before' k k' = ends before before' k k' (sym a.1 ∙ b.1) in
      cc
  endings_same ks x y v z (WithStep before k) (WithNest us p vs q) a b = absurd (step_or_nest before us vs k p q (a.0, y, a.3) (b.2, b.3, z, b.8) (sym a.1 ∙ b.4))
  endings_same ks x y v z (WithNest us p vs q) (WithStep before k) a b = absurd (step_or_nest before us vs k p q (b.0, z, b.3) (a.2, a.3, y, a.8) (sym b.1 ∙ a.4))
  endings_same ks x y v z (WithNest us p vs q) (WithNest us' p' vs' q') a b =
      nests_same us vs us' vs' p q p' q' (level us x a.0 a.5) (a.0, a.3, a.1, a.6) (level vs a.1 a.2 a.7) (level us' v b.0 b.5) (b.0, b.3, b.1, b.6) (level vs' b.1 b.2 b.7) (sym a.4 ∙ b.4)

  -- how the steps of a derivation end

  step_ends : (x y : State) (before : Derivation Step) (k : Step) → Derives S x (Then before k) y → EndsAs S x (steps_of (Then before k)) y (WithStep (steps_of before) k)
  step_ends x y before k is = (is.0, refl, derivation_runs S x before is.0 is.1, is.2)

  nest_ends : (x y : State) (before inner : Derivation Step) (k l : Step) → Derives S x (Nest before k inner l) y
      → EndsAs S x (steps_of (Nest before k inner l)) y (WithNest (steps_of before) k (steps_of inner) l)
  nest_ends x y before inner k l is =
      (is.0, is.1, is.2, is.3, refl, derivation_runs S x before is.0 is.4, is.5, derivation_runs S is.1 inner is.2 is.6, is.7)

  -- derivations of the same steps are the same
  pub derivations_same : (d other : Derivation Step) (x y v z : State) → Derives S x d y → Derives S v other z → steps_of d ≡ steps_of other → d ≡ other
  derivations_same Rest Rest x y v z a b e = refl
  derivations_same Rest (Then before k) x y v z a b e = absurd (not_empty (steps_of before) k [] e)
  derivations_same Rest (Nest before k inner l) x y v z a b e = absurd (not_empty (steps_of before) k (steps_of inner ++ l ∷ []) e)
  derivations_same (Then before k) Rest x y v z a b e = absurd (not_empty (steps_of before) k [] (sym e))
  derivations_same (Nest before k inner l) Rest x y v z a b e = absurd (not_empty (steps_of before) k (steps_of inner ++ l ∷ []) (sym e))
  derivations_same (Then before k) (Then before' k') x y v z a b e =
      let same : WithStep (steps_of before) k ≡ WithStep (steps_of before') k' =
      endings_same (steps_of (Then before k)) x y v z _ _ (step_ends x y before k a) (subst (λ w. EndsAs S v w z (WithStep (steps_of before') k')) (sym e) (step_ends v z before' k' b)) in
      let steps : steps_of before ≡ steps_of before' = cc in
      let step : k ≡ k' = cc in
      let parts-same : before ≡ before' = derivations_same before before' x a.0 v b.0 a.1 b.1 steps in
      cc
  derivations_same (Then before k) (Nest before' p inner q) x y v z a b e =
      absurd (step_or_nest (steps_of before) (steps_of before') (steps_of inner) k p q (a.0, y, a.2) (b.2, b.3, z, b.7) e)
  derivations_same (Nest before' p inner q) (Then before k) x y v z a b e =
      absurd (step_or_nest (steps_of before) (steps_of before') (steps_of inner) k p q (b.0, z, b.2) (a.2, a.3, y, a.7) (sym e))
  derivations_same (Nest before k inner l) (Nest before' k' inner' l') x y v z a b e =
      let same : WithNest (steps_of before) k (steps_of inner) l ≡ WithNest (steps_of before') k' (steps_of inner') l' =
      endings_same (steps_of (Nest before k inner l)) x y v z _ _ (nest_ends x y before inner k l a)
      (subst (λ w. EndsAs S v w z (WithNest (steps_of before') k' (steps_of inner') l')) (sym e) (nest_ends v z before' inner' k' l' b)) in
      let steps : steps_of before ≡ steps_of before' = cc in
      let inner-steps : steps_of inner ≡ steps_of inner' = cc in
      let push : k ≡ k' = cc in
      let pop : l ≡ l' = cc in
      let before-same : before ≡ before' = derivations_same before before' x a.0 v b.0 a.4 b.4 steps in
      let inner-same : inner ≡ inner' = derivations_same inner inner' a.1 a.2 b.1 b.2 a.6 b.6 inner-steps in
      cc

  -- A segment has no steps, or it ends in one way.

  abbrev Ends-once : State → List Step → State → Type 0
  Ends-once x ks y = (e : Ending Step) × EndsAs S x ks y e × ((v z : State) (other : Ending Step) → EndsAs S v ks z other → other ≡ e)

  once : (x : State) (ks : List Step) (y : State) (e : Ending Step) → EndsAs S x ks y e → Ends-once x ks y
  once x ks y e is = (e, is, λ v z other also. endings_same ks v z x y other e also is)

  derived_ends : (x y : State) (d : Derivation Step) → Derives S x d y → (steps_of d ≡ []) ⊎ Ends-once x (steps_of d) y
  derived_ends x y Rest is = inl refl
  derived_ends x y (Then before k) is = inr (once x _ y (WithStep (steps_of before) k) (step_ends x y before k is))
  derived_ends x y (Nest before k inner l) is = inr (once x _ y (WithNest (steps_of before) k (steps_of inner) l) (nest_ends x y before inner k l is))

  pub segment_ends : (x : State) (ks : List Step) (y : State) → Run S x [] ks y [] → (ks ≡ []) ⊎ Ends-once x ks y
  segment_ends x ks y run =
      let d : (d : Derivation Step) × Derives S x d y × (steps_of d ≡ ks) = run_derives S x ks y run in
      subst (λ v. (v ≡ []) ⊎ Ends-once x v y) d.2 (derived_ends x y d.0 d.1)
