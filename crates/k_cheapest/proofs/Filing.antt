-- Steps that are filed in rows.
use Rattle.std.proofs.Common.{◌≡◌, ◌≢◌, ◌⊎◌, ℕ, ◌+◌, ◌<◌, ◌≤◌, List, [], ◌∷◌, ◌++◌, length, refl, sym, ◌∙◌, ap, subst, inl, inr, arith, Contains, Some, slice_get}
use Rattle.std.proofs.Math.ListN.{length-set}
use Rattle.std.proofs.lemmas.Bool.{cases_lt, cases_eq}
use Rattle.std.proofs.lemmas.List.{get_or-set_same, get_or-set_other}
use Rattle.std.proofs.lemmas.List.Elements.{Contains-push_cases, Contains-push, Contains-append_left}
use Rattle.ml_base.specs.declared.numbers.StepNo.{StepNo}
use Rattle.adapt_machine.specs.Machine.{MachineValue}
use Rattle.adapt_machine.specs.declared.MachineStep.{MachineStep}
use Rattle.adapt_machine.specs.declared.MachineKind.TheVariants.{Push}
use Rattle.segment_grammar.specs.Index.{step_no}
use Rattle.segment_grammar.specs.Rows.{row_of, with_item}
use Rattle.segment_grammar.proofs.Places.{same_at}
use Rattle.k_cheapest.specs.declared.ways.Ways.{Ways}
use Rattle.k_cheapest.specs.Ways.{AreWays}

-- a row that is given an item
module _ {T : Type 0} (rows : List (List T)) (y : ℕ) (d : T) (within : y < length rows) where
  same_row : (x : ℕ) → x ≡ y → row_of (with_item rows y d) x ≡ row_of rows x ++ d ∷ []
  same_row x e = subst (λ v. row_of (with_item rows y d) v ≡ row_of rows v ++ d ∷ []) (sym e) (get_or-set_same rows y (row_of rows y ++ d ∷ []) [] within)

  other_row : (x : ℕ) → x ≢ y → row_of (with_item rows y d) x ≡ row_of rows x
  other_row x n = get_or-set_other rows y x (row_of rows y ++ d ∷ []) [] n

  pub is_there : Contains (row_of (with_item rows y d) y) d
  is_there = subst (λ v. Contains v d) (sym (same_row y refl)) (Contains-push (row_of rows y) d)

  pub still_there : (x : ℕ) (e : T) → Contains (row_of rows x) e → Contains (row_of (with_item rows y d) x) e
  still_there x e c = by_row (cases_eq x y) where
    by_row : (x ≡ y) ⊎ (x ≢ y) → Contains (row_of (with_item rows y d) x) e
    by_row (inl same) = subst (λ v. Contains v e) (sym (same_row x same)) (Contains-append_left (row_of rows x) (d ∷ []) e c)
    by_row (inr other) = subst (λ v. Contains v e) (sym (other_row x other)) c

  pub only_there : (x : ℕ) (e : T) → Contains (row_of (with_item rows y d) x) e → Contains (row_of rows x) e ⊎ (d ≡ e)
  only_there x e c = by_row (cases_eq x y) where
    by_row : (x ≡ y) ⊎ (x ≢ y) → Contains (row_of rows x) e ⊎ (d ≡ e)
    by_row (inl same) = Contains-push_cases (row_of rows x) d e (subst (λ v. Contains v e) (same_row x same) c)
    by_row (inr other) = inl (subst (λ v. Contains v e) (other_row x other) c)

  pub rooms_same : length (with_item rows y d) ≡ length rows
  rooms_same = length-set rows y (row_of rows y ++ d ∷ [])

-- rows below a number hold numbers below the next, with the number itself
rows_within : (rows : List (List StepNo)) (y n : ℕ) → y < length rows → ((s : ℕ) (k : StepNo) → Contains (row_of rows s) k → k.0 < n)
    → (s : ℕ) (k : StepNo) → Contains (row_of (with_item rows y (step_no n)) s) k → k.0 < n + 1
rows_within rows y n within before s k c = by_place (only_there rows y (step_no n) within s k c) where
  by_place : Contains (row_of rows s) k ⊎ (step_no n ≡ k) → k.0 < n + 1
  by_place (inl old) = (let low : k.0 < n = before s k old in omega arith)
  by_place (inr same) = (let number : n ≡ k.0 = ap (λ v. v.0) same in omega arith)

module _ (m : MachineValue) (n : ℕ) (w : Ways) (is : AreWays m n w) (t : MachineStep) (found : slice_get m.steps n ≡ Some t) where
  pub pushed_ways : t.kind ≡ Push → t.frame.0 < m.frames → (rows : List (List StepNo)) → rows ≡ with_item w.pushes t.frame.0 (step_no n)
      → AreWays m (n + 1) (record { into = w.into; pushes = rows })
  pushed_ways kind below rows e = subst (λ v. AreWays m (n + 1) (record { into = w.into; pushes = v })) (sym e) (record {
    states = is.states;
    frames = rooms_same w.pushes t.frame.0 (step_no n) room ∙ is.frames;
    into = λ k u early at other. by_into k u at other (cases_lt k n) early;
    pushes = λ k u early at push. by_push k u at push (cases_lt k n) early;
    into_within = λ s k c. (let low : k.0 < n = is.into_within s k c in omega arith);
    pushes_within = rows_within w.pushes t.frame.0 n room is.pushes_within;
  }) where
    room : t.frame.0 < length w.pushes
    room = subst (λ v. t.frame.0 < v) (sym is.frames) below

    by_into : (k : ℕ) (u : MachineStep) → slice_get m.steps k ≡ Some u → u.kind ≢ Push → (k < n) ⊎ (n ≤ k) → k < n + 1 → Contains (row_of w.into u.to.0) (step_no k)
    by_into k u at other (inl low) early = is.into k u low at other
    by_into k u at other (inr high) early =
        let last : k ≡ n = omega arith in
        let same : t ≡ u = same_at m.steps n t u found (subst (λ v. slice_get m.steps v ≡ Some u) last at) in
        absurd (other (sym (ap (λ v. v.kind) same) ∙ kind))

    by_push : (k : ℕ) (u : MachineStep) → slice_get m.steps k ≡ Some u → u.kind ≡ Push → (k < n) ⊎ (n ≤ k) → k < n + 1
        → Contains (row_of (with_item w.pushes t.frame.0 (step_no n)) u.frame.0) (step_no k)
    by_push k u at push (inl low) early = still_there w.pushes t.frame.0 (step_no n) room u.frame.0 (step_no k) (is.pushes k u low at push)
    by_push k u at push (inr high) early =
        let last : n ≡ k = omega arith in
        let same : t ≡ u = same_at m.steps n t u found (subst (λ v. slice_get m.steps v ≡ Some u) (sym last) at) in
        subst (λ v. Contains (row_of (with_item w.pushes t.frame.0 (step_no n)) u.frame.0) (step_no v)) last
        (subst (λ v. Contains (row_of (with_item w.pushes t.frame.0 (step_no n)) v.frame.0) (step_no n)) same (is_there w.pushes t.frame.0 (step_no n) room))

  pub entered_ways : t.kind ≢ Push → t.to.0 < m.states → (rows : List (List StepNo)) → rows ≡ with_item w.into t.to.0 (step_no n)
      → AreWays m (n + 1) (record { into = rows; pushes = w.pushes })
  entered_ways kind below rows e = subst (λ v. AreWays m (n + 1) (record { into = v; pushes = w.pushes })) (sym e) (record {
    states = rooms_same w.into t.to.0 (step_no n) room ∙ is.states;
    frames = is.frames;
    into = λ k u early at other. by_into k u at other (cases_lt k n) early;
    pushes = λ k u early at push. by_push k u at push (cases_lt k n) early;
    into_within = rows_within w.into t.to.0 n room is.into_within;
    pushes_within = λ s k c. (let low : k.0 < n = is.pushes_within s k c in omega arith);
  }) where
    room : t.to.0 < length w.into
    room = subst (λ v. t.to.0 < v) (sym is.states) below

    by_into : (k : ℕ) (u : MachineStep) → slice_get m.steps k ≡ Some u → u.kind ≢ Push → (k < n) ⊎ (n ≤ k) → k < n + 1
        → Contains (row_of (with_item w.into t.to.0 (step_no n)) u.to.0) (step_no k)
    by_into k u at other (inl low) early = still_there w.into t.to.0 (step_no n) room u.to.0 (step_no k) (is.into k u low at other)
    by_into k u at other (inr high) early =
        let last : n ≡ k = omega arith in
        let same : t ≡ u = same_at m.steps n t u found (subst (λ v. slice_get m.steps v ≡ Some u) (sym last) at) in
        subst (λ v. Contains (row_of (with_item w.into t.to.0 (step_no n)) u.to.0) (step_no v)) last
        (subst (λ v. Contains (row_of (with_item w.into t.to.0 (step_no n)) v.to.0) (step_no n)) same (is_there w.into t.to.0 (step_no n) room))

    by_push : (k : ℕ) (u : MachineStep) → slice_get m.steps k ≡ Some u → u.kind ≡ Push → (k < n) ⊎ (n ≤ k) → k < n + 1 → Contains (row_of w.pushes u.frame.0) (step_no k)
    by_push k u at push (inl low) early = is.pushes k u low at push
    by_push k u at push (inr high) early =
        let last : k ≡ n = omega arith in
        let same : t ≡ u = same_at m.steps n t u found (subst (λ v. slice_get m.steps v ≡ Some u) last at) in
        absurd (kind (ap (λ v. v.kind) same ∙ push))
