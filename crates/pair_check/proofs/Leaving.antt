-- The exits of pairs, as they are gathered and found.
use Rattle.std.proofs.Common.{◌≡◌, ◌∙◌, ℕ, zero, suc, ◌<◌, ◌≤◌, ◌+◌, ◌⊎◌, List, [], ◌∷◌, ◌++◌, None, Some, Option, length, get_or, take, map, subst, sym, ap, refl, inl, inr, arith, Contains}
use Rattle.std.specs.Prelude.{true, false, cond, is_some, ◌↔◌}
use Rattle.std.specs.Global.{Vec}
use Rattle.std.proofs.lemmas.List.{take_all, take_more}
use Rattle.std.proofs.lemmas.List.Elements.{Contains-append_cases, Contains-append_left, Contains-append_right, Contains-push, Contains-push_cases}
use Rattle.ml_base.specs.declared.numbers.FrameNo.{FrameNo}
use Rattle.ml_base.specs.declared.numbers.Root.TheVariants.{Entry}
use Rattle.ml_base.specs.declared.numbers.StateNo.{StateNo}
use Rattle.ml_base.specs.declared.numbers.StepNo.{StepNo}
use Rattle.adapt_machine.specs.declared.MachineStep.{MachineStep}
use Rattle.segment_grammar.specs.declared.potentials.Pot.{Pot}
use Rattle.segment_grammar.specs.FrameRows.{is_pair}
use Rattle.segment_grammar.specs.Index.{IsPopAt, ListsSteps}
use Rattle.segment_grammar.proofs.Numbering.{bool_cases, pair_itself, same_pair}
use Rattle.segment_grammar.proofs.Places.{slice_get-below}
use Rattle.pair_check.specs.declared.exits.Exit.{Exit}
use Rattle.pair_check.specs.Exits.{AddsExits, AreExitsFrom, AreExitsOf, AreFound, IsExitOf, IsFoundAt, exit_of, exits_at}

-- ---- lists

head_in : {X : Type 0} (x : X) (xs : List X) → Contains (x ∷ xs) x
head_in x xs = (0, omega arith, refl)

tail_in : {X : Type 0} (x : X) (xs : List X) (y : X) → Contains xs y → Contains (x ∷ xs) y
tail_in x xs y c = Contains-append_right (x ∷ []) xs y c

in_cons : {X : Type 0} (x : X) (xs : List X) (y : X) → Contains (x ∷ xs) y → (x ≡ y) ⊎ Contains xs y
in_cons x xs y c = go (Contains-append_cases (x ∷ []) xs y c)
  where
    go : Contains (x ∷ []) y ⊎ Contains xs y → (x ≡ y) ⊎ Contains xs y
    go (inl (zero, l, e)) = inl e
    go (inl (suc i, l, e)) = absurd (omega arith)
    go (inr t) = inr t

none_in : {X : Type 0} (y : X) → ¬ Contains [] y
none_in y c = omega (arith, c.1)

in_map : {X Y : Type 0} (f : X → Y) (xs : List X) (x : X) → Contains xs x → Contains (map f xs) (f x)
in_map f [] x c = absurd (none_in x c)
in_map f (a ∷ xs) x c = elim (in_cons a xs x c) as (λ s. Contains (map f (a ∷ xs)) (f x)) [
  | inl e ↦ subst (λ v. Contains (map f (a ∷ xs)) (f v)) e (head_in (f a) (map f xs))
  | inr t ↦ tail_in (f a) (map f xs) (f x) (in_map f xs x t)
]

of_map : {X Y : Type 0} (f : X → Y) (xs : List X) (y : Y) → Contains (map f xs) y → (x : X) × Contains xs x × (f x ≡ y)
of_map f [] y c = absurd (none_in y c)
of_map {X = X} f (a ∷ xs) y c = elim (in_cons (f a) (map f xs) y c) as (λ s. (x : X) × Contains (a ∷ xs) x × (f x ≡ y)) [
  | inl e ↦ (a, head_in a xs, e)
  | inr t ↦ (let is = of_map f xs y t in (is.0, tail_in a xs is.0 is.1, is.2))
]

-- ---- one pair

module _ (steps : List MachineStep) (p : Pot) (frame : FrameNo) where
  module _ (row : List StepNo) (lists : ListsSteps steps (length steps) (IsPopAt p.state frame) row) where
    is_exit : (k : StepNo) → Contains row k → IsExitOf steps p frame (exit_of p.weight k)
    is_exit k c = let o = lists.only k c in record { inner = refl; pop = o.1.0; at = o.1.1; pops = o.1.2 }

    has_exit : (exit : Exit) → IsExitOf steps p frame exit → Contains (map (exit_of p.weight) row) exit
    has_exit exit is =
        let listed : Contains row exit.pop = lists.all exit.pop.0 is.pop (slice_get-below steps exit.pop.0 is.pop is.at) is.at is.pops in
        subst (λ w. Contains (map (exit_of p.weight) row) (exit_of w exit.pop)) (sym is.inner) (in_map (exit_of p.weight) row exit.pop listed)

    pub exits_added : (old new : List Exit) → new ≡ old ++ map (exit_of p.weight) row → AddsExits steps p frame old new
    exits_added old new same exit = (
      λ c. only (Contains-append_cases old (map (exit_of p.weight) row) exit (subst (λ l. Contains l exit) same c)),
      λ c. subst (λ l. Contains l exit) (sym same) (all c),
    )
      where
        only : Contains old exit ⊎ Contains (map (exit_of p.weight) row) exit → Contains old exit ⊎ IsExitOf steps p frame exit
        only (inl c) = inl c
        only (inr c) = let of = of_map (exit_of p.weight) row exit c in inr (subst (IsExitOf steps p frame) of.2 (is_exit of.0 of.1))

        all : Contains old exit ⊎ IsExitOf steps p frame exit → Contains (old ++ map (exit_of p.weight) row) exit
        all (inl c) = Contains-append_left old (map (exit_of p.weight) row) exit c
        all (inr is) = Contains-append_right old (map (exit_of p.weight) row) exit (has_exit exit is)

-- ---- pairs

module _ (steps : List MachineStep) (frame : FrameNo) where
  pub no_exits : AreExitsOf steps [] frame []
  no_exits exit = (λ c. absurd (none_in exit c), λ e. absurd (none_in e.0 e.1))

  more_exits : (pairs : List Pot) (p : Pot) (old new : List Exit) → AreExitsOf steps pairs frame old → AddsExits steps p frame old new
      → AreExitsOf steps (pairs ++ p ∷ []) frame new
  more_exits pairs p old new are adds exit = (λ c. only ((adds exit).0 c), λ e. (adds exit).1 (all e (Contains-push_cases pairs p e.0 e.1)))
    where
      only : Contains old exit ⊎ IsExitOf steps p frame exit → (q : Pot) × Contains (pairs ++ p ∷ []) q × IsExitOf steps q frame exit
      only (inl c) = let e = (are exit).0 c in (e.0, Contains-append_left pairs (p ∷ []) e.0 e.1, e.2)
      only (inr is) = (p, Contains-push pairs p, is)

      all : (e : (q : Pot) × Contains (pairs ++ p ∷ []) q × IsExitOf steps q frame exit) → Contains pairs e.0 ⊎ (p ≡ e.0) → Contains old exit ⊎ IsExitOf steps p frame exit
      all e (inl c) = inl ((are exit).1 (e.0, c, e.2))
      all e (inr same) = inr (subst (λ q. IsExitOf steps q frame exit) (sym same) e.2)

  pub exits_more : (pairs : List Pot) (i : ℕ) (d : Pot) (old new : List Exit) → i < length pairs → AreExitsOf steps (take i pairs) frame old
      → AddsExits steps (get_or pairs i d) frame old new → AreExitsOf steps (take (i + 1) pairs) frame new
  exits_more pairs i d old new low are adds = subst (λ ps. AreExitsOf steps ps frame new) (sym (take_more pairs i d low))
      (more_exits (take i pairs) (get_or pairs i d) old new are adds)

  pub all_exits : (pairs : List Pot) (i : ℕ) (exits : List Exit) → length pairs ≤ i → AreExitsOf steps (take i pairs) frame exits → AreExitsOf steps pairs frame exits
  all_exits pairs i exits low are = subst (λ ps. AreExitsOf steps ps frame exits) (take_all i pairs low) are

  -- the exits of the pairs of one root
  pub exits_from : (pots row : List Pot) (entered : StateNo) (exits : List Exit)
      → ((p : Pot) → Contains row p ↔ (Contains pots p × (p.root ≡ Entry entered))) → AreExitsOf steps row frame exits → AreExitsFrom steps pots entered frame exits
  exits_from pots row entered exits under are exit = (
    λ c. let e = (are exit).0 c in let at = (under e.0).0 e.1 in (e.0, at.0, at.1, e.2),
    λ e. (are exit).1 (e.0, (under e.0).1 (e.1, e.2), e.3),
  )

-- ---- what is found

pub some_there : (o : Option (Vec Exit)) → is_some o ≡ true → (exits : Vec Exit) × (o ≡ Some exits)
some_there None e = absurd (cc)
some_there (Some exits) e = (exits, refl)

module _ (old new : List ((ℕ × ℕ) × Vec Exit)) (a b : ℕ) (exits : Vec Exit)
    (updates : (q : ℕ × ℕ) → exits_at new q.0 q.1 ≡ cond (is_pair a b q.0 q.1) (Some exits) (exits_at old q.0 q.1)) where
  here : (c d : ℕ) → is_pair a b c d ≡ true → exits_at new c d ≡ Some exits
  here c d e = updates (c, d) ∙ ap (λ v. cond v (Some exits) (exits_at old c d)) e

  apart : (c d : ℕ) → is_pair a b c d ≡ false → exits_at new c d ≡ exits_at old c d
  apart c d e = updates (c, d) ∙ ap (λ v. cond v (Some exits) (exits_at old c d)) e

  pub put_here : IsFoundAt new a b
  put_here = (exits, here a b (pair_itself a b))

  module _ (steps : List MachineStep) (pots : List Pot) where
    abbrev IsRight : ℕ → ℕ → Vec Exit → Type 0
    IsRight c d list = AreExitsFrom steps pots (record { 0 = c }) (record { 0 = d }) list.items

    right_at : IsRight a b exits → (c d : ℕ) (list : Vec Exit) → is_pair a b c d ≡ true → exits_at new c d ≡ Some list → IsRight c d list
    right_at right c d list e found =
        let same : exits ≡ list = (let h : exits_at new c d ≡ Some exits = here c d e in cc) in
        let at = same_pair a b c d e in
        subst (λ l. IsRight c d l) same (subst (λ n. IsRight n d exits) at.0 (subst (λ n. IsRight a n exits) at.1 right))

    pub found_more : AreFound steps pots old → AreExitsFrom steps pots (record { 0 = a }) (record { 0 = b }) exits.items → AreFound steps pots new
    found_more before right entered frame list found = go (bool_cases (is_pair a b entered.0 frame.0))
      where
        go : (is_pair a b entered.0 frame.0 ≡ true) ⊎ (is_pair a b entered.0 frame.0 ≡ false) → AreExitsFrom steps pots entered frame list.items
        go (inl t) = right_at right entered.0 frame.0 list t found
        go (inr f) = before entered frame list (sym (apart entered.0 frame.0 f) ∙ found)
