-- Lists of steps that go on.
use Rattle.std.proofs.Common.{◌≡◌, ℕ, ◌+◌, List, [], ◌∷◌, ◌++◌, map, refl, sym, ◌∙◌, ap, subst, append_assoc, arith}
use Rattle.std.specs.List.{flat_map, range_with_len}
use Rattle.std.proofs.lemmas.List.{append-nil}
use Rattle.std.proofs.lemmas.Grind.{flat_map-append}
use Rattle.ml_base.proofs.Lists.{range_more}
use Rattle.marked_machine.specs.declared.steps.MarkedSteps.{MarkedSteps}
use Rattle.marked_machine.specs.Product.{MarkedStep, GoesOn}

map_joined : {A B : Type 0} (f : A → B) (xs ys : List A) → map f (xs ++ ys) ≡ map f xs ++ map f ys
map_joined f [] ys = refl
map_joined f (x ∷ xs) ys = ap (λ v. f x ∷ v) (map_joined f xs ys)

pub goes_none : (a : MarkedSteps) → GoesOn a [] a
goes_none a = record { steps = sym (append-nil a.steps.items); bases = sym (append-nil a.bases.items) }

onward : {A B : Type 0} (f : A → B) (xs ys : List A) (a b c : List B) → b ≡ a ++ map f xs → c ≡ b ++ map f ys → c ≡ a ++ map f (xs ++ ys)
onward f xs ys a b c p q = q ∙ (ap (λ v. v ++ map f ys) p ∙ (append_assoc a (map f xs) (map f ys) ∙ ap (λ v. a ++ v) (sym (map_joined f xs ys))))

pub goes_more : (a b c : MarkedSteps) (xs ys : List MarkedStep) → GoesOn a xs b → GoesOn b ys c → GoesOn a (xs ++ ys) c
goes_more a b c xs ys p q = record {
  steps = onward (λ s. s.step) xs ys a.steps.items b.steps.items c.steps.items p.steps q.steps;
  bases = onward (λ s. s.base) xs ys a.bases.items b.bases.items c.bases.items p.bases q.bases;
}

range_flat : {A : Type 0} (f : ℕ → List A) (n : ℕ) → flat_map f (range_with_len 0 (n + 1)) ≡ flat_map f (range_with_len 0 n) ++ f n
range_flat f n =
    let same : 0 + n ≡ n = omega arith in
    ap (flat_map f) (range_more 0 n) ∙ (flat_map-append f (range_with_len 0 n) ((0 + n) ∷ []) ∙ ap (λ v. flat_map f (range_with_len 0 n) ++ v) (append-nil (f (0 + n)) ∙ ap f same))

-- a loop that has come to number `n` comes to the next
pub goes_round : (f : ℕ → List MarkedStep) (n : ℕ) (a b c : MarkedSteps) → GoesOn a (flat_map f (range_with_len 0 n)) b → GoesOn b (f n) c → GoesOn a (flat_map f (range_with_len 0 (n + 1))) c
goes_round f n a b c p q = subst (λ v. GoesOn a v c) (sym (range_flat f n)) (goes_more a b c (flat_map f (range_with_len 0 n)) (f n) p q)

-- and has come to its end
pub goes_done : (f : ℕ → List MarkedStep) (n m : ℕ) (a b : MarkedSteps) → n ≡ m → GoesOn a (flat_map f (range_with_len 0 n)) b → GoesOn a (flat_map f (range_with_len 0 m)) b
goes_done f n m a b e p = subst (λ v. GoesOn a (flat_map f (range_with_len 0 v)) b) e p

-- these steps are made, and no others
pub record AreMade (made : List MarkedStep) (s : MarkedSteps) : Type 0 where
  pub steps : s.steps.items ≡ map (λ a. a.step) made
  pub bases : s.bases.items ≡ map (λ a. a.base) made

pub made_more : (xs ys : List MarkedStep) (b c : MarkedSteps) → AreMade xs b → GoesOn b ys c → AreMade (xs ++ ys) c
made_more xs ys b c p q = record {
  steps = onward (λ s. s.step) xs ys [] b.steps.items c.steps.items p.steps q.steps;
  bases = onward (λ s. s.base) xs ys [] b.bases.items c.bases.items p.bases q.bases;
}

pub made_round : (f : ℕ → List MarkedStep) (n : ℕ) (b c : MarkedSteps) → AreMade (flat_map f (range_with_len 0 n)) b → GoesOn b (f n) c → AreMade (flat_map f (range_with_len 0 (n + 1))) c
made_round f n b c p q = subst (λ v. AreMade v c) (sym (range_flat f n)) (made_more (flat_map f (range_with_len 0 n)) (f n) b c p q)

pub made_done : (f : ℕ → List MarkedStep) (n m : ℕ) (b : MarkedSteps) → n ≡ m → AreMade (flat_map f (range_with_len 0 n)) b → AreMade (flat_map f (range_with_len 0 m)) b
made_done f n m b e p = subst (λ v. AreMade (flat_map f (range_with_len 0 v)) b) e p
