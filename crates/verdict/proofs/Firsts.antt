-- What fails first fails at one place, and then it does not hold everywhere.
use Rattle.std.proofs.Common.{◌≡◌, ◌<◌, ℕ, zero, suc, List, [], ◌∷◌, take, Some, refl, sym, ◌∙◌, ap, subst, arith}
use Rattle.std.specs.Prelude.{slice_get}
use Rattle.std.specs.List.{All}
use Rattle.std.proofs.lemmas.Option.{slice_get_within, get_or_from_slice_get}
use Rattle.verdict.specs.First.{IsFirstFailing, IsFirstDifference}

-- neither of two numbers is below the other
pub level : (j k : ℕ) → (j < k → ⊥) → (k < j → ⊥) → j ≡ k
level j k f g = grind (arith, f, g)

pub slice_get-take : {A : Type 0} (xs : List A) (j k : ℕ) → j < k → slice_get (take k xs) j ≡ slice_get xs j
slice_get-take xs j zero lt = absurd (omega arith)
slice_get-take [] j (suc k) lt = refl
slice_get-take (x ∷ xs) zero (suc k) lt = refl
slice_get-take (x ∷ xs) (suc j) (suc k) lt = slice_get-take xs j k (omega (arith, lt))

-- an item that stands somewhere is as all are
holds_there : {A : Type 0} (P : A → Type 0) (xs : List A) (k : ℕ) (x : A) → slice_get xs k ≡ Some x → All P xs → P x
holds_there P xs k x at all = subst P (get_or_from_slice_get xs k x x at) (all k x (slice_get_within xs k x at))

pub not_all : {A : Type 0} (P : A → Type 0) (xs : List A) (k : ℕ) → IsFirstFailing P xs k → All P xs → ⊥
not_all P xs k f all = f.fails (holds_there P xs k f.item f.at all)

fails_later : {A : Type 0} (P : A → Type 0) (xs : List A) (j k : ℕ) → IsFirstFailing P xs j → IsFirstFailing P xs k → j < k → ⊥
fails_later P xs j k f g lt = f.fails (holds_there P (take k xs) j f.item (slice_get-take xs j k lt ∙ f.at) g.before)

pub one_failing : {A : Type 0} (P : A → Type 0) (xs : List A) (j k : ℕ) → IsFirstFailing P xs j → IsFirstFailing P xs k → j ≡ k
one_failing P xs j k f g = level j k (fails_later P xs j k f g) (fails_later P xs k j g f)

pub not_same : {A : Type 0} (xs ys : List A) (k : ℕ) → IsFirstDifference xs ys k → xs ≡ ys → ⊥
not_same xs ys k d same = d.differ (ap (λ (zs : List _). slice_get zs k) same)

differs_later : {A : Type 0} (xs ys : List A) (j k : ℕ) → IsFirstDifference xs ys j → IsFirstDifference xs ys k → j < k → ⊥
differs_later xs ys j k f g lt = f.differ (sym (slice_get-take xs j k lt) ∙ ap (λ (zs : List _). slice_get zs j) g.before ∙ slice_get-take ys j k lt)

pub one_difference : {A : Type 0} (xs ys : List A) (j k : ℕ) → IsFirstDifference xs ys j → IsFirstDifference xs ys k → j ≡ k
one_difference xs ys j k f g = level j k (differs_later xs ys j k f g) (differs_later xs ys k j g f)
