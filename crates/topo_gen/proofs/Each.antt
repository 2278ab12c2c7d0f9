-- What holds of each item of a list, and of each that a filter or a map makes of it.
use Rattle.std.proofs.Common.{◌≡◌, inr, List, [], ◌∷◌, ◌++◌, Bool, true, false, cond, Option, None, Some, map, filter, refl}
use Rattle.std.specs.List.{filter_map, flat_map, AllByRecursion}
use Rattle.ml_base.specs.Lists.{IsAmong}

pub all_join : {A : Type 0} (P : A → Type 0) (xs ys : List A) → AllByRecursion P xs → AllByRecursion P ys → AllByRecursion P (xs ++ ys)
all_join P [] ys all more = more
all_join P (x ∷ xs) ys all more = (all.0, all_join P xs ys all.1 more)

pub all_weaker : {A : Type 0} (P Q : A → Type 0) → ((x : A) → P x → Q x) → (xs : List A) → AllByRecursion P xs → AllByRecursion Q xs
all_weaker P Q to [] all = tt
all_weaker P Q to (x ∷ xs) all = (to x all.0, all_weaker P Q to xs all.1)

-- what a map makes has what each item has of what is made of it
pub all_mapped : {A B : Type 0} (P : B → Type 0) (f : A → B) (xs : List A) → AllByRecursion (λ x. P (f x)) xs → AllByRecursion P (map f xs)
all_mapped P f [] all = tt
all_mapped P f (x ∷ xs) all = (all.0, all_mapped P f xs all.1)

pub all_before_map : {A B : Type 0} (P : B → Type 0) (f : A → B) (xs : List A) → AllByRecursion P (map f xs) → AllByRecursion (λ x. P (f x)) xs
all_before_map P f [] all = tt
all_before_map P f (x ∷ xs) all = (all.0, all_before_map P f xs all.1)

all_kept_by : {A : Type 0} (P : A → Type 0) (b : Bool) (x : A) (xs : List A) → P x → AllByRecursion P xs → AllByRecursion P (cond b (x ∷ xs) xs)
all_kept_by P true x xs p all = (p, all)
all_kept_by P false x xs p all = all

-- a filter keeps nothing else
pub all_filtered : {A : Type 0} (P : A → Type 0) (test : A → Bool) (xs : List A) → AllByRecursion P xs → AllByRecursion P (filter test xs)
all_filtered P test [] all = tt
all_filtered P test (x ∷ xs) all = all_kept_by P (test x) x (filter test xs) all.0 (all_filtered P test xs all.1)

-- a filter that nothing passes keeps nothing
pub none_passes : {A : Type 0} (test : A → Bool) (xs : List A) → AllByRecursion (λ x. test x ≡ false) xs → filter test xs ≡ []
none_passes test [] all = refl
none_passes test (x ∷ xs) all = rw all.0 (none_passes test xs all.1)

-- what is empty of each item is empty of the list
pub all_empty : {A B : Type 0} (f : A → List B) (xs : List A) → AllByRecursion (λ x. f x ≡ []) xs → flat_map f xs ≡ []
all_empty f [] all = refl
all_empty f (x ∷ xs) all = rw all.0 (all_empty f xs all.1)

-- what an optional value has, where there is one
abbrev pub MayBe : {A : Type 0} → (A → Type 0) → Option A → Type 0
MayBe P None = Unit {0}
MayBe P (Some x) = P x

all_some_by : {A B : Type 0} (P : B → Type 0) (f : A → Option B) (o : Option B) (x : A) (xs : List A) → f x ≡ o → MayBe P o → AllByRecursion P (filter_map f xs) → AllByRecursion P (filter_map f (x ∷ xs))
all_some_by P f None x xs is p all = rw is all
all_some_by P f (Some y) x xs is p all = rw is (p, all)

pub all_some : {A B : Type 0} (P : B → Type 0) (f : A → Option B) (xs : List A) → AllByRecursion (λ x. MayBe P (f x)) xs → AllByRecursion P (filter_map f xs)
all_some P f [] all = tt
all_some P f (x ∷ xs) all = all_some_by P f (f x) x xs refl all.0 (all_some P f xs all.1)

-- among items
