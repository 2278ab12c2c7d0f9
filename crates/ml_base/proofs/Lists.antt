-- Laws of lists and options that the kit's own lemmas lack.
use Rattle.std.proofs.Common.{◌≡◌, ◌⊎◌, ℕ, zero, suc, ◌+◌, ◌<◌, ◌&&◌, ◌||◌, inl, inr, List, [], ◌∷◌, ◌++◌, Bool, true, false, cond, Option, None, Some, Result, Ok, refl, sym, ◌∙◌, ap, subst, map, filter, length, get_or, drop, take, arith}
use Rattle.std.specs.Prelude.{Contains, slice_get, option_map}
use Rattle.std.specs.List.{AllByRecursion, list_any, filter_map, cons_option, range_with_len}
use Rattle.std.proofs.lemmas.Bool.{or_cases, or_left, or_right}
use Rattle.std.proofs.lemmas.List.{drop_more}
use Rattle.std.proofs.lemmas.List.Elements.{Contains-append_cases, Contains-append_right}
use Rattle.std.proofs.lemmas.Option.{slice_get_within, get_or_from_slice_get}
use Rattle.ml_base.specs.Lists.{IsAmong}

-- what an option holds is one
pub one_of_some : {A : Type 0} {x y : A} → Some x ≡ Some y → x ≡ y
one_of_some e = cc

-- a result has one value at most
pub one_ok : {A E : Type 0} (r : Result A E) (a b : A) → r ≡ Ok a → r ≡ Ok b → a ≡ b
one_ok r a b e f = cc

-- what a mapped option holds comes from what the option holds
pub mapped_some : {A B : Type 0} (f : A → B) (o : Option A) (b : B) → option_map f o ≡ Some b → (a : A) × (o ≡ Some a) × (f a ≡ b)
mapped_some f None b e = absurd cc
mapped_some f (Some a) b e = (a, refl, cc)

-- Items by their places.

-- each place of a list has an item, and one alone
pub some_at : {A : Type 0} (xs : List A) (n : ℕ) → n < length xs → (x : A) × (slice_get xs n ≡ Some x)
some_at [] n h = absurd (omega arith)
some_at (x ∷ xs) zero h = (x, refl)
some_at (x ∷ xs) (suc n) h = some_at xs n (omega (arith, h))

pub same_at : {A : Type 0} (xs : List A) (i : ℕ) (x y : A) → slice_get xs i ≡ Some x → slice_get xs i ≡ Some y → x ≡ y
same_at xs i x y e f = cc

-- what stands at a place is contained
pub contains_at : {A : Type 0} (xs : List A) (k : ℕ) (x : A) → slice_get xs k ≡ Some x → Contains xs x
contains_at xs k x at = (k, slice_get_within xs k x at, get_or_from_slice_get xs k x x at)

-- a list that goes on keeps its places, and its next item stands at its end
pub at_left : {A : Type 0} (xs ys : List A) (k : ℕ) (x : A) → slice_get xs k ≡ Some x → slice_get (xs ++ ys) k ≡ Some x
at_left [] ys k x at = cc
at_left (z ∷ xs) ys zero x at = at
at_left (z ∷ xs) ys (suc k) x at = at_left xs ys k x at

pub at_end : {A : Type 0} (xs : List A) (y : A) (n : ℕ) → n ≡ length xs → slice_get (xs ++ y ∷ []) n ≡ Some y
at_end [] y zero e = refl
at_end [] y (suc n) e = absurd (omega (arith, e))
at_end (x ∷ xs) y zero e = absurd (omega (arith, e))
at_end (x ∷ xs) y (suc n) e = at_end xs y n (omega (arith, e))

-- the item that a loop over a list comes to
pub next_item : {A : Type 0} (xs : List A) (i : ℕ) (x : A) → x ≡ get_or xs i x → i < length xs → drop i xs ≡ x ∷ drop (i + 1) xs
next_item xs i x is lt = drop_more xs i x lt ∙ ap (λ y. y ∷ drop (i + 1) xs) (sym is)

-- the first items of a list stand where they stand in it
pub slice_get-take : {A : Type 0} (xs : List A) (j k : ℕ) → j < k → slice_get (take k xs) j ≡ slice_get xs j
slice_get-take xs j zero lt = absurd (omega arith)
slice_get-take [] j (suc k) lt = refl
slice_get-take (x ∷ xs) zero (suc k) lt = refl
slice_get-take (x ∷ xs) (suc j) (suc k) lt = slice_get-take xs j k (omega (arith, lt))

-- Items that a list contains: its first one and those behind it.

pub none_in : {A : Type 0} (y : A) → Contains [] y → ⊥
none_in y c = omega (arith, c.1)

pub first_in : {A : Type 0} (x : A) (xs : List A) → Contains (x ∷ xs) x
first_in x xs = (0, omega arith, refl)

pub later_in : {A : Type 0} (x : A) (xs : List A) (y : A) → Contains xs y → Contains (x ∷ xs) y
later_in x xs y c = Contains-append_right (x ∷ []) xs y c

pub cons_cases : {A : Type 0} (x : A) (xs : List A) (y : A) → Contains (x ∷ xs) y → (x ≡ y) ⊎ Contains xs y
cons_cases x xs y c = by_part (Contains-append_cases (x ∷ []) xs y c)
  where
    by_part : Contains (x ∷ []) y ⊎ Contains xs y → (x ≡ y) ⊎ Contains xs y
    by_part (inl (zero, low, e)) = inl e
    by_part (inl (suc i, low, e)) = absurd (omega arith)
    by_part (inr later) = inr later

-- what holds of all items, by their places
pub all_at : {A : Type 0} (P : A → Type 0) (xs : List A) (i : ℕ) (x : A) → AllByRecursion P xs → slice_get xs i ≡ Some x → P x
all_at P [] i x all at = cc
all_at P (y ∷ xs) zero x all at = subst P (one_of_some at) all.0
all_at P (y ∷ xs) (suc i) x all at = all_at P xs i x all.1 at

pub all_from_places : {A : Type 0} (P : A → Type 0) (xs : List A) → ((k : ℕ) (x : A) → slice_get xs k ≡ Some x → P x) → AllByRecursion P xs
all_from_places P [] h = tt
all_from_places P (x ∷ xs) h = (h 0 x refl, all_from_places P xs (λ k y at. h (suc k) y at))

-- Items that are among those of a list.

pub contains_among : {A : Type 0} (xs : List A) (x : A) → IsAmong xs x → Contains xs x
contains_among [] x among = absurd among
contains_among (y ∷ ys) x (inl e) = (0, omega arith, sym e)
contains_among (y ∷ ys) x (inr later) = let c = contains_among ys x later in (suc c.0, omega (arith, c.1), c.2)

pub among_read : {A : Type 0} (xs : List A) (x : A) (k : ℕ) → k < length xs → get_or xs k x ≡ x → IsAmong xs x
among_read [] x k h e = absurd (omega arith)
among_read (y ∷ ys) x zero h e = inl (sym e)
among_read (y ∷ ys) x (suc k) h e = inr (among_read ys x k (omega (arith, h)) e)

pub among_contains : {A : Type 0} (xs : List A) (x : A) → Contains xs x → IsAmong xs x
among_contains xs x c = among_read xs x c.0 c.1 c.2

pub place_among : {A : Type 0} (xs : List A) (x : A) → IsAmong xs x → (i : ℕ) × (slice_get xs i ≡ Some x)
place_among [] x a = absurd a
place_among (y ∷ xs) x (inl e) = (0, ap Some (sym e))
place_among (y ∷ xs) x (inr later) = let p = place_among xs x later in (suc p.0, p.1)

pub among_place : {A : Type 0} (xs : List A) (i : ℕ) (x : A) → slice_get xs i ≡ Some x → IsAmong xs x
among_place [] i x e = cc
among_place (y ∷ xs) zero x e = inl (sym (one_of_some e))
among_place (y ∷ xs) (suc i) x e = inr (among_place xs i x e)

pub all_among : {A : Type 0} (P : A → Type 0) (xs : List A) (x : A) → AllByRecursion P xs → IsAmong xs x → P x
all_among P [] x all among = absurd among
all_among P (y ∷ ys) x all (inl e) = subst P (sym e) all.0
all_among P (y ∷ ys) x all (inr later) = all_among P ys x all.1 later

-- of two lists, one behind the other
pub among_left : {A : Type 0} (xs ys : List A) (x : A) → IsAmong xs x → IsAmong (xs ++ ys) x
among_left [] ys x a = absurd a
among_left (y ∷ xs) ys x (inl e) = inl e
among_left (y ∷ xs) ys x (inr later) = inr (among_left xs ys x later)

pub among_right : {A : Type 0} (xs ys : List A) (x : A) → IsAmong ys x → IsAmong (xs ++ ys) x
among_right [] ys x a = a
among_right (y ∷ xs) ys x a = inr (among_right xs ys x a)

pub among_cases : {A : Type 0} (xs ys : List A) (x : A) → IsAmong (xs ++ ys) x → IsAmong xs x ⊎ IsAmong ys x
among_cases [] ys x a = inr a
among_cases (y ∷ xs) ys x (inl e) = inl (inl e)
among_cases (y ∷ xs) ys x (inr a) = elim (among_cases xs ys x a) [ inl b ↦ inl (inr b) | inr b ↦ inr b ]

-- of options, kept where they hold something
pub among_option : {B : Type 0} (o : Option B) (y : B) (ys : List B) → o ≡ Some y → IsAmong (cons_option o ys) y
among_option None y ys e = cc
among_option (Some z) y ys e = inl (cc)

pub among_later : {B : Type 0} (o : Option B) (y : B) (ys : List B) → IsAmong ys y → IsAmong (cons_option o ys) y
among_later None y ys among = among
among_later (Some z) y ys among = inr among

pub among_filter_map : {A B : Type 0} (h : A → Option B) (xs : List A) (x : A) (y : B) → IsAmong xs x → h x ≡ Some y → IsAmong (filter_map h xs) y
among_filter_map h [] x y among e = absurd among
among_filter_map h (z ∷ zs) x y (inl same) e = among_option (h z) y (filter_map h zs) (ap h (sym same) ∙ e)
among_filter_map h (z ∷ zs) x y (inr later) e = among_later (h z) y (filter_map h zs) (among_filter_map h zs x y later e)

-- what was kept of a list stands somewhere in it
kept_option : {A B : Type 0} (h : A → Option B) (x : A) (xs : List A) (o : Option B) (n : ℕ) (y : B) → h x ≡ o → ((m : ℕ) → slice_get (filter_map h xs) m ≡ Some y → (k : ℕ) × (z : A) × (slice_get xs k ≡ Some z) × (h z ≡ Some y)) → slice_get (cons_option o (filter_map h xs)) n ≡ Some y → (k : ℕ) × (z : A) × (slice_get (x ∷ xs) k ≡ Some z) × (h z ≡ Some y)
kept_option h x xs None n y e later at = let l = later n at in (suc l.0, l.1, l.2, l.3)
kept_option h x xs (Some w) zero y e later at = (0, x, refl, e ∙ at)
kept_option h x xs (Some w) (suc n) y e later at = let l = later n at in (suc l.0, l.1, l.2, l.3)

pub kept_from : {A B : Type 0} (h : A → Option B) (xs : List A) (n : ℕ) (y : B) → slice_get (filter_map h xs) n ≡ Some y → (k : ℕ) × (z : A) × (slice_get xs k ≡ Some z) × (h z ≡ Some y)
kept_from h [] n y at = cc
kept_from h (x ∷ xs) n y at = kept_option h x xs (h x) n y refl (λ m. kept_from h xs m y) at

-- Tests of the items of a list.

pub among_any : {A : Type 0} (test : A → Bool) (xs : List A) → list_any test xs ≡ true → (x : A) × IsAmong xs x × (test x ≡ true)
among_any test [] h = cc
among_any test (y ∷ ys) h =
    elim (or_cases (test y) (list_any test ys) h) [
      | inl here ↦ (y, inl refl, here)
      | inr later ↦ let found = among_any test ys later in (found.0, inr found.1, found.2)
    ]

pub any_among : {A : Type 0} (test : A → Bool) (xs : List A) (x : A) → IsAmong xs x → test x ≡ true → list_any test xs ≡ true
any_among test [] x h t = absurd h
any_among test (y ∷ ys) x (inl e) t = or_left (test y) (list_any test ys) (cc)
any_among test (y ∷ ys) x (inr later) t = or_right (test y) (list_any test ys) (any_among test ys x later t)

any_cond : {A : Type 0} (t : A → Bool) (x : A) (ys : List A) (b : Bool) → list_any t (cond b (x ∷ ys) ys) ≡ ((b && t x) || list_any t ys)
any_cond t x ys true = refl
any_cond t x ys false = refl

pub any_filter : {A : Type 0} (t p : A → Bool) (xs : List A) → list_any t (filter p xs) ≡ list_any (λ x. p x && t x) xs
any_filter t p [] = refl
any_filter t p (x ∷ xs) = any_cond t x (filter p xs) (p x) ∙ ap (λ b. (p x && t x) || b) (any_filter t p xs)

-- What lists are made of.

pub no_item : {A B : Type 0} (f : A → B) (xs : List A) → map f xs ≡ [] → xs ≡ []
no_item f [] e = refl
no_item f (x ∷ xs) e = cc

pub range_more : (s n : ℕ) → range_with_len s (n + 1) ≡ range_with_len s n ++ (s + n) ∷ []
range_more s zero = let e : s ≡ s + 0 = omega arith in ap (λ y. y ∷ []) e
range_more s (suc n) =
    let f : suc n + 1 ≡ suc (n + 1) = omega arith in
    let e : s + 1 + n ≡ s + suc n = omega arith in
    ap (range_with_len s) f ∙ ap (λ ys. s ∷ ys) (range_more (s + 1) n ∙ ap (λ y. range_with_len (s + 1) n ++ y ∷ []) e)
