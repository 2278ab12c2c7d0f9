-- Lists that another list has in their order, and perhaps items between theirs.
use Rattle.std.proofs.Common.{◌≡◌, ◌⊎◌, inl, inr, List, [], ◌∷◌, ◌++◌, Bool, true, false, cond, Option, None, Some, refl, sym, ◌∙◌, ap, subst, map, filter}
use Rattle.std.specs.List.{list_any, filter_map, flat_map, cons_option, AllByRecursion}
use Rattle.ml_base.specs.Lists.{IsAmong}
use Rattle.ml_base.proofs.Lists.{among_any, any_among}

-- the items of the first stand in the second, in their order
abbrev pub IsPart : {A : Type 0} → List A → List A → Type 0
IsPart [] ys = Unit {0}
IsPart (x ∷ xs) [] = ⊥
IsPart (x ∷ xs) (y ∷ ys) = ((x ≡ y) × IsPart xs ys) ⊎ IsPart (x ∷ xs) ys

pub part_itself : {A : Type 0} (xs : List A) → IsPart xs xs
part_itself [] = tt
part_itself (x ∷ xs) = inl (refl, part_itself xs)

pub part_later : {A : Type 0} (xs : List A) (y : A) (ys : List A) → IsPart xs ys → IsPart xs (y ∷ ys)
part_later [] y ys part = tt
part_later (x ∷ xs) y ys part = inr part

part_behind : {A : Type 0} (xs front ys : List A) → IsPart xs ys → IsPart xs (front ++ ys)
part_behind xs [] ys part = part
part_behind xs (y ∷ front) ys part = part_later xs y (front ++ ys) (part_behind xs front ys part)

pub part_append : {A : Type 0} (ws xs ys zs : List A) → IsPart ws xs → IsPart ys zs → IsPart (ws ++ ys) (xs ++ zs)
part_append [] xs ys zs a b = part_behind ys xs zs b
part_append (w ∷ ws) [] ys zs a b = absurd a
part_append (w ∷ ws) (x ∷ xs) ys zs (inl (e, a)) b = inl (e, part_append ws xs ys zs a b)
part_append (w ∷ ws) (x ∷ xs) ys zs (inr a) b = inr (part_append (w ∷ ws) xs ys zs a b)

pub part_none : {A : Type 0} (xs : List A) → IsPart xs [] → xs ≡ []
part_none [] part = refl
part_none (x ∷ xs) part = absurd part

-- ---- what holds of the items

pub part_among : {A : Type 0} (xs ys : List A) (z : A) → IsPart xs ys → IsAmong xs z → IsAmong ys z
part_among [] ys z part among = absurd among
part_among (x ∷ xs) [] z part among = absurd part
part_among (x ∷ xs) (y ∷ ys) z (inl (e, part)) (inl same) = inl (same ∙ e)
part_among (x ∷ xs) (y ∷ ys) z (inl (e, part)) (inr later) = inr (part_among xs ys z part later)
part_among (x ∷ xs) (y ∷ ys) z (inr part) among = inr (part_among (x ∷ xs) ys z part among)

pub part_all : {A : Type 0} (P : A → Type 0) (xs ys : List A) → IsPart xs ys → AllByRecursion P ys → AllByRecursion P xs
part_all P [] ys part all = tt
part_all P (x ∷ xs) [] part all = absurd part
part_all P (x ∷ xs) (y ∷ ys) (inl (e, part)) all = (subst P (sym e) all.0, part_all P xs ys part all.1)
part_all P (x ∷ xs) (y ∷ ys) (inr part) all = part_all P (x ∷ xs) ys part all.1

pub part_any : {A : Type 0} (test : A → Bool) (xs ys : List A) → IsPart xs ys → list_any test xs ≡ true → list_any test ys ≡ true
part_any test xs ys part h =
    let found = among_any test xs h in
    any_among test ys found.0 (part_among xs ys found.0 part found.1) found.2

-- ---- the functions on lists

pub part_map : {A B : Type 0} (f : A → B) (xs ys : List A) → IsPart xs ys → IsPart (map f xs) (map f ys)
part_map f [] ys part = tt
part_map f (x ∷ xs) [] part = absurd part
part_map f (x ∷ xs) (y ∷ ys) (inl (e, part)) = inl (ap f e, part_map f xs ys part)
part_map f (x ∷ xs) (y ∷ ys) (inr part) = inr (part_map f (x ∷ xs) ys part)

pub part_flat : {A B : Type 0} (f : A → List B) (xs ys : List A) → IsPart xs ys → IsPart (flat_map f xs) (flat_map f ys)
part_flat f [] ys part = tt
part_flat f (x ∷ xs) [] part = absurd part
part_flat f (x ∷ xs) (y ∷ ys) (inl (e, part)) =
    part_append (f x) (f y) (flat_map f xs) (flat_map f ys) (subst (λ z. IsPart (f x) (f z)) e (part_itself (f x))) (part_flat f xs ys part)
part_flat f (x ∷ xs) (y ∷ ys) (inr part) = part_behind (flat_map f (x ∷ xs)) (f y) (flat_map f ys) (part_flat f (x ∷ xs) ys part)

kept_or_not : {A : Type 0} (b : Bool) (xs : List A) (y : A) (ys : List A) → IsPart xs ys → IsPart xs (cond b (y ∷ ys) ys)
kept_or_not true xs y ys part = part_later xs y ys part
kept_or_not false xs y ys part = part

both_kept : {A : Type 0} (b c : Bool) (x : A) (xs : List A) (y : A) (ys : List A) → (b ≡ true → c ≡ true) → x ≡ y → IsPart xs ys → IsPart (cond b (x ∷ xs) xs) (cond c (y ∷ ys) ys)
both_kept true true x xs y ys only e part = inl (e, part)
both_kept true false x xs y ys only e part = absurd (let h : false ≡ true = only refl in cc)
both_kept false c x xs y ys only e part = kept_or_not c xs y ys part

-- a test that passes less keeps a part
pub part_filter : {A : Type 0} (p q : A → Bool) → ((x : A) → p x ≡ true → q x ≡ true) → (xs ys : List A) → IsPart xs ys → IsPart (filter p xs) (filter q ys)
part_filter p q only [] ys part = tt
part_filter p q only (x ∷ xs) [] part = absurd part
part_filter p q only (x ∷ xs) (y ∷ ys) (inl (e, part)) =
    both_kept (p x) (q y) x (filter p xs) y (filter q ys) (λ h. ap q (sym e) ∙ only x h) e (part_filter p q only xs ys part)
part_filter p q only (x ∷ xs) (y ∷ ys) (inr part) = kept_or_not (q y) (filter p (x ∷ xs)) y (filter q ys) (part_filter p q only (x ∷ xs) ys part)

-- ---- what is made of items that stay

made_of : {A B : Type 0} (b : Bool) (f g : A → B) (x : A) (xs : List A) (ys : List B) → f x ≡ g x → IsPart (map f xs) ys → IsPart (map f (cond b (x ∷ xs) xs)) (g x ∷ ys)
made_of true f g x xs ys e part = inl (e, part)
made_of false f g x xs ys e part = part_later (map f xs) (g x) ys part

pub part_made : {A B : Type 0} (p : A → Bool) (f g : A → B) → ((x : A) → f x ≡ g x) → (xs : List A) → IsPart (map f (filter p xs)) (map g xs)
part_made p f g same [] = tt
part_made p f g same (x ∷ xs) = made_of (p x) f g x (filter p xs) (map g xs) (same x) (part_made p f g same xs)

same_option : {A : Type 0} (o q : Option A) (xs ys : List A) → o ≡ q → IsPart xs ys → IsPart (cons_option o xs) (cons_option q ys)
same_option None None xs ys e part = part
same_option None (Some y) xs ys e part = cc
same_option (Some x) None xs ys e part = cc
same_option (Some x) (Some y) xs ys e part = let same : x ≡ y = cc in inl (same, part)

without_option : {A : Type 0} (o : Option A) (xs ys : List A) → IsPart xs ys → IsPart xs (cons_option o ys)
without_option None xs ys part = part
without_option (Some y) xs ys part = part_later xs y ys part

found_of : {A B C : Type 0} (h : B → Option C) (b : Bool) (f g : A → B) (x : A) (xs : List A) (ys : List C) → h (f x) ≡ h (g x) → IsPart (filter_map h (map f xs)) ys
    → IsPart (filter_map h (map f (cond b (x ∷ xs) xs))) (cons_option (h (g x)) ys)
found_of h true f g x xs ys e part = same_option (h (f x)) (h (g x)) (filter_map h (map f xs)) ys e part
found_of h false f g x xs ys e part = without_option (h (g x)) (filter_map h (map f xs)) ys part

pub part_found : {A B C : Type 0} (h : B → Option C) (p : A → Bool) (f g : A → B) → ((x : A) → h (f x) ≡ h (g x)) → (xs : List A) → IsPart (filter_map h (map f (filter p xs))) (filter_map h (map g xs))
part_found h p f g same [] = tt
part_found h p f g same (x ∷ xs) = found_of h (p x) f g x (filter p xs) (filter_map h (map g xs)) (same x) (part_found h p f g same xs)
