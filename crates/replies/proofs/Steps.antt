-- Going through a list, an item at a time.
use Rattle.std.proofs.Common.{◌≡◌, ◌∙◌, sym, ap, subst, ℕ, ◌+◌, ◌≤◌, ◌<◌, List, [], ◌∷◌, ◌++◌, length, take, drop, map, get_or, arith}
use Rattle.std.proofs.lemmas.List.{append-nil, take_more, take_all, take-append-drop, length-take-le, length-map, get_or-map}
use Rattle.std.proofs.lemmas.List.Folds.{concat-append}
use Rattle.std.specs.List.{concat}
use Rattle.std.specs.Io.KnownBytes.{Appends}
use Rattle.ml_base.proofs.Lists.{next_item}
use Rattle.io_edges.specs.Stores.{AppendsFront}
use Rattle.io_edges.proofs.Written.{Appends-join}
use Rattle.replies.proofs.Fronts.{Text, front-behind, front-of-more}
use Rattle.replies.specs.declared.reply.Reply.{Reply}
use Rattle.replies.specs.declared.reply.Stop.{Stop}
use Rattle.replies.specs.declared.reply.Stop.TheVariants.{Ended, NoMemory}
use Rattle.replies.specs.Through.{Each, Ends, IsStop}

-- the items up to one more
pub one_more : {A : Type 0} (xs : List A) (i : ℕ) (x : A) → x ≡ get_or xs i x → i < length xs → take (i + 1) xs ≡ take i xs ++ x ∷ []
one_more xs i x is lt = take_more xs i x lt ∙ ap (λ y. take i xs ++ y ∷ []) (sym is)

-- what is before an item, the item, and what is behind it
pub around : {A : Type 0} (xs : List A) (i : ℕ) (x : A) → x ≡ get_or xs i x → i < length xs → xs ≡ take i xs ++ x ∷ drop (i + 1) xs
around xs i x is lt = sym (take-append-drop i xs) ∙ ap (λ ys. take i xs ++ ys) (next_item xs i x is lt)

pub Each-none : {A B : Type 0} (R : A → B → Type 0) (ys : List B) → ys ≡ [] → Each R [] ys
Each-none R ys e = subst (λ (zs : List _). Each R [] zs) (sym e) tt

pub Each-snoc : {A B : Type 0} (R : A → B → Type 0) (xs : List A) (ys : List B) (x : A) (y : B) → Each R xs ys → R x y → Each R (xs ++ x ∷ []) (ys ++ y ∷ [])
Each-snoc R [] [] x y e r = (r, tt)
Each-snoc R [] (z ∷ ys) x y e r = absurd e
Each-snoc R (w ∷ xs) [] x y e r = absurd e
Each-snoc R (w ∷ xs) (z ∷ ys) x y e r = (e.0, Each-snoc R xs ys x y e.1 r)

pub Each-step : {A B : Type 0} (R : A → B → Type 0) (xs : List A) (ys : List B) (i : ℕ) (x : A) (y : B) → x ≡ get_or xs i x → i < length xs → Each R (take i xs) ys → R x y → Each R (take (i + 1) xs) (ys ++ y ∷ [])
Each-step R xs ys i x y is lt e r = subst (λ (zs : List _). Each R zs (ys ++ y ∷ [])) (sym (one_more xs i x is lt)) (Each-snoc R (take i xs) ys x y e r)

pub Each-whole : {A B : Type 0} (R : A → B → Type 0) (xs : List A) (ys : List B) (i : ℕ) → length xs ≤ i → Each R (take i xs) ys → Each R xs ys
Each-whole R xs ys i le e = subst (λ (zs : List _). Each R zs ys) (take_all i xs le) e

-- the item at i ends the run
pub Ends-at : {A B : Type 0} (R : A → B → Type 0) (EndsAt : ℕ → A → Reply → Type 0) (xs : List A) (ys : List B) (i n : ℕ) (x : A) (reply : Reply)
    → x ≡ get_or xs i x → i < length xs → n ≡ i + 1 → Each R (take i xs) ys → EndsAt n x reply → Ends R EndsAt xs reply
Ends-at R EndsAt xs ys i n x reply is lt at e ends =
    let l : n ≡ length (take i xs) + 1 = omega (arith, at, length-take-le i xs (omega arith)) in
    record { earlier = take i xs; item = x; later = drop (i + 1) xs; partners = ys; split = around xs i x is lt; passed = e; ends = subst (λ (m : ℕ). EndsAt m x reply) l ends }

-- ---- lines

pub concat-one : (xs : List (List ℕ)) (x : List ℕ) → concat (xs ++ x ∷ []) ≡ concat xs ++ x
concat-one xs x = concat-append xs (x ∷ []) ∙ ap (λ ys. concat xs ++ ys) (append-nil x)

pub Appends-line : (a b c : Text) (xs : List (List ℕ)) (i : ℕ) (x : List ℕ) → x ≡ get_or xs i x → i < length xs
    → Appends a b (concat (take i xs)) → Appends b c x → Appends a c (concat (take (i + 1) xs))
Appends-line a b c xs i x is lt p q =
    let text : concat (take (i + 1) xs) ≡ concat (take i xs) ++ x = ap concat (one_more xs i x is lt) ∙ concat-one (take i xs) x in
    subst (λ (t : List ℕ). Appends a c t) (sym text) (Appends-join a b c (concat (take i xs)) x p q)

pub Appends-lines : (a b : Text) (xs : List (List ℕ)) (i : ℕ) → length xs ≤ i → Appends a b (concat (take i xs)) → Appends a b (concat xs)
Appends-lines a b xs i le p = subst (λ (ys : List (List ℕ)). Appends a b (concat ys)) (take_all i xs le) p

-- the line at i is cut short
pub front-line : (a b c : Text) (xs : List (List ℕ)) (i : ℕ) (x : List ℕ) → x ≡ get_or xs i x → i < length xs
    → Appends a b (concat (take i xs)) → AppendsFront b c x → AppendsFront a c (concat xs)
front-line a b c xs i x is lt p f =
    let text : concat xs ≡ concat (take i xs) ++ (x ++ concat (drop (i + 1) xs)) = ap concat (around xs i x is lt) ∙ concat-append (take i xs) (x ∷ drop (i + 1) xs) in
    subst (λ (t : List ℕ). AppendsFront a c t) (sym text)
    (front-behind a b c (concat (take i xs)) (x ++ concat (drop (i + 1) xs)) p (front-of-more b c x (concat (drop (i + 1) xs)) f))

-- ---- lines that are made of items

pub made_item : {A : Type 0} (f : A → List ℕ) (xs : List A) (i : ℕ) (x : A) → x ≡ get_or xs i x → i < length xs → f x ≡ get_or (map f xs) i (f x)
made_item f xs i x is lt = ap f is ∙ sym (get_or-map f xs i x (f x) lt)

made_lt : {A : Type 0} (f : A → List ℕ) (xs : List A) (i : ℕ) → i < length xs → i < length (map f xs)
made_lt f xs i lt = subst (λ (n : ℕ). i < n) (sym (length-map xs f)) lt

pub Appends-made : {A : Type 0} (f : A → List ℕ) (a b c : Text) (xs : List A) (i : ℕ) (x : A) (line : List ℕ) → line ≡ f x → x ≡ get_or xs i x → i < length xs
    → Appends a b (concat (take i (map f xs))) → Appends b c line → Appends a c (concat (take (i + 1) (map f xs)))
Appends-made f a b c xs i x line made is lt p q = Appends-line a b c (map f xs) i (f x) (made_item f xs i x is lt) (made_lt f xs i lt) p (subst (λ (t : List ℕ). Appends b c t) made q)

pub Appends-mades : {A : Type 0} (f : A → List ℕ) (a b : Text) (xs : List A) (i : ℕ) → length xs ≤ i → Appends a b (concat (take i (map f xs))) → Appends a b (concat (map f xs))
Appends-mades f a b xs i le p = Appends-lines a b (map f xs) i (subst (λ (n : ℕ). n ≤ i) (sym (length-map xs f)) le) p

pub front-made : {A : Type 0} (f : A → List ℕ) (a b c : Text) (xs : List A) (i : ℕ) (x : A) (line : List ℕ) → line ≡ f x → x ≡ get_or xs i x → i < length xs
    → Appends a b (concat (take i (map f xs))) → AppendsFront b c line → AppendsFront a c (concat (map f xs))
front-made f a b c xs i x line made is lt p q = front-line a b c (map f xs) i (f x) (made_item f xs i x is lt) (made_lt f xs i lt) p (subst (λ (t : List ℕ). AppendsFront b c t) made q)

-- ---- what ends the run

pub Stops-so : {P Q : Reply → Type 0} (stop : Stop) → ((reply : Reply) → P reply → Q reply) → IsStop stop P → IsStop stop Q
Stops-so (Ended reply) f p = f reply p
Stops-so NoMemory f p = tt

-- the item at i ends the run, unless memory ran out
pub Stops-at : {A B : Type 0} (R : A → B → Type 0) (EndsAt : ℕ → A → Reply → Type 0) (xs : List A) (ys : List B) (i n : ℕ) (x : A) (stop : Stop)
    → x ≡ get_or xs i x → i < length xs → n ≡ i + 1 → Each R (take i xs) ys → IsStop stop (EndsAt n x) → IsStop stop (Ends R EndsAt xs)
Stops-at R EndsAt xs ys i n x stop is lt at e ends = Stops-so {P = EndsAt n x} {Q = Ends R EndsAt xs} stop (λ reply p. Ends-at R EndsAt xs ys i n x reply is lt at e p) ends
