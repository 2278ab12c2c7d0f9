-- First places of lists, by numbers.
use Rattle.std.proofs.Common.{◌≡◌, ℕ, zero, suc, ◌+◌, ◌<◌, List, [], ◌∷◌, Bool, true, false, cond, Option, None, Some, map, filter, length, min, refl, sym, ◌∙◌, ap, subst, arith}
use Rattle.std.specs.Prelude.{◌&&◌, ◌||◌, All, slice_get, option_map}
use Rattle.std.specs.Option.{option_and_then}
use Rattle.std.specs.List.{AllByRecursion, enumerate_from, find}
use Rattle.std.proofs.Math.Bool.{and-true}
use Rattle.ml_base.specs.declared.numbers.PortNo.{PortNo}
use Rattle.circuit_spec.specs.Network.{Topology, Port, ports}
use Rattle.nml_inventory.specs.Relations.{numbers_where}
use Rattle.layer_check.specs.Comparing.{passes_at}
use Rattle.layer_check.specs.Places.{first_place, lesser_of, number_of}
use Rattle.layer_check.specs.Related.{ArePortsThat, AreTogether, AreWithin}
use Rattle.layer_check.proofs.Tests.{passes_there}

abbrev next : Option ℕ → Option ℕ
next o = option_map (λ k. k + 1) o

pub place_same : {A : Type 0} (s t : A → Bool) → ((x : A) → s x ≡ t x) → (xs : List A) → first_place s xs ≡ first_place t xs
place_same s t same [] = refl
place_same s t same (x ∷ xs) =
    ap (λ b. cond b (Some 0) (next (first_place s xs))) (same x) ∙ ap (λ o. cond (t x) (Some 0) (next o)) (place_same s t same xs)

lesser_next : (p q : Option ℕ) → next (lesser_of p q) ≡ lesser_of (next p) (next q)
lesser_next None q = refl
lesser_next (Some n) None = refl
lesser_next (Some n) (Some m) = ap Some (shifted n m)
  where
    shifted : (n m : ℕ) → min n m + 1 ≡ min (n + 1) (m + 1)
    shifted n m = omega arith

or_by : (a b : Bool) (p q r : Option ℕ) → r ≡ lesser_of p q → cond (a || b) (Some 0) (next r) ≡ lesser_of (cond a (Some 0) (next p)) (cond b (Some 0) (next q))
or_by true true p q r e = refl
or_by true false p None r e = refl
or_by true false p (Some m) r e = ap Some (let z : 0 ≡ min 0 (m + 1) = omega arith in z)
or_by false true None q r e = refl
or_by false true (Some n) q r e = ap Some (let z : 0 ≡ min (n + 1) 0 = omega arith in z)
or_by false false p q r e = ap next e ∙ lesser_next p q

pub place_or : {A : Type 0} (s t : A → Bool) (xs : List A) → first_place (λ x. s x || t x) xs ≡ lesser_of (first_place s xs) (first_place t xs)
place_or s t [] = refl
place_or s t (x ∷ xs) = or_by (s x) (t x) (first_place s xs) (first_place t xs) (first_place (λ y. s y || t y) xs) (place_or s t xs)

get_next : {A : Type 0} (x : A) (xs : List A) (o : Option ℕ) → option_and_then (λ k. slice_get xs k) o ≡ option_and_then (λ k. slice_get (x ∷ xs) k) (next o)
get_next x xs None = refl
get_next x xs (Some k) = let e : suc k ≡ k + 1 = omega arith in ap (slice_get (x ∷ xs)) e

found_by : {A : Type 0} (b : Bool) (x : A) (xs : List A) (f : Option A) (p : Option ℕ) → f ≡ option_and_then (λ k. slice_get xs k) p → cond b (Some x) f ≡ option_and_then (λ k. slice_get (x ∷ xs) k) (cond b (Some 0) (next p))
found_by true x xs f p e = refl
found_by false x xs f p e = e ∙ get_next x xs p

-- what a search finds stands at the first place
pub place_finds : {A : Type 0} (test : A → Bool) (xs : List A) → find test xs ≡ option_and_then (λ k. slice_get xs k) (first_place test xs)
place_finds test [] = refl
place_finds test (x ∷ xs) = found_by (test x) x xs (find test xs) (first_place test xs) (place_finds test xs)

kept_by : {A : Type 0} (v : A → Bool) (b : Bool) (x : A) (kept : List A) (o : Option A) → find v kept ≡ o → find v (cond b (x ∷ kept) kept) ≡ cond (b && v x) (Some x) o
kept_by v true x kept o e = ap (λ r. cond (v x) (Some x) r) e
kept_by v false x kept o e = e

-- a search of the items that are kept
pub find_kept : {A : Type 0} (test v : A → Bool) (xs : List A) → find v (filter test xs) ≡ find (λ x. test x && v x) xs
find_kept test v [] = refl
find_kept test v (x ∷ xs) = kept_by v (test x) x (filter test xs) (find (λ y. test y && v y) xs) (find_kept test v xs)

-- Numbers

abbrev number_at : {A : Type 0} → ℕ × A → ℕ
number_at x = x.0

abbrev numbers_from : {A : Type 0} → ℕ → (A → Bool) → List A → List ℕ
numbers_from {A} i test xs = map (λ (x : ℕ × A). x.0) (filter (λ (x : ℕ × A). test x.1) (enumerate_from i xs))

shift_next : (i : ℕ) (o : Option ℕ) → option_map (λ k. i + 1 + k) o ≡ option_map (λ k. i + k) (next o)
shift_next i None = refl
shift_next i (Some k) = ap Some (let e : i + 1 + k ≡ i + (k + 1) = omega arith in e)

from_by : {A : Type 0} (g : ℕ → Bool) (i : ℕ) (b c : Bool) (here : ℕ × A) (rest : List (ℕ × A)) (p : Option ℕ) → here.0 ≡ i → g i ≡ c → find g (map (λ (x : ℕ × A). x.0) rest) ≡ option_map (λ k. i + 1 + k) p → find g (map (λ (x : ℕ × A). x.0) (cond b (here ∷ rest) rest)) ≡ option_map (λ k. i + k) (cond (b && c) (Some 0) (next p))
from_by {A} g i true true here rest p at e later =
    let z : i ≡ i + 0 = omega arith in
    ap (λ d. cond d (Some here.0) (find g (map (λ (x : ℕ × A). x.0) rest))) (ap g at ∙ e) ∙ ap Some (at ∙ z)
from_by {A} g i true false here rest p at e later =
    ap (λ d. cond d (Some here.0) (find g (map (λ (x : ℕ × A). x.0) rest))) (ap g at ∙ e) ∙ later ∙ shift_next i p
from_by g i false c here rest p at e later = later ∙ shift_next i p

find_from : {A : Type 0} (g : ℕ → Bool) (t u : A → Bool) (i : ℕ) (xs : List A) → ((k : ℕ) (x : A) → slice_get xs k ≡ Some x → g (i + k) ≡ u x) → find g (numbers_from i t xs) ≡ option_map (λ k. i + k) (first_place (λ x. t x && u x) xs)
find_from g t u i [] same = refl
find_from {A} g t u i (x ∷ xs) same =
    let here : ℕ × A = (i, x) in
    let first : i ≡ i + 0 = omega arith in
    from_by g i (t x) (u x) here (filter (λ (y : ℕ × A). t y.1) (enumerate_from (i + 1) xs)) (first_place (λ y. t y && u y) xs) refl
    (ap g first ∙ same 0 x refl)
    (find_from g t u (i + 1) xs (λ k y at. let e : i + 1 + k ≡ i + suc k = omega arith in ap g e ∙ same (suc k) y at))

from_zero : (o : Option ℕ) → option_map (λ k. 0 + k) o ≡ o
from_zero None = refl
from_zero (Some k) = ap Some (let e : 0 + k ≡ k = omega arith in e)

find_where : {A : Type 0} (g : ℕ → Bool) (t u : A → Bool) (xs : List A) → ((k : ℕ) (x : A) → slice_get xs k ≡ Some x → g k ≡ u x) → find g (numbers_where t xs) ≡ first_place (λ x. t x && u x) xs
find_where g t u xs same =
    find_from g t u 0 xs (λ k x at. let e : 0 + k ≡ k = omega arith in ap g e ∙ same k x at) ∙ from_zero (first_place (λ x. t x && u x) xs)

number_by : (b : Bool) (n : PortNo) (o : Option PortNo) (r : Option ℕ) → number_of o ≡ r → number_of (cond b (Some n) o) ≡ cond b (Some n.0) r
number_by true n o r e = refl
number_by false n o r e = e

find_numbers : (test : ℕ → Bool) (xs : List PortNo) → number_of (find (λ (n : PortNo). test n.0) xs) ≡ find test (map (λ (n : PortNo). n.0) xs)
find_numbers test [] = refl
find_numbers test (x ∷ xs) = number_by (test x.0) x (find (λ (n : PortNo). test n.0) xs) (find test (map (λ (n : PortNo). n.0) xs)) (find_numbers test xs)

-- the first of the ports of a list that passes a test
pub first_that : (T : Topology) (t u : Port → Bool) (numbers : List PortNo) → ArePortsThat T t numbers → number_of (find (λ (n : PortNo). passes_at T u n.0) numbers) ≡ first_place (λ q. t q && u q) (ports T)
first_that T t u numbers are =
    find_numbers (passes_at T u) numbers ∙ ap (find (passes_at T u)) are
    ∙ find_where (passes_at T u) t u (ports T) (λ k x at. passes_there T u k x at)

-- the first of the ports of a list
pub first_listed : (T : Topology) (t : Port → Bool) (numbers : List PortNo) → ArePortsThat T t numbers → number_of (find (λ (n : PortNo). true) numbers) ≡ first_place t (ports T)
first_listed T t numbers are =
    find_numbers (λ n. true) numbers ∙ ap (find (λ n. true)) are
    ∙ find_where (λ n. true) t (λ q. true) (ports T) (λ k x at. refl)
    ∙ place_same (λ q. t q && true) t (λ q. and-true (t q)) (ports T)

-- Both lists

pub first_together : (T : Topology) (test : Port → Bool) (one other : List PortNo) (a b r : Option PortNo) → a ≡ find (λ (n : PortNo). true) one → b ≡ find (λ (n : PortNo). true) other → number_of r ≡ lesser_of (number_of a) (number_of b) → AreTogether T test one other → number_of r ≡ first_place test (ports T)
first_together T test one other a b r at_a at_b e both =
    e ∙ ap (λ o. lesser_of o (number_of b)) (ap number_of at_a ∙ first_listed T both.of_one one both.ones)
    ∙ ap (λ o. lesser_of (first_place both.of_one (ports T)) o) (ap number_of at_b ∙ first_listed T both.of_other other both.others)
    ∙ sym (place_or both.of_one both.of_other (ports T))
    ∙ place_same (λ q. both.of_one q || both.of_other q) test (λ q. sym (both.either q)) (ports T)

spread : (a b c d : Bool) → c ≡ (a || b) → ((a && d) || (b && d)) ≡ (c && d)
spread true b c true e = ap (λ x. x && true) (sym e)
spread true true c false e = ap (λ x. x && false) (sym e)
spread true false c false e = ap (λ x. x && false) (sym e)
spread false b c d e = ap (λ x. x && d) (sym e)

pub other_together : (T : Topology) (test u : Port → Bool) (one other : List PortNo) (a b r : Option PortNo) → a ≡ find (λ (n : PortNo). passes_at T u n.0) one → b ≡ find (λ (n : PortNo). passes_at T u n.0) other → number_of r ≡ lesser_of (number_of a) (number_of b) → AreTogether T test one other → number_of r ≡ first_place (λ q. test q && u q) (ports T)
other_together T test u one other a b r at_a at_b e both =
    e ∙ ap (λ o. lesser_of o (number_of b)) (ap number_of at_a ∙ first_that T both.of_one u one both.ones)
    ∙ ap (λ o. lesser_of (first_place (λ q. both.of_one q && u q) (ports T)) o) (ap number_of at_b ∙ first_that T both.of_other u other both.others)
    ∙ sym (place_or (λ q. both.of_one q && u q) (λ q. both.of_other q && u q) (ports T))
    ∙ place_same (λ q. (both.of_one q && u q) || (both.of_other q && u q)) (λ q. test q && u q) (λ q. spread (both.of_one q) (both.of_other q) (test q) (u q) (both.either q)) (ports T)

-- the numbers are those of ports
below_by : {A : Type 0} (m : ℕ) (b : Bool) (here : ℕ × A) (rest : List (ℕ × A)) → here.0 < m → AllByRecursion (λ n. n < m) (map (λ (x : ℕ × A). x.0) rest) → AllByRecursion (λ n. n < m) (map (λ (x : ℕ × A). x.0) (cond b (here ∷ rest) rest))
below_by m true here rest h later = (h, later)
below_by m false here rest h later = later

numbers_below : {A : Type 0} (i : ℕ) (t : A → Bool) (xs : List A) → AllByRecursion (λ n. n < i + length xs) (numbers_from i t xs)
numbers_below i t [] = tt
numbers_below {A} i t (x ∷ xs) =
    let here : ℕ × A = (i, x) in
    let e : i + 1 + length xs ≡ i + suc (length xs) = omega arith in
    let within : i < i + suc (length xs) = omega arith in
    below_by (i + suc (length xs)) (t x) here (filter (λ (y : ℕ × A). t y.1) (enumerate_from (i + 1) xs)) within
    (subst (λ (m : ℕ). AllByRecursion (λ n. n < m) (numbers_from (i + 1) t xs)) e (numbers_below (i + 1) t xs))

all_mapped : (P : ℕ → Type 0) (xs : List PortNo) → AllByRecursion P (map (λ (n : PortNo). n.0) xs) → All (λ (n : PortNo). P n.0) xs
all_mapped P [] a k d h = absurd (omega arith)
all_mapped P (x ∷ xs) a zero d h = a.0
all_mapped P (x ∷ xs) a (suc k) d h = all_mapped P xs a.1 k d (omega arith)

pub are_within : (T : Topology) (t : Port → Bool) (numbers : List PortNo) → ArePortsThat T t numbers → AreWithin T numbers
are_within T t numbers are =
    let m = length (ports T) in
    let e : 0 + m ≡ m = omega arith in
    all_mapped (λ n. n < m) numbers
    (subst (λ (ns : List ℕ). AllByRecursion (λ n. n < m) ns) (sym are)
    (subst (λ (k : ℕ). AllByRecursion (λ n. n < k) (numbers_where t (ports T))) e (numbers_below 0 t (ports T))))
