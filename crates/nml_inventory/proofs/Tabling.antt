-- Tables of relations: what arcs between numbers say of the items that stand there.
use Rattle.std.proofs.Common.{◌≡◌, ℕ, zero, suc, ◌+◌, ◌<◌, ◌==◌, List, [], ◌∷◌, ◌++◌, Bool, true, false, ◌&&◌, ◌||◌, cond, Option, None, Some, map, filter, take, length, refl, sym, ◌∙◌, ap, subst, arith, append-nil, append_assoc}
use Rattle.std.specs.Prelude.{slice_get, option_map}
use Rattle.std.specs.List.{list_any, range_with_len, enumerate_from, cons_option, All}
use Rattle.std.specs.Str.{bytes_eq}
use Rattle.std.proofs.lemmas.Bool.{eq-eqb, ne_eqb, both_ways}
use Rattle.std.proofs.lemmas.List.{take_more, length-take-le, length-map}
use Rattle.std.proofs.lemmas.List.Elements.{All-append, All-cons, All-map, All-nil}
use Rattle.std.proofs.lemmas.List.Folds.{list_any-append}
use Rattle.std.proofs.lemmas.Option.{slice_get_within, get_or_from_slice_get}
use Rattle.std.proofs.lemmas.Slice.Eq.{bytes_eq-Decides}
use Rattle.std.proofs.Math.Bool.{or-false}
use Rattle.ml_base.proofs.Lists.{one_of_some}
use Rattle.alias_merge.specs.Groups.{ComeFromBelow}
use Rattle.alias_merge.specs.Rising.{LeadBelow, has_arc, holds, rising_leads, turned}
use Rattle.alias_merge.proofs.Sorting.{any_map, any_swapped, turned_below}
use Rattle.circuit_spec.specs.Network.{Name, names}
use Rattle.nml_inventory.specs.Numbers.{number_in}
use Rattle.nml_inventory.specs.Aliases.{pairs_in}
use Rattle.nml_inventory.specs.Relations.{numbers_where}
use Rattle.nml_inventory.specs.Tables.{rows_from, pairs_named}
use Rattle.nml_inventory.proofs.Distinct.{AreDistinct}
use Rattle.nml_inventory.proofs.Noting.{number_within}
use Rattle.nml_inventory.proofs.PortNumbers.{number_by, number_found}
use Rattle.nml_inventory.proofs.Searches.{any_filter_map, any_same, passes}

abbrev pub Arc : Type 0
Arc = ℕ × ℕ

-- Numbers of items that pass a test

abbrev pub numbers_from : {A : Type 0} → (A → Bool) → ℕ → List A → List ℕ
numbers_from {A} test n xs = map (λ (x : ℕ × A). x.0) (filter (λ (x : ℕ × A). test x.1) (enumerate_from n xs))

numbered_by : {A : Type 0} (test : A → Bool) (a : ℕ) (x : A) (xs : List A) (rest : List ℕ) (b : Bool) → rest ≡ numbers_from test (a + 1) xs → cond b (a ∷ rest) rest ≡ map (λ (y : ℕ × A). y.0) (cond b ((a, x) ∷ filter (λ (y : ℕ × A). test y.1) (enumerate_from (a + 1) xs)) (filter (λ (y : ℕ × A). test y.1) (enumerate_from (a + 1) xs)))
numbered_by test a x xs rest true e = ap (λ r. a ∷ r) e
numbered_by test a x xs rest false e = e

-- the numbers of a range that pass, where they pass as the items do
pub filter_numbers : {A : Type 0} (t : ℕ → Bool) (test : A → Bool) (a : ℕ) (xs : List A) → ((i : ℕ) (x : A) → slice_get xs i ≡ Some x → t (a + i) ≡ test x) → filter t (range_with_len a (length xs)) ≡ numbers_from test a xs
filter_numbers t test a [] same = refl
filter_numbers {A} t test a (x ∷ xs) same =
    let e : a ≡ a + 0 = omega arith in
    let here : t a ≡ test x = ap t e ∙ same 0 x refl in
    let rest = filter t (range_with_len (a + 1) (length xs)) in
    let later : rest ≡ numbers_from test (a + 1) xs =
    filter_numbers t test (a + 1) xs (λ i y at. let f : a + 1 + i ≡ a + suc i = omega arith in ap t f ∙ same (suc i) y at) in
    ap (λ b. cond b (a ∷ rest) rest) here ∙ numbered_by test a x xs rest (test x) later

-- a table of filtered ranges is one of the items that pass
pub table : {A B : Type 0} (t : ℕ → ℕ → Bool) (test : B → A → Bool) (ys : List A) (a : ℕ) (xs : List B) → ((i : ℕ) (x : B) (j : ℕ) (y : A) → slice_get xs i ≡ Some x → slice_get ys j ≡ Some y → t (a + i) j ≡ test x y) → map (λ i. filter (t i) (range_with_len 0 (length ys))) (range_with_len a (length xs)) ≡ map (λ x. numbers_where (test x) ys) xs
table t test ys a [] same = refl
table {A} {B} t test ys a (x ∷ xs) same =
    let e : a ≡ a + 0 = omega arith in
    let here : filter (t a) (range_with_len 0 (length ys)) ≡ numbers_where (test x) ys =
    filter_numbers (t a) (test x) 0 ys (λ j y at. let f : 0 + j ≡ j = omega arith in ap (t a) f ∙ ap (λ k. t k j) e ∙ same 0 x j y refl at) in
    let later : map (λ i. filter (t i) (range_with_len 0 (length ys))) (range_with_len (a + 1) (length xs)) ≡ map (λ z. numbers_where (test z) ys) xs =
    table t test ys (a + 1) xs (λ i z j y at_i at_j. let f : a + 1 + i ≡ a + suc i = omega arith in ap (λ k. t k j) f ∙ same (suc i) z j y at_i at_j) in
    ap (λ g. g ∷ map (λ i. filter (t i) (range_with_len 0 (length ys))) (range_with_len (a + 1) (length xs))) here
    ∙ ap (λ gs. numbers_where (test x) ys ∷ gs) later

unheld_by : (a m : ℕ) (rest : List ℕ) (b : Bool) → m < a → holds rest m ≡ false → holds (cond b (a ∷ rest) rest) m ≡ false
unheld_by a m rest true less e = ap (λ b. b || holds rest m) (ne_eqb a m (λ s. omega arith)) ∙ e
unheld_by a m rest false less e = e

held_by : (a m : ℕ) (rest : List ℕ) (b : Bool) → a ≡ m → holds rest m ≡ false → holds (cond b (a ∷ rest) rest) m ≡ b
held_by a m rest true same e = ap (λ b. b || holds rest m) (eq-eqb a m same)
held_by a m rest false same e = e

after_by : (a m : ℕ) (rest : List ℕ) (b c : Bool) → a < m → holds rest m ≡ c → holds (cond b (a ∷ rest) rest) m ≡ c
after_by a m rest true c less e = ap (λ b. b || holds rest m) (ne_eqb a m (λ s. omega arith)) ∙ e
after_by a m rest false c less e = e

number_head : {A : Type 0} (test : A → Bool) (a : ℕ) (x : A) (xs : List A) → numbers_from test a (x ∷ xs) ≡ cond (test x) (a ∷ numbers_from test (a + 1) xs) (numbers_from test (a + 1) xs)
number_head test a x xs = sym (numbered_by test a x xs (numbers_from test (a + 1) xs) (test x) refl)

unheld_before : {A : Type 0} (test : A → Bool) (a m : ℕ) (xs : List A) → m < a → holds (numbers_from test a xs) m ≡ false
unheld_before test a m [] less = refl
unheld_before test a m (x ∷ xs) less =
    ap (λ ys. holds ys m) (number_head test a x xs) ∙ unheld_by a m (numbers_from test (a + 1) xs) (test x) less (unheld_before test (a + 1) m xs (omega arith))

-- the numbers hold that of an item that passes
pub held_number : {A : Type 0} (test : A → Bool) (a : ℕ) (xs : List A) (j : ℕ) (x : A) → slice_get xs j ≡ Some x → holds (numbers_from test a xs) (a + j) ≡ test x
held_number test a [] j x at = cc
held_number test a (y ∷ xs) zero x at =
    let e : a ≡ a + 0 = omega arith in
    ap (λ ys. holds ys (a + 0)) (number_head test a y xs)
    ∙ held_by a (a + 0) (numbers_from test (a + 1) xs) (test y) e (unheld_before test (a + 1) (a + 0) xs (omega arith)) ∙ ap test (one_of_some at)
held_number test a (y ∷ xs) (suc j) x at =
    let f : a + 1 + j ≡ a + suc j = omega arith in
    ap (λ ys. holds ys (a + suc j)) (number_head test a y xs)
    ∙ after_by a (a + suc j) (numbers_from test (a + 1) xs) (test y) (test x) (omega arith) (ap (holds (numbers_from test (a + 1) xs)) (sym f) ∙ held_number test (a + 1) xs j x at)

any_head : (p : ℕ → Bool) (a : ℕ) (rest : List ℕ) (b : Bool) → list_any p (cond b (a ∷ rest) rest) ≡ ((b && p a) || list_any p rest)
any_head p a rest true = refl
any_head p a rest false = refl

-- a search of the numbers is one of the items that pass
pub any_numbers : {A : Type 0} (test : A → Bool) (p : ℕ → Bool) (q : A → Bool) (a : ℕ) (xs : List A) → ((i : ℕ) (x : A) → slice_get xs i ≡ Some x → p (a + i) ≡ q x) → list_any p (numbers_from test a xs) ≡ list_any (λ x. test x && q x) xs
any_numbers test p q a [] same = refl
any_numbers test p q a (x ∷ xs) same =
    let e : a ≡ a + 0 = omega arith in
    ap (list_any p) (number_head test a x xs)
    ∙ any_head p a (numbers_from test (a + 1) xs) (test x)
    ∙ ap (λ b. (test x && b) || list_any p (numbers_from test (a + 1) xs)) (ap p e ∙ same 0 x refl)
    ∙ ap (λ b. (test x && q x) || b) (any_numbers test p q (a + 1) xs (λ i y at. let f : a + 1 + i ≡ a + suc i = omega arith in ap p f ∙ same (suc i) y at))

-- Rows

-- each row has arcs from its own number alone
abbrev pub HaveRows : {A : Type 0} → (ℕ → A → List Arc) → (ℕ → A → Bool) → ℕ → Type 0
HaveRows {A} row leads_to j = (n : ℕ) (x : A) (i : ℕ) → has_arc (row n x) i j ≡ ((n == i) && leads_to n x)

no_row : {A : Type 0} (row : ℕ → A → List Arc) (leads_to : ℕ → A → Bool) (n m j : ℕ) (xs : List A) → HaveRows row leads_to j → m < n → has_arc (rows_from row n xs) m j ≡ false
no_row row leads_to n m j [] rows less = refl
no_row row leads_to n m j (x ∷ xs) rows less =
    list_any-append (λ (a : Arc). (a.0 == m) && (a.1 == j)) (row n x) (rows_from row (n + 1) xs)
    ∙ ap (λ b. b || has_arc (rows_from row (n + 1) xs) m j) (rows n x m ∙ ap (λ b. b && leads_to n x) (ne_eqb n m (λ s. omega arith)))
    ∙ no_row row leads_to (n + 1) m j xs rows (omega arith)

pub row_at : {A : Type 0} (row : ℕ → A → List Arc) (leads_to : ℕ → A → Bool) (n : ℕ) (xs : List A) (i j : ℕ) (x : A) → HaveRows row leads_to j → slice_get xs i ≡ Some x → has_arc (rows_from row n xs) (n + i) j ≡ leads_to (n + i) x
row_at row leads_to n [] i j x rows at = cc
row_at {A} row leads_to n (y ∷ xs) zero j x rows at =
    let e : n ≡ n + 0 = omega arith in
    list_any-append (λ (a : Arc). (a.0 == n + 0) && (a.1 == j)) (row n y) (rows_from row (n + 1) xs)
    ∙ ap (λ b. b || has_arc (rows_from row (n + 1) xs) (n + 0) j) (rows n y (n + 0) ∙ ap (λ b. b && leads_to n y) (eq-eqb n (n + 0) e))
    ∙ ap (λ b. leads_to n y || b) (no_row row leads_to (n + 1) (n + 0) j xs rows (omega arith))
    ∙ or-false (leads_to n y)
    ∙ ap (λ k. leads_to k y) e ∙ ap (λ (z : A). leads_to (n + 0) z) (one_of_some at)
row_at {A} row leads_to n (y ∷ xs) (suc i) j x rows at =
    let f : n + 1 + i ≡ n + suc i = omega arith in
    list_any-append (λ (a : Arc). (a.0 == n + suc i) && (a.1 == j)) (row n y) (rows_from row (n + 1) xs)
    ∙ ap (λ b. b || has_arc (rows_from row (n + 1) xs) (n + suc i) j) (rows n y (n + suc i) ∙ ap (λ b. b && leads_to n y) (ne_eqb n (n + suc i) (λ s. omega arith)))
    ∙ ap (λ k. has_arc (rows_from row (n + 1) xs) k j) (sym f)
    ∙ row_at row leads_to (n + 1) xs i j x rows at
    ∙ ap (λ k. leads_to k x) f

pub rows_push : {A : Type 0} (row : ℕ → A → List Arc) (n : ℕ) (xs : List A) (x : A) → rows_from row n (xs ++ x ∷ []) ≡ rows_from row n xs ++ row (n + length xs) x
rows_push row n [] x = let e : n ≡ n + 0 = omega arith in append-nil (row n x) ∙ ap (λ k. row k x) e
rows_push row n (y ∷ xs) x =
    let e : n + 1 + length xs ≡ n + suc (length xs) = omega arith in
    ap (λ ys. row n y ++ ys) (rows_push row (n + 1) xs x ∙ ap (λ k. rows_from row (n + 1) xs ++ row k x) e)
    ∙ sym (append_assoc (row n y) (rows_from row (n + 1) xs) (row (n + suc (length xs)) x))

-- one more row
pub rows_more : {A : Type 0} (row : ℕ → A → List Arc) (xs : List A) (i : ℕ) (x : A) → slice_get xs i ≡ Some x → rows_from row 0 (take (i + 1) xs) ≡ rows_from row 0 (take i xs) ++ row i x
rows_more {A} row xs i x at =
    let within = slice_get_within xs i x at in
    let e : 0 + length (take i xs) ≡ i = omega (arith, length-take-le i xs (omega arith)) in
    ap (rows_from row 0) (take_more xs i x within ∙ ap (λ (y : A). take i xs ++ y ∷ []) (get_or_from_slice_get xs i x x at))
    ∙ rows_push row 0 (take i xs) x ∙ ap (λ k. rows_from row 0 (take i xs) ++ row k x) e

pub rows_all : {A : Type 0} (row : ℕ → A → List Arc) (P : Arc → Type 0) (n : ℕ) (xs : List A) → ((i : ℕ) (x : A) → i < length xs → All P (row (n + i) x)) → All P (rows_from row n xs)
rows_all row P n [] all = All-nil P
rows_all {A} row P n (x ∷ xs) all =
    let e : n + 0 ≡ n = omega arith in
    All-append P (row n x) (rows_from row (n + 1) xs) (subst (λ k. All P (row k x)) e (all 0 x (omega arith)))
    (rows_all row P (n + 1) xs (λ i y h. let f : n + suc i ≡ n + 1 + i = omega arith in subst (λ k. All P (row k y)) f (all (suc i) y (omega (arith, h)))))

-- Arcs the other way round

pub turned_arc : (arcs : List Arc) (x y : ℕ) → has_arc (map turned arcs) x y ≡ has_arc arcs y x
turned_arc arcs x y = any_map (λ (a : Arc). (a.0 == x) && (a.1 == y)) turned arcs ∙ any_swapped arcs y x

pub turned_to : (top : ℕ) (arcs : List Arc) → ComeFromBelow top arcs → LeadBelow top (map turned arcs)
turned_to top arcs below = All-map (λ (a : Arc). a.1 < top) turned arcs below

-- Rows of names

pub any_and : {A : Type 0} (c : Bool) (t : A → Bool) (xs : List A) → list_any (λ x. c && t x) xs ≡ (c && list_any t xs)
any_and true t xs = refl
any_and {A} false t xs = none xs
  where
    none : (ys : List A) → list_any (λ x. false) ys ≡ false
    none [] = refl
    none (y ∷ ys) = none ys

pair_test : (n i j : ℕ) (o : Option ℕ) → passes (λ (a : Arc). (a.0 == i) && (a.1 == j)) (option_map (λ q. (n, q)) o) ≡ ((n == i) && passes (λ q. q == j) o)
pair_test n i j None = none (n == i)
  where
    none : (b : Bool) → false ≡ (b && false)
    none true = refl
    none false = refl
pair_test n i j (Some q) = refl

module _ {A : Type 0} (key : A → Name) (ys : List A) (distinct : AreDistinct key ys) where
  same_number : (q j : ℕ) (x : Name) (y : A) (b : Bool) → slice_get ys j ≡ Some y → number_in (map key ys) x ≡ Some q → bytes_eq x (key y) ≡ b → (q == j) ≡ b
  same_number q j x y true at e same =
      let is : x ≡ key y = (bytes_eq-Decides x (key y)).0 same in
      let one : Some q ≡ Some j = sym e ∙ ap (number_in (map key ys)) is ∙ number_by key ys j y distinct at (number_in (map key ys) (key y)) refl in
      eq-eqb q j (one_of_some one)
  same_number q j x y false at e same =
      ne_eqb q j (λ (s : q ≡ j).
      let f = number_found key ys q x e in
      let one : f.0 ≡ y = one_of_some (sym f.1 ∙ ap (slice_get ys) s ∙ at) in
      both_ways (bytes_eq x (key y)) same ((bytes_eq-Decides x (key y)).1 (sym f.2 ∙ ap key one)))

  no_number : (x : Name) (y : A) (j : ℕ) (b : Bool) → slice_get ys j ≡ Some y → number_in (map key ys) x ≡ None → bytes_eq x (key y) ≡ b → false ≡ b
  no_number x y j true at e same =
      let is : x ≡ key y = (bytes_eq-Decides x (key y)).0 same in
      let one : None ≡ Some j = sym e ∙ ap (number_in (map key ys)) is ∙ number_by key ys j y distinct at (number_in (map key ys) (key y)) refl in
      cc
  no_number x y j false at e same = refl

  numbered_as : (j : ℕ) (y : A) (x : Name) (o : Option ℕ) → slice_get ys j ≡ Some y → number_in (map key ys) x ≡ o → passes (λ q. q == j) o ≡ bytes_eq x (key y)
  numbered_as j y x None at e = no_number x y j (bytes_eq x (key y)) at e refl
  numbered_as j y x (Some q) at e = same_number q j x y (bytes_eq x (key y)) at e refl

  pairs_lead : (n i j : ℕ) (y : A) (xs : List Name) → slice_get ys j ≡ Some y → has_arc (pairs_in (map key ys) n xs) i j ≡ ((n == i) && names xs (key y))
  pairs_lead n i j y xs at =
      any_filter_map (λ (a : Arc). (a.0 == i) && (a.1 == j)) (λ id. option_map (λ q. (n, q)) (number_in (map key ys) id)) xs
      ∙ any_same (λ id. passes (λ (a : Arc). (a.0 == i) && (a.1 == j)) (option_map (λ q. (n, q)) (number_in (map key ys) id))) (λ id. (n == i) && bytes_eq id (key y))
      (λ id. pair_test n i j (number_in (map key ys) id) ∙ ap (λ b. (n == i) && b) (numbered_as j y id (number_in (map key ys) id) at refl)) xs
      ∙ any_and (n == i) (λ id. bytes_eq id (key y)) xs

  pairs_all : (P : Arc → Type 0) (n : ℕ) → ((q : ℕ) → q < length ys → P (n, q)) → (xs : List Name) → All P (pairs_in (map key ys) n xs)
  pairs_all P n all [] = All-nil P
  pairs_all P n all (x ∷ xs) = one (number_in (map key ys) x) refl (pairs_all P n all xs)
    where
      one : (o : Option ℕ) → number_in (map key ys) x ≡ o → All P (pairs_in (map key ys) n xs) → All P (cons_option (option_map (λ q. (n, q)) o) (pairs_in (map key ys) n xs))
      one None e rest = rest
      one (Some q) e rest = All-cons P (n, q) (pairs_in (map key ys) n xs) (all q (omega (arith, number_within (map key ys) x q e, length-map ys key))) rest

  -- whether an arc leads from the number of x to that of y: x names y
  pub pairs_named_lead : {B : Type 0} (named : B → List Name) (xs : List B) (i : ℕ) (x : B) (j : ℕ) (y : A) → slice_get xs i ≡ Some x → slice_get ys j ≡ Some y → has_arc (pairs_named (map key ys) named xs) (0 + i) j ≡ names (named x) (key y)
  pairs_named_lead {B} named xs i x j y at_i at_j =
      row_at (λ (m : ℕ) (z : B). pairs_in (map key ys) m (named z)) (λ m z. names (named z) (key y)) 0 xs i j x (λ m z k. pairs_lead m k j y (named z) at_j) at_i

  pub pairs_named_from : {B : Type 0} (named : B → List Name) (xs : List B) → ComeFromBelow (length xs) (pairs_named (map key ys) named xs)
  pairs_named_from {B} named xs =
      rows_all (λ (m : ℕ) (z : B). pairs_in (map key ys) m (named z)) (λ (a : Arc). a.0 < length xs) 0 xs
      (λ i x h. pairs_all (λ (a : Arc). a.0 < length xs) (0 + i) (λ q l. omega arith) (named x))

  pub pairs_named_to : {B : Type 0} (named : B → List Name) (xs : List B) → LeadBelow (length ys) (pairs_named (map key ys) named xs)
  pairs_named_to {B} named xs =
      rows_all (λ (m : ℕ) (z : B). pairs_in (map key ys) m (named z)) (λ (a : Arc). a.1 < length ys) 0 xs
      (λ i x h. pairs_all (λ (a : Arc). a.1 < length ys) (0 + i) (λ q l. l) (named x))

  pub naming_from : {B : Type 0} (named : B → List Name) (xs : List B) (back : List Arc) (n : ℕ) → back ≡ map turned (pairs_named (map key ys) named xs) → n ≡ length ys → ComeFromBelow n back
  naming_from {B} named xs back n is count =
      subst (λ (arcs : List Arc). ComeFromBelow n arcs) (sym is)
      (subst (λ m. ComeFromBelow m (map turned (pairs_named (map key ys) named xs))) (sym count) (turned_below (length ys) (pairs_named (map key ys) named xs) (pairs_named_to named xs)))

  pub naming_to : {B : Type 0} (named : B → List Name) (xs : List B) (back : List Arc) (m : ℕ) → back ≡ map turned (pairs_named (map key ys) named xs) → m ≡ length xs → LeadBelow m back
  naming_to {B} named xs back m is count =
      subst (λ (arcs : List Arc). LeadBelow m arcs) (sym is)
      (subst (λ k. LeadBelow k (map turned (pairs_named (map key ys) named xs))) (sym count) (turned_to (length xs) (pairs_named (map key ys) named xs) (pairs_named_from named xs)))

  pub naming_rows : {B : Type 0} (named : B → List Name) (xs : List B) (back : List Arc) (n m : ℕ) → back ≡ map turned (pairs_named (map key ys) named xs) → n ≡ length ys → m ≡ length xs → map (rising_leads m back) (range_with_len 0 n) ≡ map (λ (y : A). numbers_where (λ (x : B). names (named x) (key y)) xs) ys
  naming_rows {B} named xs back n m is count top =
      let arcs = pairs_named (map key ys) named xs in
      ap (λ (cs : List Arc). map (rising_leads m cs) (range_with_len 0 n)) is
      ∙ ap (λ k. map (rising_leads k (map turned arcs)) (range_with_len 0 n)) top
      ∙ ap (λ k. map (rising_leads (length xs) (map turned arcs)) (range_with_len 0 k)) count
      ∙ table (has_arc (map turned arcs)) (λ (y : A) (x : B). names (named x) (key y)) xs 0 ys
      (λ j y i x at_j at_i.
      let f : 0 + j ≡ j = omega arith in
      let g : i ≡ 0 + i = omega arith in
      turned_arc arcs (0 + j) i ∙ ap (has_arc arcs i) f ∙ ap (λ k. has_arc arcs k j) g ∙ pairs_named_lead named xs i x j y at_i at_j)

  pub listed_from : {B : Type 0} (named : B → List Name) (xs : List B) (arcs : List Arc) (n : ℕ) → arcs ≡ pairs_named (map key ys) named xs → n ≡ length xs → ComeFromBelow n arcs
  listed_from {B} named xs arcs n is count =
      subst (λ (cs : List Arc). ComeFromBelow n cs) (sym is) (subst (λ m. ComeFromBelow m (pairs_named (map key ys) named xs)) (sym count) (pairs_named_from named xs))

  pub listed_to : {B : Type 0} (named : B → List Name) (xs : List B) (arcs : List Arc) (m : ℕ) → arcs ≡ pairs_named (map key ys) named xs → m ≡ length ys → LeadBelow m arcs
  listed_to {B} named xs arcs m is count =
      subst (λ (cs : List Arc). LeadBelow m cs) (sym is) (subst (λ k. LeadBelow k (pairs_named (map key ys) named xs)) (sym count) (pairs_named_to named xs))

  pub listed_rows : {B : Type 0} (named : B → List Name) (xs : List B) (arcs : List Arc) (n m : ℕ) → arcs ≡ pairs_named (map key ys) named xs → n ≡ length xs → m ≡ length ys → map (rising_leads m arcs) (range_with_len 0 n) ≡ map (λ (x : B). numbers_where (λ (y : A). names (named x) (key y)) ys) xs
  listed_rows {B} named xs arcs n m is count top =
      let pairs = pairs_named (map key ys) named xs in
      ap (λ (cs : List Arc). map (rising_leads m cs) (range_with_len 0 n)) is
      ∙ ap (λ k. map (rising_leads k pairs) (range_with_len 0 n)) top
      ∙ ap (λ k. map (rising_leads (length ys) pairs) (range_with_len 0 k)) count
      ∙ table (has_arc pairs) (λ (x : B) (y : A). names (named x) (key y)) ys 0 xs (λ i x j y at_i at_j. pairs_named_lead named xs i x j y at_i at_j)

-- one more item and the ids that it names
pub named_more : {A : Type 0} (ids given_ids : List Name) (named : A → List Name) (xs : List A) (i : ℕ) (x : A) (old new : List Arc) (given : List Name) → given_ids ≡ ids → slice_get xs i ≡ Some x → given ≡ named x → old ≡ pairs_named ids named (take i xs) → new ≡ old ++ pairs_in given_ids i given → new ≡ pairs_named ids named (take (i + 1) xs)
named_more {A} ids given_ids named xs i x old new given same_ids at same is put =
    put ∙ ap (λ (cs : List Arc). cs ++ pairs_in given_ids i given) is
    ∙ ap (λ (gs : List Name). pairs_named ids named (take i xs) ++ pairs_in gs i given) same_ids
    ∙ ap (λ (gs : List Name). pairs_named ids named (take i xs) ++ pairs_in ids i gs) same
    ∙ sym (rows_more (λ (n : ℕ) (y : A). pairs_in ids n (named y)) xs i x at)
