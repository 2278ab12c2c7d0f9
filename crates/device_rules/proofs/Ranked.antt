-- Rules that are sorted, with numbers of their own, are in order.
use Rattle.std.proofs.Common.{◌≡◌, ◌∙◌, refl, sym, ap, subst, ℕ, suc, ◌+◌, ◌<◌, ◌≤◌, List, [], ◌∷◌, ◌++◌, length, drop, get_or, Bool, true, false, ◌&&◌, cond, arith, add-one, Ordering, Less, Equal, Greater, append_assoc}
use Rattle.std.specs.Prelude.{nat_eq, nat_lt}
use Rattle.std.specs.List.{sum_by, AllByRecursion}
use Rattle.std.specs.List.Sorted.{IsPermutation, IsSortedBy}
use Rattle.std.specs.Ordering.{nat_cmp, is_lt, is_eq, ordering_then, ordering_reverse}
use Rattle.std.specs.Cmp.{IsTotalOrder}
use Rattle.std.specs.Cmp.Lexicographic.{slice_cmp, nat_list_cmp_total, on_texts}
use Rattle.std.specs.Str.{bytes_eq}
use Rattle.std.proofs.lemmas.Cmp.{nat_cmp_total, then_total, on_total, tied_itself}
use Rattle.std.proofs.lemmas.Bool.{and_from}
use Rattle.std.proofs.lemmas.Bool.Decides.{nat_tests}
use Rattle.std.proofs.lemmas.List.Sums.{sum_by-cons}
use Rattle.std.proofs.lemmas.List.Sorted.{sum_by-IsPermutation}
use Rattle.std.proofs.lemmas.Map.Text.{is_eq-slice_cmp}
use Rattle.std.proofs.lemmas.Slice.Eq.{bytes_eq-Decides}
use Rattle.circuit_spec.specs.declared.hops.Hop.{Hop}
use Rattle.device_rules.specs.declared.rules.Rule.{Rule}
use Rattle.device_rules.specs.Rules.{At, Start, In, may_follow, IsRule, AreInOrder, AreLaidOut}
use Rattle.place_names.specs.Names.{is_below}
use Rattle.device_rules.specs.Numbering.{numbered, rule_cmp, AreRulesOf}
use Rattle.device_rules.proofs.Items.{at_item}

-- ---- numbers of their own

abbrev one : ℕ → ℕ → ℕ
one m n = cond (nat_eq m n) 1 0

one_same : (m n : ℕ) → m ≡ n → one m n ≡ 1
one_same m n e =
    let same : nat_eq m n ≡ true = grind (arith, nat_tests) in
    ap (λ (t : Bool). cond t 1 0) same

one_other : (m n : ℕ) → (m ≡ n → ⊥) → one m n ≡ 0
one_other m n other =
    let apart : nat_eq m n ≡ false = grind (arith, nat_tests, other) in
    ap (λ (t : Bool). cond t 1 0) apart

-- how many rules have this number
abbrev count : ℕ → List Rule → ℕ
count n rs = sum_by (λ r. one r.number n) rs

count_more : (n : ℕ) (r : Rule) (rs : List Rule) → count n (r ∷ rs) ≡ one r.number n + count n rs
count_more n r rs = sum_by-cons (λ r. one r.number n) r rs

none_below : (hs : List Hop) (m n : ℕ) → n < m → count n (numbered m hs) ≡ 0
none_below [] m n lt = refl
none_below (h ∷ hs) m n lt = omega (arith, count_more n (record { number = m; hop = h }) (numbered (suc m) hs), one_other m n (λ e. omega arith), none_below hs (suc m) n (omega arith))

at_most_one : (hs : List Hop) (m n : ℕ) → count n (numbered m hs) ≤ 1
at_most_one [] m n = omega arith
at_most_one (h ∷ hs) m n = by_test (at_most_one hs (suc m) n) (nat_eq m n) refl
  where
    by_test : count n (numbered (suc m) hs) ≤ 1 → (t : Bool) → nat_eq m n ≡ t → count n (record { number = m; hop = h } ∷ numbered (suc m) hs) ≤ 1
    by_test others true same =
        let e : m ≡ n = grind (arith, nat_tests) in
        omega (arith, count_more n (record { number = m; hop = h }) (numbered (suc m) hs), one_same m n e, none_below hs (suc m) n (omega (arith, e)))
    by_test others false apart =
        let zero_here : one m n ≡ 0 = ap (λ (t : Bool). cond t 1 0) apart in
        omega (arith, count_more n (record { number = m; hop = h }) (numbered (suc m) hs), zero_here, others)

-- ---- sorted rules

abbrev less : Rule → Rule → Bool
less a b = is_lt (rule_cmp a b)

pub rule_total : IsTotalOrder rule_cmp
rule_total = then_total (on_texts (λ (r : Rule). r.hop.domain)) (on_total (λ (r : Rule). r.number) nat_cmp_total)

abbrev IsRising : Rule → List Rule → Type 0
IsRising before [] = Unit {0}
IsRising before (r ∷ rs) = (less r before ≡ false) × IsRising r rs

rising : (before : Rule) (rs : List Rule) → IsSortedBy less (before ∷ rs) → IsRising before rs
rising before [] up = tt
rising before (r ∷ rs) up = (
  up 0 r (omega arith) (omega arith),
  rising r rs (λ k d low lt. let e : suc k + 1 ≡ suc (k + 1) = omega arith in subst (λ (j : ℕ). less (get_or (before ∷ r ∷ rs) j d) (get_or (r ∷ rs) k d) ≡ false) e (up (suc k) d (omega arith) (omega (arith, lt)))),
)

not_less : (a b : ℕ) → is_lt (nat_cmp b a) ≡ false → a ≤ b
not_less a b h = grind (arith, nat_tests)

above_by : (o p : Ordering) → is_lt (ordering_then o p) ≡ false → is_eq o ≡ false → o ≡ Greater
above_by Less p h e = absurd cc
above_by Equal p h e = absurd cc
above_by Greater p h e = refl

-- a rule that is not before another one follows it
follows : (a b : Rule) → less b a ≡ false → (a.number ≡ b.number → ⊥) → 0 < a.number → 0 < b.number → may_follow (In a.hop.domain a.number) b ≡ true
follows a b up apart some_a some_b = by_test (bytes_eq a.hop.domain b.hop.domain) refl
  where
    by_test : (t : Bool) → bytes_eq a.hop.domain b.hop.domain ≡ t → cond t (nat_lt a.number b.number) (nat_lt 0 a.number && (is_below a.hop.domain b.hop.domain && nat_lt 0 b.number)) ≡ true
    by_test true same =
        let is : a.hop.domain ≡ b.hop.domain = (bytes_eq-Decides a.hop.domain b.hop.domain).0 same in
        let tie : slice_cmp nat_cmp b.hop.domain a.hop.domain ≡ Equal = ap (slice_cmp nat_cmp b.hop.domain) is ∙ tied_itself nat_list_cmp_total b.hop.domain in
        let le : a.number ≤ b.number = not_less a.number b.number (ap (λ (o : Ordering). is_lt (ordering_then o (nat_cmp b.number a.number))) (sym tie) ∙ up) in
        let lt : a.number < b.number = grind (arith, apart, le) in
        grind (arith, nat_tests, lt)
    by_test false other =
        let differ : is_eq (slice_cmp nat_cmp b.hop.domain a.hop.domain) ≡ false = is_eq-slice_cmp b.hop.domain a.hop.domain ∙ turned (bytes_eq b.hop.domain a.hop.domain) refl in
        let above : slice_cmp nat_cmp b.hop.domain a.hop.domain ≡ Greater = above_by _ (nat_cmp b.number a.number) up differ in
        let below : is_below a.hop.domain b.hop.domain ≡ true = ap is_lt (nat_list_cmp_total.antisymm a.hop.domain b.hop.domain ∙ ap ordering_reverse above) in
        let first : nat_lt 0 a.number ≡ true = grind (arith, nat_tests) in
        let second : nat_lt 0 b.number ≡ true = grind (arith, nat_tests) in
        and_from (nat_lt 0 a.number) (is_below a.hop.domain b.hop.domain && nat_lt 0 b.number) first (and_from (is_below a.hop.domain b.hop.domain) (nat_lt 0 b.number) below second)
      where
        turned : (u : Bool) → bytes_eq b.hop.domain a.hop.domain ≡ u → bytes_eq b.hop.domain a.hop.domain ≡ false
        turned false e = e
        turned true e =
            let same : bytes_eq a.hop.domain b.hop.domain ≡ true = (bytes_eq-Decides a.hop.domain b.hop.domain).1 (sym ((bytes_eq-Decides b.hop.domain a.hop.domain).0 e)) in
            absurd cc

positive : (r : Rule) (rs : List Rule) → count 0 (r ∷ rs) ≡ 0 → 0 < r.number
positive r rs h = by_test (nat_eq r.number 0) refl
  where
    by_test : (t : Bool) → nat_eq r.number 0 ≡ t → 0 < r.number
    by_test true e =
        let here : one r.number 0 ≡ 1 = ap (λ (t : Bool). cond t 1 0) e in
        absurd (omega (arith, count_more 0 r rs, here))
    by_test false e = grind (arith, nat_tests)

fewer : (n most : ℕ) (r : Rule) (rs : List Rule) → count n (r ∷ rs) ≤ most → count n rs ≤ most
fewer n most r rs h = omega (arith, count_more n r rs)

two_apart : (a b : Rule) (rs : List Rule) → count a.number (a ∷ b ∷ rs) ≤ 1 → a.number ≡ b.number → ⊥
two_apart a b rs h e = omega (arith, count_more a.number a (b ∷ rs), count_more a.number b rs, one_same a.number a.number refl, one_same b.number a.number (sym e))

behind_in_order : (before : Rule) (rs : List Rule) → IsRising before rs → ((n : ℕ) → count n (before ∷ rs) ≤ 1) → count 0 (before ∷ rs) ≤ 0 → AreInOrder (In before.hop.domain before.number) rs
behind_in_order before [] up own some = positive before [] (omega arith)
behind_in_order before (r ∷ rs) up own some = (
  follows before r up.0 (two_apart before r rs (own before.number)) (positive before (r ∷ rs) (omega arith)) (positive r rs (omega (arith, fewer 0 0 before (r ∷ rs) some))),
  behind_in_order r rs up.1 (λ n. fewer n 1 before (r ∷ rs) (own n)) (fewer 0 0 before (r ∷ rs) some),
)

in_order : (rs : List Rule) → IsSortedBy less rs → ((n : ℕ) → count n rs ≤ 1) → count 0 rs ≤ 0 → AreInOrder Start rs
in_order [] up own some = tt
in_order (r ∷ rs) up own some =
    let some_r : 0 < r.number = positive r rs (omega arith) in
    (grind (arith, nat_tests, some_r), behind_in_order r rs (rising r rs up) own some)

pub sorted_are_rules : (hops : List Hop) (rs ss : List Rule) → rs ≡ numbered 1 hops → IsPermutation rs ss → IsSortedBy less ss → AreRulesOf hops ss
sorted_are_rules hops rs ss is moved up = record {
  same = subst (λ (qs : List Rule). IsPermutation qs ss) is moved;
  in_order = in_order ss up
      (λ n. omega (arith, counted n, at_most_one hops 1 n))
      (omega (arith, counted 0, none_below hops 1 0 (omega arith)));
}
  where
    counted : (n : ℕ) → count n ss ≡ count n (numbered 1 hops)
    counted n = sum_by-IsPermutation (λ r. one r.number n) rs ss moved ∙ ap (count n) is

-- ---- the layout

pub all_laid_out : (at : At) (rs : List Rule) → AllByRecursion IsRule rs → AreInOrder at rs → AreLaidOut at rs
all_laid_out Start [] fit order = tt
all_laid_out (In last n) [] fit order = order
all_laid_out Start (r ∷ rs) fit order = (fit.0, order.0, all_laid_out (In r.hop.domain r.number) rs fit.1 order.1)
all_laid_out (In last n) (r ∷ rs) fit order = (fit.0, order.0, all_laid_out (In r.hop.domain r.number) rs fit.1 order.1)

-- ---- numbering

pub numbered_step : (rules new whole : List Rule) (hs : List Hop) (i : ℕ) (h : Hop) → h ≡ get_or hs i h → i < length hs → new ≡ rules ++ record { number = i + 1; hop = h } ∷ [] → rules ++ numbered (i + 1) (drop i hs) ≡ whole → new ++ numbered (i + 1 + 1) (drop (i + 1) hs) ≡ whole
numbered_step rules new whole hs i h is lt pushed before =
    ap (λ (rs : List Rule). rs ++ numbered (i + 1 + 1) (drop (i + 1) hs)) pushed
    ∙ append_assoc rules (record { number = i + 1; hop = h } ∷ []) (numbered (i + 1 + 1) (drop (i + 1) hs))
    ∙ ap (λ (k : ℕ). rules ++ record { number = i + 1; hop = h } ∷ numbered k (drop (i + 1) hs)) (add-one (i + 1))
    ∙ ap (λ (xs : List Hop). rules ++ numbered (i + 1) xs) (sym (at_item hs i h is lt))
    ∙ before
