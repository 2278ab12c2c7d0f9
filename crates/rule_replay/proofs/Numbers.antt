-- Rules that are hops with their numbers: each number stands once, and the hops are one list.
use Rattle.std.proofs.Common.{◌≡◌, ◌≢◌, ◌⊎◌, inl, inr, ℕ, zero, suc, ◌+◌, ◌<◌, ◌≤◌, List, [], ◌∷◌, ◌++◌, Bool, true, false, cond, Some, length, map, refl, sym, ◌∙◌, ap, subst, arith, nat_eq}
use Rattle.std.specs.Prelude.{slice_get}
use Rattle.std.specs.List.{Contains}
use Rattle.std.specs.List.Sorted.{IsPermutation}
use Rattle.std.proofs.lemmas.Bool.{cases_eq, eq-eqb, ne_eqb}
use Rattle.std.proofs.lemmas.List.Elements.{Contains-append_left, Contains-append_right}
use Rattle.std.proofs.lemmas.List.Sorted.{Contains-permutation, IsPermutation-map, IsPermutation-sym, IsPermutation-trans, length_permutation, sum_by-IsPermutation}
use Rattle.std.proofs.lemmas.List.Sums.{sum_by-append}
use Rattle.circuit_spec.specs.declared.hops.Hop.{Hop}
use Rattle.device_rules.specs.declared.rules.Rule.{Rule}
use Rattle.device_rules.specs.Numbering.{numbered}
use Rattle.table_replay.proofs.Places.{contains_cases}
use Rattle.rule_replay.specs.Replaying.{AreByNumber, IsFirstMisnumbered, count_of}

abbrev make_rule : ℕ → Hop → Rule
make_rule n hop = record { number = n; hop = hop }

count_first : (r : Rule) (rules : List Rule) (n : ℕ) → count_of (r ∷ rules) n ≡ cond (nat_eq r.number n) 1 0 + count_of rules n
count_first r rules n = sum_by-append (λ (rule : Rule). cond (nat_eq rule.number n) 1 0) (r ∷ []) rules ∙ ap (λ m. m + count_of rules n) (omega arith)

count_here : (r : Rule) (rules : List Rule) (n : ℕ) → r.number ≡ n → count_of (r ∷ rules) n ≡ 1 + count_of rules n
count_here r rules n e = count_first r rules n ∙ ap (λ (b : Bool). cond b 1 0 + count_of rules n) (eq-eqb r.number n e)

count_past : (r : Rule) (rules : List Rule) (n : ℕ) → (r.number ≢ n) → count_of (r ∷ rules) n ≡ count_of rules n
count_past r rules n e = count_first r rules n ∙ ap (λ (b : Bool). cond b 1 0 + count_of rules n) (ne_eqb r.number n e) ∙ omega arith

count_below : (hops : List Hop) (s n : ℕ) → n < s → count_of (numbered s hops) n ≡ 0
count_below [] s n below = omega arith
count_below (h ∷ hops) s n below =
    count_past (make_rule s h) (numbered (suc s) hops) n (λ e. omega (arith, e, below)) ∙ count_below hops (suc s) n (omega (arith, below))

count_within : (hops : List Hop) (s n : ℕ) → s ≤ n → n < s + length hops → count_of (numbered s hops) n ≡ 1
count_within [] s n above below = absurd (omega (arith, above, below))
count_within (h ∷ hops) s n above below =
    elim (cases_eq s n) as (λ v. count_of (numbered s (h ∷ hops)) n ≡ 1) [
      | inl e ↦ let none = count_below hops (suc s) n (omega (arith, e)) in let here = count_here (make_rule s h) (numbered (suc s) hops) n e in omega (arith, none, here)
      | inr ne ↦ count_past (make_rule s h) (numbered (suc s) hops) n ne ∙ count_within hops (suc s) n (omega (arith, above, ne)) (omega (arith, below))
    ]

long_numbered : (hops : List Hop) (s : ℕ) → length (numbered s hops) ≡ length hops
long_numbered [] s = refl
long_numbered (h ∷ hops) s = ap suc (long_numbered hops (suc s))

-- numbers from 1 that each stand once are not misnumbered
pub not_misnumbered : (rules : List Rule) (hops : List Hop) (n : ℕ) → AreByNumber rules hops → IsFirstMisnumbered rules n → ⊥
not_misnumbered rules hops n by first =
    let long = length_permutation (numbered 1 hops) rules by in
    let same = long_numbered hops 1 in
    let above = first.above in
    let within = first.within in
    first.fails (sum_by-IsPermutation (λ (rule : Rule). cond (nat_eq rule.number n) 1 0) (numbered 1 hops) rules by ∙ count_within hops 1 n (omega (arith, above)) (omega (arith, long, same, within)))

pub misnumbered_one : (rules : List Rule) (m n : ℕ) → IsFirstMisnumbered rules m → IsFirstMisnumbered rules n → m ≡ n
misnumbered_one rules m n x y = elim (cases_eq m n) as (λ v. m ≡ n) [ inl e ↦ e | inr ne ↦ absurd (apart ne) ]
  where
    less : (i j : ℕ) → i < j → IsFirstMisnumbered rules i → IsFirstMisnumbered rules j → ⊥
    less i j below a b = a.fails (b.before i a.above below)

    ways : (i j : ℕ) → (i ≢ j) → (i < j) ⊎ (j < i)
    ways i j ne = grind arith

    apart : (m ≢ n) → ⊥
    apart ne = elim (ways m n ne) as (λ v. ⊥) [ inl l ↦ less m n l x y | inr l ↦ less n m l y x ]

-- the hops are one list

number_above : (hops : List Hop) (s : ℕ) (r : Rule) → Contains (numbered s hops) r → s ≤ r.number
number_above [] s r held = absurd (omega (arith, held.1))
number_above (h ∷ hops) s r held =
    elim (contains_cases (make_rule s h) r (numbered (suc s) hops) held) as (λ v. s ≤ r.number) [
      | inl e ↦ let same = ap (λ (x : Rule). x.number) e in omega (arith, same)
      | inr later ↦ let more = number_above hops (suc s) r later in omega (arith, more)
    ]

at_number : (hops : List Hop) (s k : ℕ) (h : Hop) → Contains (numbered s hops) (make_rule (s + k) h) → slice_get hops k ≡ Some h
at_number [] s k h held = absurd (omega (arith, held.1))
at_number (x ∷ hops) s zero h held =
    elim (contains_cases (make_rule s x) (make_rule (s + zero) h) (numbered (suc s) hops) held) as (λ v. slice_get (x ∷ hops) zero ≡ Some h) [
      | inl e ↦ ap (λ (r : Rule). Some r.hop) e
      | inr later ↦ absurd (let more = number_above hops (suc s) (make_rule (s + zero) h) later in omega (arith, more))
    ]
at_number (x ∷ hops) s (suc k) h held =
    elim (contains_cases (make_rule s x) (make_rule (s + suc k) h) (numbered (suc s) hops) held) as (λ v. slice_get (x ∷ hops) (suc k) ≡ Some h) [
      | inl e ↦ absurd (let same = ap (λ (r : Rule). r.number) e in omega (arith, same))
      | inr later ↦ let number : s + suc k ≡ suc s + k = omega arith in at_number hops (suc s) k h (subst (λ m. Contains (numbered (suc s) hops) (make_rule m h)) number later)
    ]

held_number : (hops : List Hop) (s k : ℕ) (h : Hop) → slice_get hops k ≡ Some h → Contains (numbered s hops) (make_rule (s + k) h)
held_number [] s k h at = absurd (cc)
held_number (x ∷ hops) s zero h at =
    let same : x ≡ h = cc in
    let number : s ≡ s + zero = omega arith in
    Contains-append_left (make_rule s x ∷ []) (numbered (suc s) hops) (make_rule (s + zero) h) (0, omega arith, ap (make_rule s) same ∙ ap (λ m. make_rule m h) number)
held_number (x ∷ hops) s (suc k) h at =
    let number : suc s + k ≡ s + suc k = omega arith in
    Contains-append_right (make_rule s x ∷ []) (numbered (suc s) hops) (make_rule (s + suc k) h) (subst (λ m. Contains (numbered (suc s) hops) (make_rule m h)) number (held_number hops (suc s) k h at))

same_list : (xs ys : List Hop) → length xs ≡ length ys → ((k : ℕ) (h : Hop) → slice_get xs k ≡ Some h → slice_get ys k ≡ Some h) → xs ≡ ys
same_list [] [] e each = refl
same_list [] (y ∷ ys) e each = absurd (omega (arith, e))
same_list (x ∷ xs) [] e each = absurd (omega (arith, e))
same_list (x ∷ xs) (y ∷ ys) e each =
    let first : y ≡ x = let f = each zero x refl in cc in
    ap (λ z. z ∷ xs) (sym first) ∙ ap (λ l. y ∷ l) (same_list xs ys (omega (arith, e)) (λ k h at. each (suc k) h at))

pub one_by_number : (rules : List Rule) (xs ys : List Hop) → AreByNumber rules xs → AreByNumber rules ys → xs ≡ ys
one_by_number rules xs ys x y =
    let moved = IsPermutation-trans (numbered 1 xs) rules (numbered 1 ys) x (IsPermutation-sym (numbered 1 ys) rules y) in
    let long = length_permutation (numbered 1 xs) (numbered 1 ys) moved in
    same_list xs ys (sym (long_numbered xs 1) ∙ sym long ∙ long_numbered ys 1) (λ k h at. at_number ys 1 k h (Contains-permutation (numbered 1 xs) (numbered 1 ys) (make_rule (1 + k) h) moved (held_number xs 1 k h at)))

-- the hops of numbered hops are these hops
pub hops_numbered : (hops : List Hop) (s : ℕ) → map (λ (rule : Rule). rule.hop) (numbered s hops) ≡ hops
hops_numbered [] s = refl
hops_numbered (h ∷ hops) s = ap (λ l. h ∷ l) (hops_numbered hops (suc s))
