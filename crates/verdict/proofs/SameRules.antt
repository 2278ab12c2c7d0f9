-- Hops have one list of rules: lists in order with the same rules are one.
use Rattle.std.proofs.Common.{◌≡◌, ◌⊎◌, ◌<◌, ℕ, zero, suc, inl, inr, List, [], ◌∷◌, length, Bool, true, false, ◌&&◌, cond, refl, sym, ◌∙◌, ap, subst, get_or, arith, Ordering, Less, Equal, Greater}
use Rattle.std.specs.Prelude.{nat_lt}
use Rattle.std.specs.List.Sorted.{IsPermutation}
use Rattle.std.specs.Ordering.{nat_cmp, is_lt}
use Rattle.std.specs.Cmp.Lexicographic.{slice_cmp}
use Rattle.std.specs.Str.{bytes_eq}
use Rattle.std.proofs.lemmas.Bool.{and_parts}
use Rattle.std.proofs.lemmas.Bool.Decides.{nat_tests}
use Rattle.std.proofs.lemmas.Cmp.{nat_list_cmp_total, tied_itself}
use Rattle.std.proofs.lemmas.List.Sorted.{IsPermutation-sym, Contains-permutation}
use Rattle.std.proofs.lemmas.Slice.Eq.{bytes_eq-Decides}
use Rattle.circuit_spec.specs.declared.hops.Hop.{Hop}
use Rattle.circuit_spec.proofs.Among.{IsAmong}
use Rattle.circuit_spec.proofs.Lists.{contains_among}
use Rattle.device_rules.specs.declared.rules.Rule.{Rule}
use Rattle.line_text.specs.Fields.{Word}
use Rattle.device_rules.specs.Rules.{Start, In, may_follow, AreInOrder}
use Rattle.place_names.specs.Names.{is_below}
use Rattle.device_rules.specs.Numbering.{numbered, AreRulesOf}

-- ---- the order

-- in the same domain by number, else by domain
abbrev Precedes : Rule → Rule → Type 0
Precedes a b = ((a.hop.domain ≡ b.hop.domain) × (a.number < b.number)) ⊎ (is_below a.hop.domain b.hop.domain ≡ true)

is_less : (o : Ordering) → is_lt o ≡ true → o ≡ Less
is_less Less e = refl
is_less Equal e = cc
is_less Greater e = cc

not_less : (o : Ordering) → o ≡ Equal → is_lt o ≡ true → ⊥
not_less o e f = absurd cc

never_below : (d : Word) → is_below d d ≡ true → ⊥
never_below d h = not_less (slice_cmp nat_cmp d d) (tied_itself nat_list_cmp_total d) h

below_on : (c d e : Word) → is_below c d ≡ true → is_below d e ≡ true → is_below c e ≡ true
below_on c d e h k = ap is_lt (nat_list_cmp_total.trans c d e (is_less (slice_cmp nat_cmp c d) h) (is_less (slice_cmp nat_cmp d e) k))

never : (a : Rule) → Precedes a a → ⊥
never a (inl h) = omega (arith, h.1)
never a (inr h) = never_below a.hop.domain h

on : (a b c : Rule) → Precedes a b → Precedes b c → Precedes a c
on a b c (inl h) (inl k) = inl (h.0 ∙ k.0, omega (arith, h.1, k.1))
on a b c (inl h) (inr k) = inr (subst (λ (d : Word). is_below d c.hop.domain ≡ true) (sym h.0) k)
on a b c (inr h) (inl k) = inr (subst (λ (d : Word). is_below a.hop.domain d ≡ true) k.0 h)
on a b c (inr h) (inr k) = inr (below_on a.hop.domain b.hop.domain c.hop.domain h k)

follows : (a b : Rule) → may_follow (In a.hop.domain a.number) b ≡ true → Precedes a b
follows a b h = by_test (bytes_eq a.hop.domain b.hop.domain) refl h
  where
    by_test : (t : Bool) → bytes_eq a.hop.domain b.hop.domain ≡ t → cond t (nat_lt a.number b.number) (nat_lt 0 a.number && (is_below a.hop.domain b.hop.domain && nat_lt 0 b.number)) ≡ true → Precedes a b
    by_test true e k = inl ((bytes_eq-Decides a.hop.domain b.hop.domain).0 e, grind (arith, nat_tests, k))
    by_test false e k = inr (and_parts (is_below a.hop.domain b.hop.domain) (nat_lt 0 b.number) (and_parts (nat_lt 0 a.number) (is_below a.hop.domain b.hop.domain && nat_lt 0 b.number) k).1).0

-- ---- lists in order

all_behind : (r : Rule) (rs : List Rule) → AreInOrder (In r.hop.domain r.number) rs → (q : Rule) → IsAmong rs q → Precedes r q
all_behind r [] up q among = absurd among
all_behind r (x ∷ rs) up q (inl e) = subst (Precedes r) (sym e) (follows r x up.0)
all_behind r (x ∷ rs) up q (inr later) = on r x q (follows r x up.0) (all_behind x rs up.1 q later)

-- the items of the one list are items of the other
abbrev Within : List Rule → List Rule → Type 0
Within xs ys = (r : Rule) → IsAmong xs r → IsAmong ys r

same_head : (x y : Rule) (xs ys : List Rule) → AreInOrder (In x.hop.domain x.number) xs → AreInOrder (In y.hop.domain y.number) ys → (x ≡ y) ⊎ IsAmong ys x → (y ≡ x) ⊎ IsAmong xs y → x ≡ y
same_head x y xs ys up up' (inl e) other = e
same_head x y xs ys up up' (inr later) (inl e) = sym e
same_head x y xs ys up up' (inr later) (inr after) = absurd (never x (on x y x (all_behind x xs up y after) (all_behind y ys up' x later)))

same_tail : (x y : Rule) (xs ys : List Rule) → AreInOrder (In x.hop.domain x.number) xs → x ≡ y → Within (x ∷ xs) (y ∷ ys) → Within xs ys
same_tail x y xs ys up same within r among =
    elim (within r (inr among)) [
      | inl e ↦ absurd (never x (subst (Precedes x) (e ∙ sym same) (all_behind x xs up r among)))
      | inr later ↦ later
    ]

same_behind : (xs ys : List Rule) (a b : Rule) → AreInOrder (In a.hop.domain a.number) xs → AreInOrder (In b.hop.domain b.number) ys → Within xs ys → Within ys xs → xs ≡ ys
same_behind [] [] a b up up' to back = refl
same_behind [] (y ∷ ys) a b up up' to back = absurd (back y (inl refl))
same_behind (x ∷ xs) [] a b up up' to back = absurd (to x (inl refl))
same_behind (x ∷ xs) (y ∷ ys) a b up up' to back =
    let head = same_head x y xs ys up.1 up'.1 (to x (inl refl)) (back y (inl refl)) in
    let tail = same_behind xs ys x y up.1 up'.1 (same_tail x y xs ys up.1 head to) (same_tail y x ys xs up'.1 (sym head) back) in
    cc

same_lists : (xs ys : List Rule) → AreInOrder Start xs → AreInOrder Start ys → Within xs ys → Within ys xs → xs ≡ ys
same_lists [] [] up up' to back = refl
same_lists [] (y ∷ ys) up up' to back = absurd (back y (inl refl))
same_lists (x ∷ xs) [] up up' to back = absurd (to x (inl refl))
same_lists (x ∷ xs) (y ∷ ys) up up' to back =
    let head = same_head x y xs ys up.1 up'.1 (to x (inl refl)) (back y (inl refl)) in
    let tail = same_behind xs ys x y up.1 up'.1 (same_tail x y xs ys up.1 head to) (same_tail y x ys xs up'.1 (sym head) back) in
    cc

-- ---- the rules of hops

contained : {A : Type 0} (xs : List A) (k : ℕ) (x : A) → k < length xs → get_or xs k x ≡ x → IsAmong xs x
contained [] k x low at = absurd (omega arith)
contained (y ∷ ys) zero x low at = inl (sym at)
contained (y ∷ ys) (suc k) x low at = inr (contained ys k x (omega (arith, low)) at)

moved : (xs ys zs : List Rule) → IsPermutation xs ys → IsPermutation xs zs → Within ys zs
moved xs ys zs p q r among =
    let first = Contains-permutation ys xs r (IsPermutation-sym xs ys p) (contains_among ys r among) in
    let second = Contains-permutation xs zs r q first in
    contained zs second.0 r second.1 second.2

pub one_rules : (hops : List Hop) (xs ys : List Rule) → AreRulesOf hops xs → AreRulesOf hops ys → xs ≡ ys
one_rules hops xs ys f g = same_lists xs ys f.in_order g.in_order (moved (numbered 1 hops) xs ys f.same g.same) (moved (numbered 1 hops) ys xs g.same f.same)
