-- Where the lines of two lists of rules first differ.
use Rattle.std.proofs.Common.{◌≡◌, ◌≤◌, ◌<◌, ℕ, zero, suc, ◌+◌, ◌*◌, List, [], ◌∷◌, ◌++◌, length, take, drop, Bool, true, false, ◌&&◌, cond, IsTrue, Option, None, Some, refl, sym, ◌∙◌, ap, subst, arith, append_assoc, length-append}
use Rattle.std.specs.Prelude.{nat_lt, slice_get, codes}
use Rattle.std.specs.Str.{bytes_eq}
use Rattle.std.proofs.lemmas.Bool.{and_parts}
use Rattle.std.proofs.lemmas.Bool.Decides.{nat_tests}
use Rattle.std.proofs.lemmas.List.{drop_more, drop_all, take_all, take_more_same}
use Rattle.std.proofs.lemmas.Option.{get_or_from_slice_get, slice_get_within}
use Rattle.std.proofs.lemmas.Slice.Eq.{bytes_eq-Decides}
use Rattle.device_rules.specs.declared.rules.Rule.{Rule}
use Rattle.line_text.specs.Lines.{Line, said}
use Rattle.line_text.specs.Fields.{Word, words_in}
use Rattle.place_names.specs.Names.{is_id, is_below}
use Rattle.device_rules.specs.Rules.{At, Start, In, IsRule, AreLaidOut, may_follow}
use Rattle.domain_config.specs.Rules.{domain_line, domain_lines, rule_line, rule_lines, rule_step, rules_end}
use Rattle.domain_config.proofs.RuleLaws.{domain_words, rules_only}
use Rattle.verdict.specs.First.{IsFirstDifference}

-- ---- lists that first differ

pub heads_differ : {A : Type 0} (x y : A) (xs ys : List A) → (x ≡ y → ⊥) → IsFirstDifference (x ∷ xs) (y ∷ ys) 0
heads_differ x y xs ys apart = record { before = refl; differ = λ e. apart cc }

pub goes_on : {A : Type 0} (zs : List A) (x : A) (xs : List A) → IsFirstDifference (zs ++ x ∷ xs) [] 0
goes_on [] x xs = record { before = refl; differ = λ e. absurd cc }
goes_on (z ∷ zs) x xs = record { before = refl; differ = λ e. absurd cc }

pub comes_late : {A : Type 0} (zs : List A) (x : A) (xs : List A) → IsFirstDifference [] (zs ++ x ∷ xs) 0
comes_late [] x xs = record { before = refl; differ = λ e. absurd cc }
comes_late (z ∷ zs) x xs = record { before = refl; differ = λ e. absurd cc }

later : {A : Type 0} (x : A) (xs ys : List A) (k : ℕ) → IsFirstDifference xs ys k → IsFirstDifference (x ∷ xs) (x ∷ ys) (suc k)
later x xs ys k f = record { before = ap (λ (zs : List _). x ∷ zs) f.before; differ = f.differ }

pub behind : {A : Type 0} (zs xs ys : List A) (k n : ℕ) → n ≡ length zs + k → IsFirstDifference xs ys k → IsFirstDifference (zs ++ xs) (zs ++ ys) n
behind [] xs ys k n at f = subst (IsFirstDifference xs ys) (omega (arith, at)) f
behind (z ∷ zs) xs ys k n at f =
    subst (IsFirstDifference (z ∷ (zs ++ xs)) (z ∷ (zs ++ ys))) (omega (arith, at)) (later z (zs ++ xs) (zs ++ ys) (length zs + k) (behind zs xs ys k (length zs + k) refl f))

-- ---- lines

first : Line → ℕ
first [] = 0
first (b ∷ bs) = b

-- a rule is told apart from a domain by its first letter
pub kinds_apart : (r : Rule) (d : Word) → rule_line r ≡ domain_line d → ⊥
unfolding first
kinds_apart r d e = let letters : 114 ≡ 100 = ap first e in omega (arith, letters)

one_domain : (c d : Word) → ◌≡◌ {A = List Word} (codes "domain" ∷ c ∷ []) (codes "domain" ∷ d ∷ []) → c ≡ d
one_domain c d e = cc

pub domain_is : (c d : Word) → IsTrue (is_id c) → IsTrue (is_id d) → domain_line c ≡ domain_line d → c ≡ d
domain_is c d ic id e = one_domain c d (sym (domain_words c ic) ∙ ap words_in e ∙ domain_words d id)

abbrev says : At → List Line → Option (List Rule)
says = said rule_step rules_end

pub rule_is : (r s : Rule) → IsRule r → IsRule s → 0 < r.number → 0 < s.number → r.hop.domain ≡ s.hop.domain → rule_line r ≡ rule_line s → r ≡ s
rule_is r s ir is some_r some_s domain e =
    let is_some : (q : Rule) → 0 < q.number → nat_lt 0 q.number ≡ true = λ q some. grind (arith, nat_tests, some) in
    let said_r = rules_only Start (r ∷ []) (ir, is_some r some_r, some_r) in
    let said_s = rules_only Start (s ∷ []) (is, is_some s some_s, some_s) in
    let lines : (domain_line r.hop.domain ∷ rule_line r ∷ []) ≡ domain_line s.hop.domain ∷ rule_line s ∷ [] = ap (λ (d : Word). domain_line d ∷ rule_line r ∷ []) domain ∙ ap (λ (l : Line). domain_line s.hop.domain ∷ l ∷ []) e in
    one_of_lists (sym said_r ∙ ap (says Start) lines ∙ said_s)
  where
    one_of_lists : Some (r ∷ []) ≡ Some (s ∷ []) → r ≡ s
    one_of_lists f = cc

-- a rule that may follow has a number
numbered : (at : At) (r : Rule) → may_follow at r ≡ true → 0 < r.number
numbered Start r h = grind (arith, nat_tests, h)
numbered (In last n) r h = by_test (bytes_eq last r.hop.domain) h
  where
    by_test : (t : Bool) → cond t (nat_lt n r.number) (nat_lt 0 n && (is_below last r.hop.domain && nat_lt 0 r.number)) ≡ true → 0 < r.number
    by_test true k = let lt : n < r.number = grind (arith, nat_tests, k) in omega (arith, lt)
    by_test false k =
        let some = (and_parts (is_below last r.hop.domain) (nat_lt 0 r.number) (and_parts (nat_lt 0 n) (is_below last r.hop.domain && nat_lt 0 r.number) k).1).1 in
        grind (arith, nat_tests, some)

-- ---- the first rules that differ

-- the first rule of a list that is laid out
pub record Heads (at : At) (r : Rule) (rs : List Rule) : Type 0 where
  pub is_rule : IsRule r
  pub follows : may_follow at r ≡ true
  pub rest : AreLaidOut (In r.hop.domain r.number) rs

pub heads : (at : At) (r : Rule) (rs : List Rule) → AreLaidOut at (r ∷ rs) → Heads at r rs
heads Start r rs l = record { is_rule = l.0; follows = l.1; rest = l.2 }
heads (In last n) r rs l = record { is_rule = l.0; follows = l.1; rest = l.2 }

-- the list ends
pub none_due : (at : At) (r : Rule) (rs : List Rule) → IsFirstDifference (rule_lines at (r ∷ rs)) [] 0
none_due Start r rs = goes_on (domain_line r.hop.domain ∷ []) (rule_line r) (rule_lines (In r.hop.domain r.number) rs)
none_due (In last n) r rs = goes_on (domain_lines (In last n) r.hop.domain) (rule_line r) (rule_lines (In r.hop.domain r.number) rs)

pub more_due : (at : At) (r : Rule) (rs : List Rule) → IsFirstDifference [] (rule_lines at (r ∷ rs)) 0
more_due Start r rs = comes_late (domain_line r.hop.domain ∷ []) (rule_line r) (rule_lines (In r.hop.domain r.number) rs)
more_due (In last n) r rs = comes_late (domain_lines (In last n) r.hop.domain) (rule_line r) (rule_lines (In r.hop.domain r.number) rs)

-- the rules have one domain
pub in_domain : (at : At) (r : Rule) (rs : List Rule) (s : Rule) (ss : List Rule) (n : ℕ) → AreLaidOut at (r ∷ rs) → AreLaidOut at (s ∷ ss) → (r ≡ s → ⊥) → r.hop.domain ≡ s.hop.domain → n ≡ length (domain_lines at r.hop.domain) → IsFirstDifference (rule_lines at (r ∷ rs)) (rule_lines at (s ∷ ss)) n
in_domain at r rs s ss n l m apart same counted =
    let h = heads at r rs l in
    let k = heads at s ss m in
    let lines : rule_line r ≡ rule_line s → ⊥ = λ e. apart (rule_is r s h.is_rule k.is_rule (numbered at r h.follows) (numbered at s k.follows) same e) in
    let front = domain_lines at r.hop.domain in
    let one = behind front (rule_line r ∷ rule_lines (In r.hop.domain r.number) rs) (rule_line s ∷ rule_lines (In s.hop.domain s.number) ss) 0 n (omega (arith, counted)) (heads_differ (rule_line r) (rule_line s) (rule_lines (In r.hop.domain r.number) rs) (rule_lines (In s.hop.domain s.number) ss) lines) in
    let moved = ap (λ (d : Word). domain_lines at d ++ rule_line s ∷ rule_lines (In s.hop.domain s.number) ss) same in
    subst (λ (ls : List Line). IsFirstDifference (front ++ rule_line r ∷ rule_lines (In r.hop.domain r.number) rs) ls n) moved one

-- the rules have two domains
pub two_domains : (at : At) (r : Rule) (rs : List Rule) (s : Rule) (ss : List Rule) → AreLaidOut at (r ∷ rs) → AreLaidOut at (s ∷ ss) → (r.hop.domain ≡ s.hop.domain → ⊥) → IsFirstDifference (rule_lines at (r ∷ rs)) (rule_lines at (s ∷ ss)) 0
two_domains Start r rs s ss l m apart =
    heads_differ (domain_line r.hop.domain) (domain_line s.hop.domain) (rule_line r ∷ rule_lines (In r.hop.domain r.number) rs) (rule_line s ∷ rule_lines (In s.hop.domain s.number) ss)
    (λ e. apart (domain_is r.hop.domain s.hop.domain l.0.domain m.0.domain e))
two_domains (In last n) r rs s ss l m apart = by_tests (bytes_eq last r.hop.domain) (bytes_eq last s.hop.domain) refl refl
  where
    by_tests : (t u : Bool) → bytes_eq last r.hop.domain ≡ t → bytes_eq last s.hop.domain ≡ u
        → IsFirstDifference (cond t [] (domain_line r.hop.domain ∷ []) ++ rule_line r ∷ rule_lines (In r.hop.domain r.number) rs) (cond u [] (domain_line s.hop.domain ∷ []) ++ rule_line s ∷ rule_lines (In s.hop.domain s.number) ss) 0
    by_tests true true e f = absurd (apart (sym ((bytes_eq-Decides last r.hop.domain).0 e) ∙ (bytes_eq-Decides last s.hop.domain).0 f))
    by_tests true false e f = heads_differ (rule_line r) (domain_line s.hop.domain) (rule_lines (In r.hop.domain r.number) rs) (rule_line s ∷ rule_lines (In s.hop.domain s.number) ss) (kinds_apart r s.hop.domain)
    by_tests false true e f = heads_differ (domain_line r.hop.domain) (rule_line s) (rule_line r ∷ rule_lines (In r.hop.domain r.number) rs) (rule_lines (In s.hop.domain s.number) ss) (λ g. kinds_apart s r.hop.domain (sym g))
    by_tests false false e f =
        heads_differ (domain_line r.hop.domain) (domain_line s.hop.domain) (rule_line r ∷ rule_lines (In r.hop.domain r.number) rs) (rule_line s ∷ rule_lines (In s.hop.domain s.number) ss)
        (λ g. apart (domain_is r.hop.domain s.hop.domain l.0.domain m.0.domain g))

-- ---- rules that agree so far

-- the first i rules are those due, and their lines too; behind them both lists go on from here
pub record AgreeTo (rules due : List Rule) (i : ℕ) (at : At) (lines : ℕ) : Type 0 where
  pub front : List Line
  pub rules_lines : rule_lines Start rules ≡ front ++ rule_lines at (drop i rules)
  pub due_lines : rule_lines Start due ≡ front ++ rule_lines at (drop i due)
  pub counted : lines ≡ length front
  pub rules_rest : AreLaidOut at (drop i rules)
  pub due_rest : AreLaidOut at (drop i due)
  pub same : take i rules ≡ take i due
  pub reached : i ≤ length due
  pub few : lines ≤ 2 * i

split_off : (at : At) (r : Rule) (rs : List Rule) (front : List Line) → front ++ rule_lines at (r ∷ rs) ≡ (front ++ (domain_lines at r.hop.domain ++ rule_line r ∷ [])) ++ rule_lines (In r.hop.domain r.number) rs
split_off at r rs front =
    ap (λ (ls : List Line). front ++ ls) (sym (append_assoc (domain_lines at r.hop.domain) (rule_line r ∷ []) (rule_lines (In r.hop.domain r.number) rs)))
    ∙ sym (append_assoc front (domain_lines at r.hop.domain ++ rule_line r ∷ []) (rule_lines (In r.hop.domain r.number) rs))

one_domain_line : (at : At) (d : Word) → length (domain_lines at d) ≤ 1
one_domain_line Start d = omega arith
one_domain_line (In last n) d = by_test (bytes_eq last d)
  where
    by_test : (t : Bool) → length (cond t [] (domain_line d ∷ [])) ≤ 1
    by_test true = omega arith
    by_test false = omega arith

pub rule_next : (rules : List Rule) (i : ℕ) (r : Rule) → slice_get rules i ≡ Some r → drop i rules ≡ r ∷ drop (i + 1) rules
rule_next rules i r at = drop_more rules i r (slice_get_within rules i r at) ∙ ap (λ (q : Rule). q ∷ drop (i + 1) rules) (get_or_from_slice_get rules i r r at)

pub agree_more : (rules due : List Rule) (i : ℕ) (at : At) (lines n : ℕ) (r : Rule) → AgreeTo rules due i at lines → slice_get rules i ≡ Some r → slice_get due i ≡ Some r → n ≡ lines + length (domain_lines at r.hop.domain) + 1 → AgreeTo rules due (i + 1) (In r.hop.domain r.number) n
agree_more rules due i at lines n r so_far here there counted =
    let mine = rule_next rules i r here in
    let theirs = rule_next due i r there in
    let new = domain_lines at r.hop.domain ++ rule_line r ∷ [] in
    record {
      front = so_far.front ++ new;
      rules_lines = so_far.rules_lines ∙ ap (λ (rs : List Rule). so_far.front ++ rule_lines at rs) mine ∙ split_off at r (drop (i + 1) rules) so_far.front;
      due_lines = so_far.due_lines ∙ ap (λ (rs : List Rule). so_far.front ++ rule_lines at rs) theirs ∙ split_off at r (drop (i + 1) due) so_far.front;
      counted = omega (arith, counted, so_far.counted, length-append so_far.front new, length-append (domain_lines at r.hop.domain) (rule_line r ∷ []));
      rules_rest = (heads at r (drop (i + 1) rules) (subst (AreLaidOut at) mine so_far.rules_rest)).rest;
      due_rest = (heads at r (drop (i + 1) due) (subst (AreLaidOut at) theirs so_far.due_rest)).rest;
      same = take_more_same rules due i r (slice_get_within rules i r here) (slice_get_within due i r there) so_far.same (get_or_from_slice_get rules i r r here ∙ sym (get_or_from_slice_get due i r r there));
      reached = omega (arith, slice_get_within due i r there);
      few = omega (arith, counted, so_far.few, one_domain_line at r.hop.domain);
    }

-- and first differ so many lines on
pub differ_on : (rules due : List Rule) (i : ℕ) (at : At) (lines k n : ℕ) → AgreeTo rules due i at lines → IsFirstDifference (rule_lines at (drop i rules)) (rule_lines at (drop i due)) k → n ≡ lines + k → IsFirstDifference (rule_lines Start rules) (rule_lines Start due) n
differ_on rules due i at lines k n so_far f counted =
    let one = behind so_far.front (rule_lines at (drop i rules)) (rule_lines at (drop i due)) k n (omega (arith, counted, so_far.counted)) f in
    let left = subst (λ (ls : List Line). IsFirstDifference ls (so_far.front ++ rule_lines at (drop i due)) n) (sym so_far.rules_lines) one in
    subst (λ (ls : List Line). IsFirstDifference (rule_lines Start rules) ls n) (sym so_far.due_lines) left

-- where all rules agree, and none is missing, the lists are one
pub agree_all : (rules due : List Rule) (i : ℕ) (at : At) (lines : ℕ) → AgreeTo rules due i at lines → length rules ≤ i → length due ≡ length rules → rules ≡ due
agree_all rules due i at lines so_far done counted = sym (take_all i rules done) ∙ so_far.same ∙ take_all i due (omega (arith, done, counted))

some_at : (rs : List Rule) (j : ℕ) → j < length rs → (r : Rule) × (slice_get rs j ≡ Some r)
some_at [] j lt = absurd (omega arith)
some_at (r ∷ rs) zero lt = (r, refl)
some_at (r ∷ rs) (suc j) lt = some_at rs j (omega (arith, lt))

-- and where one is missing, its line is the first that differs
pub missing : (rules due : List Rule) (i : ℕ) (at : At) (lines : ℕ) → AgreeTo rules due i at lines → length rules ≤ i → i < length due → IsFirstDifference (rule_lines Start rules) (rule_lines Start due) lines
missing rules due i at lines so_far done more =
    let next = some_at due i more in
    let later = subst (λ (rs : List Rule). IsFirstDifference [] (rule_lines at rs) 0) (sym (rule_next due i next.0 next.1)) (more_due at next.0 (drop (i + 1) due)) in
    let here = subst (λ (rs : List Rule). IsFirstDifference (rule_lines at rs) (rule_lines at (drop i due)) 0) (sym (drop_all i rules done)) later in
    differ_on rules due i at lines 0 lines so_far here (omega arith)

-- ---- by the first rule due

pub alike_in_domain : (at : At) (r : Rule) (rs ys : List Rule) (s : Rule) (n : ℕ) → AreLaidOut at (r ∷ rs) → AreLaidOut at ys → slice_get ys 0 ≡ Some s → (Some s ≡ Some r → ⊥) → s.hop.domain ≡ r.hop.domain → n ≡ length (domain_lines at r.hop.domain) → IsFirstDifference (rule_lines at (r ∷ rs)) (rule_lines at ys) n
alike_in_domain at r rs [] s n l m here apart same counted = absurd cc
alike_in_domain at r rs (y ∷ ys) s n l m here apart same counted =
    let is : y ≡ s = cc in
    in_domain at r rs y ys n l m (λ e. apart (ap Some (sym is ∙ sym e))) (sym same ∙ ap (λ (q : Rule). q.hop.domain) (sym is)) counted

pub alike_in_none : (at : At) (r : Rule) (rs ys : List Rule) (s : Rule) → AreLaidOut at (r ∷ rs) → AreLaidOut at ys → slice_get ys 0 ≡ Some s → (s.hop.domain ≡ r.hop.domain → ⊥) → IsFirstDifference (rule_lines at (r ∷ rs)) (rule_lines at ys) 0
alike_in_none at r rs [] s l m here apart = absurd cc
alike_in_none at r rs (y ∷ ys) s l m here apart =
    let is : y ≡ s = cc in
    two_domains at r rs y ys l m (λ e. apart (ap (λ (q : Rule). q.hop.domain) (sym is) ∙ sym e))

pub alike_at_end : (at : At) (r : Rule) (rs ys : List Rule) → slice_get ys 0 ≡ None → IsFirstDifference (rule_lines at (r ∷ rs)) (rule_lines at ys) 0
alike_at_end at r rs [] here = none_due at r rs
alike_at_end at r rs (y ∷ ys) here = absurd cc

-- what stands at a place begins the rest
pub begins_rest : (rs : List Rule) (i : ℕ) → slice_get (drop i rs) 0 ≡ slice_get rs i
begins_rest [] zero = refl
begins_rest [] (suc i) = refl
begins_rest (r ∷ rs) zero = refl
begins_rest (r ∷ rs) (suc i) = begins_rest rs i

-- where both lists were gone through so far and are not equally long, the other is longer
pub more_of : (m n i : ℕ) → i ≤ m → i ≤ n → m ≤ i → (n ≡ m → ⊥) → i < n
more_of m n i le reached done apart = grind (arith, apart, le, reached, done)
