-- A document that is written piece by piece.
use Rattle.std.proofs.Common.{◌≡◌, ◌∙◌, sym, ap, subst, ℕ, ◌+◌, ◌≤◌, ◌<◌, List, [], ◌∷◌, ◌++◌, length, drop, get_or, map, Option, None, arith, add-one}
use Rattle.std.specs.Prelude.{codes}
use Rattle.std.proofs.lemmas.List.{drop_all, drop_more}
use Rattle.circuit_spec.specs.declared.hops.Hop.{Hop}
use Rattle.circuit_spec.specs.declared.hops.Outcome.{Outcome}
use Rattle.circuit_spec.specs.declared.hops.Outcome.TheVariants as outcome
use Rattle.device_rules.specs.declared.rules.Rule.{Rule}
use Rattle.line_text.specs.Lines.{text_of}
use Rattle.device_rules.specs.Rules.{Start, AreLaidOut}
use Rattle.domain_config.specs.Rules.{rule_lines}
use Rattle.device_rules.proofs.Items.{at_item}
use Rattle.line_text.proofs.Writes.{lines_join}
use Rattle.answer_spec.specs.declared.answer.Answer.{Answer}
use Rattle.answer_spec.specs.declared.answer.PotLine.{PotLine}
use Rattle.answer_text.specs.Spelling.{heading_lines, body_lines, hop_line, hop_lines, pot_line, lines_of}
use Rattle.answer_spec.specs.WellFormed.{AreHops, ArePots, IsBody, IsWellFormed}
use Rattle.answer_spec.proofs.Lengths.{same_length}

-- ---- hops

pub has_flag : (hs : List Hop) (flags : List (Option ℕ)) (i : ℕ) → AreHops 1 hs flags → i < length hs → i < length flags
has_flag hs flags i h lt = omega (arith, same_length 1 hs flags h)

pub hop_left : (hs : List Hop) (flags : List (Option ℕ)) (i : ℕ) (h : Hop) (flag d : Option ℕ) → h ≡ get_or hs i h → i < length hs → flag ≡ get_or flags i d → i < length flags
    → text_of (hop_lines (i + 1) (drop i hs) (drop i flags)) ≡ (hop_line (i + 1) h flag ++ 10 ∷ []) ++ text_of (hop_lines (i + 1 + 1) (drop (i + 1) hs) (drop (i + 1) flags))
hop_left hs flags i h flag d is lt flagged short =
    ap (λ (xs : List Hop). text_of (hop_lines (i + 1) xs (drop i flags))) (at_item hs i h is lt)
    ∙ ap (λ (fs : List (Option ℕ)). text_of (hop_lines (i + 1) (h ∷ drop (i + 1) hs) fs)) (drop_more flags i d short ∙ ap (λ (f : Option ℕ). f ∷ drop (i + 1) flags) (sym flagged))
    ∙ ap (λ (k : ℕ). (hop_line (i + 1) h flag ++ 10 ∷ []) ++ text_of (hop_lines k (drop (i + 1) hs) (drop (i + 1) flags))) (sym (add-one (i + 1)))

pub no_hops_left : (n : ℕ) (hs : List Hop) (flags : List (Option ℕ)) (i : ℕ) → length hs ≤ i → text_of (hop_lines n (drop i hs) flags) ≡ []
no_hops_left n hs flags i le = ap (λ (xs : List Hop). text_of (hop_lines n xs flags)) (drop_all i hs le)

-- ---- potentials

pub pot_left : (ps : List PotLine) (i : ℕ) (p : PotLine) → p ≡ get_or ps i p → i < length ps → text_of (map pot_line (drop i ps)) ≡ (pot_line p ++ 10 ∷ []) ++ text_of (map pot_line (drop (i + 1) ps))
pot_left ps i p is lt = ap (λ (qs : List PotLine). text_of (map pot_line qs)) (at_item ps i p is lt)

-- ---- the document

abbrev Parts : Answer → Type 0
Parts a = AreHops 1 a.hops a.flags × AreLaidOut Start a.rules × ArePots None a.potentials

bare : (a : Answer) → a.hops ≡ [] → a.flags ≡ [] → a.rules ≡ [] → ArePots None a.potentials → Parts a
bare a hs flags rs ps = (subst (λ (xs : List Hop). AreHops 1 xs a.flags) (sym hs) (subst (λ (xs : List (Option ℕ)). AreHops 1 [] xs) (sym flags) tt), subst (λ (xs : List Rule). AreLaidOut Start xs) (sym rs) tt, ps)

parts_of : (o : Outcome) (a : Answer) → IsBody o a → Parts a
parts_of (outcome.Found cost hops) a h = h
parts_of outcome.NoWalk a h = bare a h.0 h.1 h.2 h.3
parts_of outcome.Past a h = bare a h.0 h.1 h.2 h.3
parts_of (outcome.Long cost hops) a h = bare a h.0 h.1 h.2 h.3

pub hops_fit : (a : Answer) → IsWellFormed a → AreHops 1 a.hops a.flags
hops_fit a w = (parts_of a.outcome a w.body).0

pub rules_fit : (a : Answer) → IsWellFormed a → AreLaidOut Start a.rules
rules_fit a w = (parts_of a.outcome a w.body).1

-- the text behind the heading
pub body_text : (a : Answer) → text_of (body_lines a) ≡ text_of (hop_lines 1 a.hops a.flags) ++ (text_of (rule_lines Start a.rules) ++ (text_of (map pot_line a.potentials) ++ (codes "end" ++ 10 ∷ [])))
body_text a = lines_join (hop_lines 1 a.hops a.flags) _
    ∙ ap (λ (t : List ℕ). text_of (hop_lines 1 a.hops a.flags) ++ t) (lines_join (rule_lines Start a.rules) _
    ∙ ap (λ (t : List ℕ). text_of (rule_lines Start a.rules) ++ t) (lines_join (map pot_line a.potentials) _))

pub whole_text : (a : Answer) → text_of (lines_of a) ≡ text_of (heading_lines a) ++ (text_of (hop_lines 1 a.hops a.flags) ++ (text_of (rule_lines Start a.rules) ++ (text_of (map pot_line a.potentials) ++ (codes "end" ++ 10 ∷ []))))
whole_text a = lines_join (heading_lines a) (body_lines a) ∙ ap (λ (t : List ℕ). text_of (heading_lines a) ++ t) (body_text a)
