-- A rule fails at one line, and then it does not pass; so an answer has one first fault.
use Rattle.std.proofs.Common.{◌≡◌, ◌<◌, ◌≤◌, ◌+◌, ℕ, inl, inr, List, [], ◌∷◌, Option, refl, sym, ◌∙◌, ap, subst, arith, Some, lit<, lit≤}
use Rattle.std.specs.Prelude.{slice_get}
use Rattle.std.proofs.lemmas.Option.{same_Some}
use Rattle.circuit_spec.specs.declared.hops.Hop.{Hop}
use Rattle.circuit_spec.specs.declared.hops.Unit.{Unit as DataUnit}
use Rattle.circuit_spec.specs.declared.hops.PlaceName.{PlaceName}
use Rattle.circuit_spec.specs.Network.{Topology, Port}
use Rattle.circuit_spec.specs.Steps.{Run}
use Rattle.circuit_spec.specs.Flags.{AreFlags, Enters, flags_after}
use Rattle.circuit_spec.specs.Segments.{unit_in}
use Rattle.device_rules.specs.declared.rules.Rule.{Rule as DeviceRule}
use Rattle.device_rules.specs.Rules.{Start}
use Rattle.domain_config.specs.Rules.{rule_lines}
use Rattle.device_rules.specs.Numbering.{AreRulesOf}
use Rattle.answer_spec.specs.declared.answer.Answer.{Answer}
use Rattle.answer_spec.specs.declared.answer.PotLine.{PotLine}
use Rattle.answer_spec.specs.Certificate.{Certificate, AreCarried, AreFlagged, first_place, RootIsListed}
use Rattle.verdict.specs.declared.rules.Rule.{Rule}
use Rattle.verdict.specs.declared.rules.Rule.TheVariants as rule
use Rattle.verdict.specs.Rules.{number, Passes, PassWithin}
use Rattle.verdict.specs.First.{IsFirstDifference}
use Rattle.verdict.specs.Faults.{Fails, FailsAtPotential, FailsToStart, HasOtherFlag, HasOtherRuleLine, HasStuckHop, IsFirstFault, IsFirstFaultFrom, first_rule_line, first_potential_line}
use Rattle.verdict.proofs.Firsts.{level, not_all, one_failing, not_same, one_difference}
use Rattle.verdict.proofs.Stuck.{one_class, one_stuck, stuck_runs_end}
use Rattle.verdict.proofs.SameRules.{one_rules}

-- ---- hops

start_of : Port → Answer → DataUnit
start_of class a = unit_in (first_place class a.request a.hops) []

stuck_not_carried : (T : Topology) (a : Answer) (line : ℕ) → HasStuckHop T a line → AreCarried T a.request a.hops → ⊥
unfolding start_of
stuck_not_carried T a line f c =
    let same = one_class T a.request.from c.0 f.class c.1 f.is_class in
    let run = subst (λ (p : Port). Run T (start_of p a) a.hops c.2.0) same c.2.1 in
    stuck_runs_end T (start_of f.class a) f.before f.hop f.after f.left c.2.0 f.run f.stuck (subst (λ (hs : List Hop). Run T (start_of f.class a) hs c.2.0) f.split run)

one_stuck_line : (T : Topology) (a : Answer) (m n : ℕ) → HasStuckHop T a m → HasStuckHop T a n → m ≡ n
unfolding start_of
one_stuck_line T a m n f g =
    let same = one_class T a.request.from g.class f.class g.is_class f.is_class in
    let run = subst (λ (p : Port). Run T (start_of p a) g.before g.left) same g.run in
    omega (arith, f.at, g.at, one_stuck T (start_of f.class a) f.before f.hop f.after f.left g.before g.hop g.after g.left (sym f.split ∙ g.split) f.run f.stuck run g.stuck)

-- ---- flags

enters_one : (T : Topology) (hops : List Hop) (xs ys : List PlaceName) → Enters T hops xs → Enters T hops ys → xs ≡ ys
enters_one T [] xs ys e f = e ∙ sym f
enters_one T (h ∷ hops) [] ys e f = absurd e
enters_one T (h ∷ hops) (x ∷ xs) [] e f = absurd f
enters_one T (h ∷ hops) (x ∷ xs) (y ∷ ys) e f =
    let class = one_class T h.to e.0.0 f.0.0 e.0.1 f.0.1 in
    let head : x ≡ y = e.0.2 ∙ ap (λ (p : Port). at p) class ∙ sym f.0.2 in
    let tail = enters_one T hops xs ys e.1 f.1 in
    cc
  where
    at : Port → PlaceName
    at p = record { class = p.id; label = h.to_label }

flags_one : (T : Topology) (a : Answer) (c d : Port) (hops : List Hop) (xs ys : List (Option ℕ)) → c ≡ d → AreFlags T (first_place c a.request a.hops) hops xs → AreFlags T (first_place d a.request a.hops) hops ys → xs ≡ ys
flags_one T a c d hops xs ys same e f =
    let places = enters_one T hops e.0 f.0 e.1 f.1 in
    e.2 ∙ ap (λ (p : Port). flags_after (first_place p a.request a.hops ∷ []) e.0) same ∙ ap (flags_after (first_place d a.request a.hops ∷ [])) places ∙ sym f.2

other_not_flagged : (T : Topology) (a : Answer) (line : ℕ) → HasOtherFlag T a line → AreFlagged T a.request a.hops a.flags → ⊥
other_not_flagged T a line f g =
    let same = one_class T a.request.from g.0 f.class g.1 f.is_class in
    not_same a.flags f.due f.hop f.first (flags_one T a g.0 f.class a.hops a.flags f.due same g.2 f.are_due)

one_flag_line : (T : Topology) (a : Answer) (m n : ℕ) → HasOtherFlag T a m → HasOtherFlag T a n → m ≡ n
one_flag_line T a m n f g =
    let same = one_class T a.request.from g.class f.class g.is_class f.is_class in
    let due = flags_one T a g.class f.class a.hops g.due f.due same g.are_due f.are_due in
    omega (arith, f.at, g.at, one_difference a.flags f.due f.hop g.hop f.first (subst (λ (ds : List (Option ℕ)). IsFirstDifference a.flags ds g.hop) due g.first))

-- ---- rules of devices

other_not_ruled : (a : Answer) (line : ℕ) → HasOtherRuleLine a line → AreRulesOf a.hops a.rules → ⊥
other_not_ruled a line f g = not_same (rule_lines Start a.rules) (rule_lines Start f.due) f.place f.first (ap (rule_lines Start) (one_rules a.hops a.rules f.due g f.are_due))

one_rule_line : (a : Answer) (m n : ℕ) → HasOtherRuleLine a m → HasOtherRuleLine a n → m ≡ n
one_rule_line a m n f g =
    let due = one_rules a.hops g.due f.due g.are_due f.are_due in
    let first = subst (λ (ds : List DeviceRule). IsFirstDifference (rule_lines Start a.rules) (rule_lines Start ds) g.place) due g.first in
    let place = one_difference (rule_lines Start a.rules) (rule_lines Start f.due) f.place g.place f.first first in
    f.at ∙ ap (λ (k : ℕ). first_rule_line a + k) place ∙ sym g.at

-- ---- potentials

one_potential_line : (P : PotLine → Type 0) (a : Answer) (m n : ℕ) → FailsAtPotential P a m → FailsAtPotential P a n → m ≡ n
one_potential_line P a m n f g = f.2 ∙ ap (λ (k : ℕ). first_potential_line a + k) (one_failing P a.potentials f.0 g.0 f.1 g.1) ∙ sym g.2

abbrev HasRoot : Answer → PotLine → Type 0
HasRoot a p = RootIsListed a.potentials p.root

one_start_line : (T : Topology) (a : Answer) (m n : ℕ) → FailsToStart T a m → FailsToStart T a n → m ≡ n
one_start_line T a m n (inl f) (inl g) = f.0 ∙ sym g.0
one_start_line T a m n (inl f) (inr g) = absurd (f.1 g.0)
one_start_line T a m n (inr f) (inl g) = absurd (g.1 f.0)
one_start_line T a m n (inr f) (inr g) = one_potential_line (HasRoot a) a m n f.1 g.1

-- ---- rules

pub not_both : (T : Topology) (a : Answer) (r : Rule) (line : ℕ) → Fails T a r line → Passes T a r → ⊥
not_both T a rule.Grammar line f p = f
not_both T a rule.Ends line f p = f.1 p
not_both T a rule.Carried line f p = stuck_not_carried T a line f p
not_both T a rule.Arrives line f p = f.1 p
not_both T a rule.Weighed line f p = f.1 p
not_both T a rule.Flagged line f p = other_not_flagged T a line f p
not_both T a rule.Ruled line f p = other_not_ruled a line f p
not_both T a rule.Placed line f p = not_all _ a.potentials f.0 f.1 p
not_both T a rule.Starts line (inl f) p = f.1 p.0
not_both T a rule.Starts line (inr f) p = not_all (HasRoot a) a.potentials f.1.0 f.1.1 p.1
not_both T a rule.Extends line f p = not_all _ a.potentials f.0 f.1 p
not_both T a rule.Opens line f p = not_all _ a.potentials f.0 f.1 p
not_both T a rule.Nests line f p = not_all _ a.potentials f.0 f.1 p
not_both T a rule.Agrees line f p = f.1 p

pub one_line : (T : Topology) (a : Answer) (r : Rule) (m n : ℕ) → Fails T a r m → Fails T a r n → m ≡ n
one_line T a rule.Grammar m n f g = absurd f
one_line T a rule.Ends m n f g = f.0 ∙ sym g.0
one_line T a rule.Carried m n f g = one_stuck_line T a m n f g
one_line T a rule.Arrives m n f g = f.0 ∙ sym g.0
one_line T a rule.Weighed m n f g = f.0 ∙ sym g.0
one_line T a rule.Flagged m n f g = one_flag_line T a m n f g
one_line T a rule.Ruled m n f g = one_rule_line a m n f g
one_line T a rule.Placed m n f g = one_potential_line _ a m n f g
one_line T a rule.Starts m n f g = one_start_line T a m n f g
one_line T a rule.Extends m n f g = one_potential_line _ a m n f g
one_line T a rule.Opens m n f g = one_potential_line _ a m n f g
one_line T a rule.Nests m n f g = one_potential_line _ a m n f g
one_line T a rule.Agrees m n f g = f.0 ∙ sym g.0

pub whole : (T : Topology) (a : Answer) → ((r : Rule) → Passes T a r) → Certificate T a
whole T a p = record {
  known = p rule.Ends;
  carried = p rule.Carried;
  arrives = p rule.Arrives;
  weighed = p rule.Weighed;
  flagged = p rule.Flagged;
  ruled = p rule.Ruled;
  placed = p rule.Placed;
  starts = p rule.Starts;
  extends = p rule.Extends;
  opens = p rule.Opens;
  nests = p rule.Nests;
  agrees = p rule.Agrees;
}

pub parts : (T : Topology) (a : Answer) → Certificate T a → (r : Rule) → Passes T a r
parts T a c rule.Grammar = tt
parts T a c rule.Ends = c.known
parts T a c rule.Carried = c.carried
parts T a c rule.Arrives = c.arrives
parts T a c rule.Weighed = c.weighed
parts T a c rule.Flagged = c.flagged
parts T a c rule.Ruled = c.ruled
parts T a c rule.Placed = c.placed
parts T a c rule.Starts = c.starts
parts T a c rule.Extends = c.extends
parts T a c rule.Opens = c.opens
parts T a c rule.Nests = c.nests
parts T a c rule.Agrees = c.agrees

pub no_certificate : (T : Topology) (a : Answer) (r : Rule) (line : ℕ) → IsFirstFault T a r line → Certificate T a → ⊥
no_certificate T a r line f c = not_both T a r line f.fails (parts T a c r)

-- ---- the first fault

-- the rules at their numbers, with one at 0 that none has
abbrev all_rules : List Rule
all_rules = rule.Grammar ∷ rule.Grammar ∷ rule.Ends ∷ rule.Carried ∷ rule.Arrives ∷ rule.Weighed ∷ rule.Flagged ∷ rule.Ruled ∷ rule.Placed ∷ rule.Starts ∷ rule.Extends ∷ rule.Opens ∷ rule.Nests ∷ rule.Agrees ∷ []

listed : (r : Rule) → slice_get all_rules (number r) ≡ Some r
listed rule.Grammar = refl
listed rule.Ends = refl
listed rule.Carried = refl
listed rule.Arrives = refl
listed rule.Weighed = refl
listed rule.Flagged = refl
listed rule.Ruled = refl
listed rule.Placed = refl
listed rule.Starts = refl
listed rule.Extends = refl
listed rule.Opens = refl
listed rule.Nests = refl
listed rule.Agrees = refl

pub same_rule : (r s : Rule) → number r ≡ number s → r ≡ s
same_rule r s e = same_Some r s (sym (listed r) ∙ ap (slice_get all_rules) e ∙ listed s)

-- the first fault is at no rule below that of another
not_below : (T : Topology) (a : Answer) (r s : Rule) (m n : ℕ) → IsFirstFault T a r m → IsFirstFault T a s n → number r < number s → ⊥
not_below T a r s m n f g lt = not_both T a r m f.fails (g.earlier r lt)

pub one_fault : (T : Topology) (a : Answer) (r s : Rule) (m n : ℕ) → IsFirstFault T a r m → IsFirstFault T a s n → (r ≡ s) × (m ≡ n)
one_fault T a r s m n f g =
    let same = same_rule r s (level (number r) (number s) (not_below T a r s m n f g) (not_below T a s r n m g f)) in
    (same, one_line T a s m n (subst (λ (t : Rule). Fails T a t m) same f.fails) g.fails)

-- ---- the parts

-- a rule is the grammar, or below the potentials, or from them on
pub by_part : (T : Topology) (a : Answer) (r : Rule) → PassWithin T a rule.Ends rule.Ruled → (7 < number r → Passes T a r) → Passes T a r
by_part T a rule.Grammar first later = tt
by_part T a rule.Ends first later = first rule.Ends (lit≤ tt) (lit≤ tt)
by_part T a rule.Carried first later = first rule.Carried (lit≤ tt) (lit≤ tt)
by_part T a rule.Arrives first later = first rule.Arrives (lit≤ tt) (lit≤ tt)
by_part T a rule.Weighed first later = first rule.Weighed (lit≤ tt) (lit≤ tt)
by_part T a rule.Flagged first later = first rule.Flagged (lit≤ tt) (lit≤ tt)
by_part T a rule.Ruled first later = first rule.Ruled (lit≤ tt) (lit≤ tt)
by_part T a rule.Placed first later = later (lit< tt)
by_part T a rule.Starts first later = later (lit< tt)
by_part T a rule.Extends first later = later (lit< tt)
by_part T a rule.Opens first later = later (lit< tt)
by_part T a rule.Nests first later = later (lit< tt)
by_part T a rule.Agrees first later = later (lit< tt)

pub first_of_all : (T : Topology) (a : Answer) (r : Rule) (line : ℕ) → PassWithin T a rule.Ends rule.Ruled → IsFirstFaultFrom rule.Placed T a r line → IsFirstFault T a r line
first_of_all T a r line first f = record {
  earlier = λ other below. by_part T a other first (λ above. f.earlier other (omega (arith, above)) below);
  fails = f.fails;
}

pub whole_of_parts : (T : Topology) (a : Answer) → PassWithin T a rule.Ends rule.Ruled → PassWithin T a rule.Placed rule.Agrees → Certificate T a
whole_of_parts T a first later = whole T a (λ r. by_part T a r first (λ above. later r (omega (arith, above)) (at_most r)))
  where
    at_most : (r : Rule) → number r ≤ 13
    at_most rule.Grammar = lit≤ tt
    at_most rule.Ends = lit≤ tt
    at_most rule.Carried = lit≤ tt
    at_most rule.Arrives = lit≤ tt
    at_most rule.Weighed = lit≤ tt
    at_most rule.Flagged = lit≤ tt
    at_most rule.Ruled = lit≤ tt
    at_most rule.Placed = lit≤ tt
    at_most rule.Starts = lit≤ tt
    at_most rule.Extends = lit≤ tt
    at_most rule.Opens = lit≤ tt
    at_most rule.Nests = lit≤ tt
    at_most rule.Agrees = lit≤ tt
