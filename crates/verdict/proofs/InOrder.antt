-- Rules that pass one after another.
use Rattle.std.proofs.Common.{◌≡◌, ◌+◌, ◌<◌, ◌≤◌, ℕ, Bool, true, false, refl, subst, arith, lit≤}
use Rattle.std.specs.Prelude.{nat_le}
use Rattle.std.proofs.lemmas.Bool.Decides.{nat_tests}
use Rattle.circuit_spec.specs.Network.{Topology}
use Rattle.answer_spec.specs.declared.answer.Answer.{Answer}
use Rattle.verdict.specs.declared.rules.Rule.{Rule}
use Rattle.verdict.specs.declared.rules.Rule.TheVariants as rule
use Rattle.verdict.specs.Rules.{number, Passes, PassWithin}
use Rattle.verdict.proofs.OneFault.{same_rule}

-- the rules from the first one on that are below the number pass
pub record PassBelow (T : Topology) (a : Answer) (first : Rule) (n : ℕ) : Type 0 where
  pub each : (other : Rule) → number first ≤ number other → number other < n → Passes T a other

pub none_below : (T : Topology) (a : Answer) (first : Rule) → PassBelow T a first (number first)
none_below T a first = record { each = λ other from below. absurd (omega arith) }

-- one more passes
pub one_more : (T : Topology) (a : Answer) (first r : Rule) → PassBelow T a first (number r) → Passes T a r → PassBelow T a first (number r + 1)
one_more T a first r before passes = record { each = λ other from below. by_test other from below (nat_le (number r) (number other)) refl }
  where
    by_test : (other : Rule) → number first ≤ number other → number other < number r + 1 → (t : Bool) → nat_le (number r) (number other) ≡ t → Passes T a other
    by_test other from below true at =
        let level : number r ≡ number other = grind (arith, nat_tests) in
        subst (Passes T a) (same_rule r other level) passes
    by_test other from below false under =
        let lt : number other < number r = grind (arith, nat_tests) in
        before.each other from lt

-- where the rules from the ends on pass, all before do
pub all_below : (T : Topology) (a : Answer) (n : ℕ) → PassBelow T a rule.Ends n → (other : Rule) → number other < n → Passes T a other
all_below T a n before rule.Grammar below = tt
all_below T a n before rule.Ends below = before.each rule.Ends (lit≤ tt) below
all_below T a n before rule.Carried below = before.each rule.Carried (lit≤ tt) below
all_below T a n before rule.Arrives below = before.each rule.Arrives (lit≤ tt) below
all_below T a n before rule.Weighed below = before.each rule.Weighed (lit≤ tt) below
all_below T a n before rule.Flagged below = before.each rule.Flagged (lit≤ tt) below
all_below T a n before rule.Ruled below = before.each rule.Ruled (lit≤ tt) below
all_below T a n before rule.Placed below = before.each rule.Placed (lit≤ tt) below
all_below T a n before rule.Starts below = before.each rule.Starts (lit≤ tt) below
all_below T a n before rule.Extends below = before.each rule.Extends (lit≤ tt) below
all_below T a n before rule.Opens below = before.each rule.Opens (lit≤ tt) below
all_below T a n before rule.Nests below = before.each rule.Nests (lit≤ tt) below
all_below T a n before rule.Agrees below = before.each rule.Agrees (lit≤ tt) below

pub within : (T : Topology) (a : Answer) (first last : Rule) → PassBelow T a first (number last + 1) → PassWithin T a first last
within T a first last below r from upto = below.each r from (omega (arith, upto))
