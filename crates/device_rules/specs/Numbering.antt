-- The rules of a walk: its hops with their numbers, by domain.
use Rattle.std.specs.Prelude.{ℕ, suc, List, [], ◌∷◌}
use Rattle.std.specs.List.Sorted.{IsPermutation}
use Rattle.std.specs.declared.cmp.Ordering.{Ordering}
use Rattle.std.specs.Ordering.{nat_cmp, ordering_then}
use Rattle.std.specs.Cmp.Lexicographic.{slice_cmp}
use Rattle.circuit_spec.specs.declared.hops.Hop.{Hop}
use Rattle.device_rules.specs.declared.rules.Rule.{Rule}
use Rattle.device_rules.specs.Rules.{Start, AreInOrder}

-- each hop as a rule, numbered from n
abbrev pub numbered : ℕ → List Hop → List Rule
numbered n [] = []
numbered n (h ∷ hs) = record { number = n; hop = h } ∷ numbered (suc n) hs

-- by domain in byte order, then by number
abbrev pub rule_cmp : Rule → Rule → Ordering
rule_cmp a b = ordering_then (slice_cmp nat_cmp a.hop.domain b.hop.domain) (nat_cmp a.number b.number)

-- hop i as rule i, by domain and then by number
pub record AreRulesOf (hops : List Hop) (rules : List Rule) : Type 0 where
  pub same : IsPermutation (numbered 1 hops) rules
  pub in_order : AreInOrder Start rules
