-- What is told of a request, with its rules and potentials, is the exact answer; it stands in order, and has a certificate.
use Rattle.std.proofs.Common.{◌≡◌, ◌≤◌, ◌^◌, ℕ, List, [], Option, length, min, sym, ◌∙◌, ap, subst, arith}
use Rattle.std.proofs.lemmas.Grind.{common_steps}
use Rattle.std.proofs.lemmas.List.Sorted.{length_permutation}
use Rattle.std.proofs.lemmas.List.{nil_from_length}
use Rattle.ml_base.specs.Weight.{FullWeight}
use Rattle.circuit_spec.specs.declared.hops.Hop.{Hop}
use Rattle.circuit_spec.specs.declared.hops.Outcome.{Outcome}
use Rattle.circuit_spec.specs.declared.hops.Outcome.TheVariants.{Found, NoWalk, Past, Long}
use Rattle.circuit_spec.specs.declared.hops.Request.{Request}
use Rattle.circuit_spec.specs.Faults.{IsKnown, IsSound}
use Rattle.circuit_spec.specs.Keeping.{GivesKeepers}
use Rattle.circuit_spec.specs.Network.{Topology}
use Rattle.circuit_spec.specs.Steps.{IsOutcome, weight_of}
use Rattle.circuit_spec.proofs.CappedWeights.{cap_known}
use Rattle.kept_table.specs.Table.{keeping_of}
use Rattle.machine_build.specs.Built.{BuiltValue}
use Rattle.device_rules.specs.declared.rules.Rule.{Rule}
use Rattle.device_rules.specs.Numbering.{AreRulesOf, numbered}
use Rattle.answer_spec.specs.declared.answer.Answer.{Answer}
use Rattle.answer_spec.specs.declared.answer.PotLine.{PotLine}
use Rattle.answer_spec.specs.Certificate.{Certificate}
use Rattle.answer_spec.specs.Exact.{AreHopsOf, IsExactAnswer}
use Rattle.answer_spec.specs.Ordered.{IsNoWalk, IsOrdered, IsShortOutcome, IsWalkOrdered}
use Rattle.answer_spec.specs.Potentials.{ArePotentials}
use Rattle.answer_spec.proofs.Certified.{certified}
use Rattle.machine_lift.specs.Lift.{IsMachineOf}
use Rattle.finder_core.specs.Outcomes.{IsTold}
use Rattle.finder_core.proofs.Flagged.{flags_for_hops}

make_answer : Request → Outcome → List Hop → List (Option ℕ) → List Rule → List PotLine → Answer
make_answer request outcome hops flags rules potentials = record { request = request; outcome = outcome; hops = hops; flags = flags; rules = rules; potentials = potentials }

pub exact_answer : (T : Topology) (r same : Request) (o : Outcome) (hops : List Hop) (flags : List (Option ℕ)) (rules : List Rule) (potentials : List PotLine) → same ≡ r → IsKnown T r → IsTold T r o hops flags
    → AreRulesOf hops rules → ArePotentials T r potentials → IsExactAnswer T (record { request = same; outcome = o; hops = hops; flags = flags; rules = rules; potentials = potentials })
unfolding make_answer
exact_answer T r same o hops flags rules potentials e known told ruled pots =
    let exact : IsExactAnswer T (make_answer r o hops flags rules potentials) =
    record { known = known; outcome = told.is_outcome; hops = told.are_hops; flags = told.are_flags; rules = ruled; potentials = pots } in
    subst (λ q. IsExactAnswer T (make_answer q o hops flags rules potentials)) (sym e) exact

-- In order

short_outcome : (T : Topology) (r : Request) (o : Outcome) → IsOutcome T r o → IsShortOutcome o
short_outcome T r (Found cost hops) is = let few = is.2 in omega arith
short_outcome T r NoWalk is = tt
short_outcome T r Past is = tt
short_outcome T r (Long cost hops) is = capped (weight_of T is.0.hops) (cap_known (weight_of T is.0.hops) cost hops is.0.weight).2
  where
    capped : (w : FullWeight) → min w.hops (2 ^ 40) ≡ hops → hops ≤ 2 ^ 40
    capped w e = grind (arith, common_steps)

unwalked : (T : Topology) (a : Answer) → IsExactAnswer T a → a.hops ≡ [] → IsNoWalk a
unwalked T a exact none = (
  none,
  nil_from_length a.flags (sym (flags_for_hops T a.request a.hops a.flags exact.flags) ∙ ap length none),
  nil_from_length a.rules (length_permutation (numbered 1 a.hops) a.rules exact.rules.same ∙ ap (λ hs. length (numbered 1 hs)) none),
)

walk_ordered : (T : Topology) (a : Answer) (o : Outcome) → IsExactAnswer T a → AreHopsOf T a.request o a.hops → IsWalkOrdered o a
walk_ordered T a (Found cost hops) exact are = (flags_for_hops T a.request a.hops a.flags exact.flags, exact.rules.in_order)
walk_ordered T a NoWalk exact are = unwalked T a exact are
walk_ordered T a Past exact are = unwalked T a exact are
walk_ordered T a (Long cost hops) exact are = unwalked T a exact are

pub exact_in_order : (T : Topology) (a : Answer) → IsExactAnswer T a → IsOrdered a
exact_in_order T a exact = record {
  outcome = short_outcome T a.request a.outcome exact.outcome;
  walk = walk_ordered T a a.outcome exact exact.hops;
  potentials = exact.potentials.in_order;
}

-- And certified

pub exact_certified : (T : Topology) (r : Request) (b : BuiltValue) (a : Answer) → IsSound T → IsMachineOf T r b → a.request ≡ r → IsExactAnswer T a → Certificate T a
exact_certified T r b a sound is same exact =
    certified T a (keeping_of is.table) sound (subst (λ q. GivesKeepers T q (keeping_of is.table)) (sym same) is.kept.keepers) exact
