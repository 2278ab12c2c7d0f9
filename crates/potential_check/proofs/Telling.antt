-- Which rule is told to fail, and where.
use Rattle.std.proofs.Common.{ℕ, ◌+◌, ◌<◌, ◌≤◌, List, Option, None, length, subst, sym, refl, inl, inr, arith, Contains}
use Rattle.std.specs.List.{All}
use Rattle.std.proofs.lemmas.List.Elements.{All-contains_itself, All-weaker}
use Rattle.std.proofs.lemmas.Option.{slice_get_within}
use Rattle.ml_base.specs.declared.weight.Weight.{Weight}
use Rattle.segment_grammar.specs.declared.potentials.Pot.{Pot}
use Rattle.segment_grammar.proofs.Places.{at_contains}
use Rattle.circuit_spec.specs.Network.{Topology}
use Rattle.circuit_spec.specs.declared.hops.Outcome.TheVariants as outcome
use Rattle.circuit_spec.specs.declared.hops.Outcome.{Outcome}
use Rattle.machine_build.specs.Built.{BuiltValue}
use Rattle.machine_lift.specs.Lift.{IsMachineOf}
use Rattle.answer_spec.specs.declared.answer.Answer.{Answer}
use Rattle.answer_spec.specs.declared.answer.PotLine.{PotLine}
use Rattle.answer_spec.specs.Certificate as net
use Rattle.answer_spec.specs.WellFormed.{ArePots, IsBody, IsWellFormed}
use Rattle.pair_check.specs.declared.fault.PairFault.{PairFault}
use Rattle.pair_check.specs.declared.fault.PairFault.TheVariants as pairs
use Rattle.pair_check.specs.Least.{IsLeastOf}
use Rattle.pair_check.specs.Rules as pair
use Rattle.verdict.specs.declared.rules.Rule.{Rule}
use Rattle.verdict.specs.declared.rules.Rule.TheVariants as rule
use Rattle.verdict.specs.Faults.{IsFirstFaultFrom, first_potential_line}
use Rattle.verdict.specs.First.{IsFirstFailing}
use Rattle.verdict.specs.Rules.{PassWithin, Passes, number}
use Rattle.potential_check.specs.declared.fault.PotentialFault.{PotentialFault}
use Rattle.potential_check.specs.declared.fault.PotentialFault.TheVariants as fault
use Rattle.potential_check.specs.Faults.{IsFirstOf, TellsUnplaced, fault_of}
use Rattle.potential_check.specs.Pairs.{ArePairsOf, HasPair, IsOutcomeOf, IsPairOf}
use Rattle.potential_check.proofs.Lifting.{extended_down, extended_up, has_root_down, has_root_up, nested_down, nested_up, opened_down, opened_up, outcome_down, outcome_up, starts_down, starts_up}
use Rattle.potential_check.proofs.Placing.{has_pair, pair_within, placed}
use Rattle.potential_check.proofs.Zipped.{zip_all, zip_failing, zip_first}

-- the potentials of a well-formed answer are in order
by_outcome : (o : Outcome) (a : Answer) → IsBody o a → ArePots None a.potentials
by_outcome (outcome.Found cost hops) a body = body.2
by_outcome outcome.NoWalk a body = body.3
by_outcome outcome.Past a body = body.3
by_outcome (outcome.Long cost hops) a body = body.3

pub in_order : (a : Answer) → IsWellFormed a → ArePots None a.potentials
in_order a formed = by_outcome a.outcome a formed.body

-- the rules on potentials up to one of this number pass
pub record PassBelow (T : Topology) (a : Answer) (n : ℕ) : Type 0 where
  pub below : n ≤ 14
  pub placed : 8 < n → Passes T a rule.Placed
  pub starts : 9 < n → Passes T a rule.Starts
  pub extends : 10 < n → Passes T a rule.Extends
  pub opens : 11 < n → Passes T a rule.Opens
  pub nests : 12 < n → Passes T a rule.Nests
  pub agrees : 13 < n → Passes T a rule.Agrees

passes : (T : Topology) (a : Answer) (n : ℕ) → PassBelow T a n → (other : Rule) → 8 ≤ number other → number other < n → Passes T a other
passes T a n all rule.Grammar low high = tt
passes T a n all rule.Ends low high = absurd (omega arith)
passes T a n all rule.Carried low high = absurd (omega arith)
passes T a n all rule.Arrives low high = absurd (omega arith)
passes T a n all rule.Weighed low high = absurd (omega arith)
passes T a n all rule.Flagged low high = absurd (omega arith)
passes T a n all rule.Ruled low high = absurd (omega arith)
passes T a n all rule.Placed low high = all.placed high
passes T a n all rule.Starts low high = all.starts high
passes T a n all rule.Extends low high = all.extends high
passes T a n all rule.Opens low high = all.opens high
passes T a n all rule.Nests low high = all.nests high
passes T a n all rule.Agrees low high = all.agrees high

module _ (T : Topology) (a : Answer) (b : BuiltValue) (m : IsMachineOf T a.request b) where
  -- ---- placing

  place_failing : (k : ℕ) → IsFirstFailing (HasPair b) a.potentials k → IsFirstFailing (net.IsPlaced T a.request) a.potentials k
  place_failing k f = record {
    item = f.item;
    at = f.at;
    fails = λ is. f.fails (has_pair T a.request m.table m.kept b m.built f.item is);
    before = All-weaker (HasPair b) (net.IsPlaced T a.request) (placed T a.request m.table m.kept b m.built) _ f.before;
  }

  pub unplaced : (f : PotentialFault) → TellsUnplaced b a.potentials f → IsFirstOf T a f
  unplaced (fault.Potential kind place) is =
      let told : IsFirstFaultFrom rule.Placed T a rule.Placed (first_potential_line a + place) = record {
        reached = omega arith;
        earlier = λ other low high. absurd (omega arith);
        fails = (place, place_failing place is.1, refl);
      } in
      subst (λ k. IsFirstFaultFrom rule.Placed T a k (first_potential_line a + place)) (sym is.0) told
  unplaced (fault.Outcome kind) is = absurd is
  unplaced fault.NoMemory is = tt

  module _ (pots : List Pot) (are : ArePairsOf b a.potentials pots) where
    all_placed : All (net.IsPlaced T a.request) a.potentials
    all_placed = zip_all (IsPairOf b) (λ (p : Pot). Unit {0}) (net.IsPlaced T a.request)
        (λ line p is t. placed T a.request m.table m.kept b m.built line (pair_within b line p is)) a.potentials pots are (λ k d low. tt)

    -- pairs are of states of the machine
    state_within : (p : Pot) → Contains pots p → p.state.0 < b.machine.states
    state_within p c =
        let at = at_contains pots p c in
        let of = zip_first (IsPairOf b) a.potentials pots at.0 p are at.2 in
        let below : p.state.0 < length b.places = slice_get_within b.places p.state.0 of.0.place of.2.place in
        omega (arith, m.built.states)

    pub within : pair.ArePairsWithin b.machine.states pots
    within = All-weaker (Contains pots) (λ (p : Pot). p.state.0 < b.machine.states) state_within pots (All-contains_itself pots)

    -- ---- the rules

    begins : pair.BeginAtZero b.starts pots → net.BeginAtZero T a.request a.potentials
    begins is = (
      starts_up T a.request m.table m.kept b m.built a.potentials pots are is.starts_listed,
      zip_all (IsPairOf b) (pair.HasRoot pots) (λ (line : PotLine). net.RootIsListed a.potentials line.root)
          (has_root_up T a.request m.table m.kept b m.built a.potentials pots are) a.potentials pots are is.roots_listed,
    )

    extends : All (pair.IsExtended b.machine.steps pots) pots → All (net.IsExtended T a.request a.potentials) a.potentials
    extends all = zip_all (IsPairOf b) (pair.IsExtended b.machine.steps pots) (net.IsExtended T a.request a.potentials)
        (extended_up T a.request m.table m.kept b m.built a.potentials pots are) a.potentials pots are all

    opens : All (pair.IsOpened b.machine.steps pots) pots → All (net.IsOpened T a.request a.potentials) a.potentials
    opens all = zip_all (IsPairOf b) (pair.IsOpened b.machine.steps pots) (net.IsOpened T a.request a.potentials)
        (opened_up T a.request m.table m.kept b m.built a.potentials pots are) a.potentials pots are all

    nests : All (pair.IsNested b.machine.steps pots) pots → All (net.IsNested T a.request a.potentials) a.potentials
    nests all = zip_all (IsPairOf b) (pair.IsNested b.machine.steps pots) (net.IsNested T a.request a.potentials)
        (nested_up T a.request m.table m.kept b m.built a.potentials pots are) a.potentials pots are all

    -- what a fault of pairs tells of the potentials
    pub told : (f : PairFault) → pair.IsFaultOf b.machine.steps b.starts pots f → IsFirstOf T a (fault_of f)
    told pairs.Starts is = record {
      reached = omega arith;
      earlier = passes T a 9 (record {
        below = omega arith;
        placed = λ l. all_placed;
        starts = λ l. absurd (omega arith);
        extends = λ l. absurd (omega arith);
        opens = λ l. absurd (omega arith);
        nests = λ l. absurd (omega arith);
        agrees = λ l. absurd (omega arith);
      });
      fails = inl (refl, λ all. is (starts_down T a.request m.table m.kept b m.built a.potentials pots are all));
    }
    told (pairs.Roots place) is = record {
      reached = omega arith;
      earlier = passes T a 9 (record {
        below = omega arith;
        placed = λ l. all_placed;
        starts = λ l. absurd (omega arith);
        extends = λ l. absurd (omega arith);
        opens = λ l. absurd (omega arith);
        nests = λ l. absurd (omega arith);
        agrees = λ l. absurd (omega arith);
      });
      fails = inr (
        starts_up T a.request m.table m.kept b m.built a.potentials pots are is.0,
        (
          place,
          zip_failing (IsPairOf b) (pair.HasRoot pots) (λ (line : PotLine). net.RootIsListed a.potentials line.root)
              (has_root_up T a.request m.table m.kept b m.built a.potentials pots are)
              (has_root_down T a.request m.table m.kept b m.built a.potentials pots are) a.potentials pots place are is.1,
          refl,
        ),
      );
    }
    told (pairs.Extends place) is = record {
      reached = omega arith;
      earlier = passes T a 10 (record {
        below = omega arith;
        placed = λ l. all_placed;
        starts = λ l. begins is.0;
        extends = λ l. absurd (omega arith);
        opens = λ l. absurd (omega arith);
        nests = λ l. absurd (omega arith);
        agrees = λ l. absurd (omega arith);
      });
      fails = (
        place,
        zip_failing (IsPairOf b) (pair.IsExtended b.machine.steps pots) (net.IsExtended T a.request a.potentials)
            (extended_up T a.request m.table m.kept b m.built a.potentials pots are)
            (extended_down T a.request m.table m.kept b m.built a.potentials pots are) a.potentials pots place are is.1,
        refl,
      );
    }
    told (pairs.Opens place) is = record {
      reached = omega arith;
      earlier = passes T a 11 (record {
        below = omega arith;
        placed = λ l. all_placed;
        starts = λ l. begins is.0;
        extends = λ l. extends is.1;
        opens = λ l. absurd (omega arith);
        nests = λ l. absurd (omega arith);
        agrees = λ l. absurd (omega arith);
      });
      fails = (
        place,
        zip_failing (IsPairOf b) (pair.IsOpened b.machine.steps pots) (net.IsOpened T a.request a.potentials) (opened_up T a.request m.table m.kept b m.built a.potentials pots are)
            (opened_down T a.request m.table m.kept b m.built a.potentials pots are) a.potentials pots place are is.2,
        refl,
      );
    }
    told (pairs.Nests place) is = record {
      reached = omega arith;
      earlier = passes T a 12 (record {
        below = omega arith;
        placed = λ l. all_placed;
        starts = λ l. begins is.0;
        extends = λ l. extends is.1;
        opens = λ l. opens is.2;
        nests = λ l. absurd (omega arith);
        agrees = λ l. absurd (omega arith);
      });
      fails = (
        place,
        zip_failing (IsPairOf b) (pair.IsNested b.machine.steps pots) (net.IsNested T a.request a.potentials) (nested_up T a.request m.table m.kept b m.built a.potentials pots are)
            (nested_down T a.request m.table m.kept b m.built a.potentials pots are) a.potentials pots place are is.3,
        refl,
      );
    }
    told pairs.NoMemory is = tt

    module _ (keeps : pair.KeepsRules b.machine.steps b.starts pots) (least : Option Weight) (is_least : IsLeastOf b.targets pots least) where
      up_to_nests : PassBelow T a 13
      up_to_nests = record {
        below = omega arith;
        placed = λ l. all_placed;
        starts = λ l. begins keeps.begins;
        extends = λ l. extends keeps.extends;
        opens = λ l. opens keeps.opens;
        nests = λ l. nests keeps.nests;
        agrees = λ l. absurd (omega arith);
      }

      -- the outcome is not as the potentials say
      pub disagrees : ¬ IsOutcomeOf least a.outcome → IsFirstOf T a (fault.Outcome rule.Agrees)
      disagrees not = record {
        reached = omega arith;
        earlier = passes T a 13 up_to_nests;
        fails = (refl, λ agrees. not (outcome_down T a.request m.table m.kept b m.built a.potentials pots are least a.outcome is_least agrees));
      }

      -- all rules on potentials pass
      pub all_pass : IsOutcomeOf least a.outcome → PassWithin T a rule.Placed rule.Agrees
      all_pass is other low high = passes T a 14 (record {
        below = omega arith;
        placed = λ l. all_placed;
        starts = λ l. begins keeps.begins;
        extends = λ l. extends keeps.extends;
        opens = λ l. opens keeps.opens;
        nests = λ l. nests keeps.nests;
        agrees = λ l. outcome_up T a.request m.table m.kept b m.built a.potentials pots are least a.outcome is_least is;
      }) other low (omega arith)
