-- What the checks of the rules say together.
use Rattle.std.proofs.Common.{◌≡◌, ℕ, suc, List, [], ◌∷◌, length, Option, Err, refl, sym, ◌∙◌, ap, subst}
use Rattle.circuit_spec.specs.declared.hops.Hop.{Hop}
use Rattle.circuit_spec.specs.declared.hops.Outcome.{Outcome}
use Rattle.circuit_spec.specs.declared.hops.Outcome.TheVariants as outcome
use Rattle.circuit_spec.specs.Network.{Topology}
use Rattle.answer_spec.specs.declared.answer.Answer.{Answer}
use Rattle.answer_spec.specs.WellFormed.{AreHops, IsBody}
use Rattle.verdict.specs.declared.rules.Rule.{Rule}
use Rattle.verdict.specs.declared.rules.Rule.TheVariants as rule
use Rattle.verdict.specs.declared.verdicts.CheckFault.{CheckFault}
use Rattle.verdict.specs.declared.verdicts.CheckFault.TheVariants as fault
use Rattle.verdict.specs.Rules.{number, Passes, PassWithin}
use Rattle.verdict.specs.Faults.{IsFirstFault, TellsFirst}
use Rattle.verdict.proofs.InOrder.{PassBelow, all_below, none_below, one_more, within}
use Rattle.hop_check.specs.Deciding.{Decides}

-- where all rules before one pass, what its check tells is the first fault
pub told : (T : Topology) (a : Answer) (r : Rule) (e : CheckFault) → PassBelow T a rule.Ends (number r) → Decides {X = Unit {0}} T a r (Err e) → TellsFirst T a e
told T a r (fault.NotValid line broken) before d =
    let first : IsFirstFault T a r line = record { earlier = all_below T a (number r) before; fails = d.1 } in
    subst (λ (s : Rule). IsFirstFault T a s line) (sym d.0) first
told T a r fault.NoMemory before d = tt

-- the rules that pass so far
pub ends_pass : (T : Topology) (a : Answer) → Passes T a rule.Ends → PassBelow T a rule.Ends 3
ends_pass T a ends = one_more T a rule.Ends rule.Ends (none_below T a rule.Ends) ends

pub carried_passes : (T : Topology) (a : Answer) → Passes T a rule.Ends → Passes T a rule.Carried → PassBelow T a rule.Ends 4
carried_passes T a ends carried = one_more T a rule.Ends rule.Carried (ends_pass T a ends) carried

pub arrives_passes : (T : Topology) (a : Answer) → Passes T a rule.Ends → Passes T a rule.Carried → Passes T a rule.Arrives → PassBelow T a rule.Ends 5
arrives_passes T a ends carried arrives = one_more T a rule.Ends rule.Arrives (carried_passes T a ends carried) arrives

pub weighed_passes : (T : Topology) (a : Answer) → Passes T a rule.Ends → Passes T a rule.Carried → Passes T a rule.Arrives → Passes T a rule.Weighed → PassBelow T a rule.Ends 6
weighed_passes T a ends carried arrives weighed = one_more T a rule.Ends rule.Weighed (arrives_passes T a ends carried arrives) weighed

pub flagged_passes : (T : Topology) (a : Answer) → Passes T a rule.Ends → Passes T a rule.Carried → Passes T a rule.Arrives → Passes T a rule.Weighed → Passes T a rule.Flagged → PassBelow T a rule.Ends 7
flagged_passes T a ends carried arrives weighed flagged = one_more T a rule.Ends rule.Flagged (weighed_passes T a ends carried arrives weighed) flagged

pub all_pass : (T : Topology) (a : Answer) → Passes T a rule.Ends → Passes T a rule.Carried → Passes T a rule.Arrives → Passes T a rule.Weighed → Passes T a rule.Flagged → Passes T a rule.Ruled → PassWithin T a rule.Ends rule.Ruled
all_pass T a ends carried arrives weighed flagged ruled = within T a rule.Ends rule.Ruled (one_more T a rule.Ends rule.Ruled (flagged_passes T a ends carried arrives weighed flagged) ruled)

-- what is well formed has a flag for each hop
one_flag_each : (n : ℕ) (hops : List Hop) (flags : List (Option ℕ)) → AreHops n hops flags → length hops ≡ length flags
one_flag_each n [] [] are = refl
one_flag_each n [] (f ∷ flags) are = absurd are
one_flag_each n (h ∷ hops) [] are = absurd are
one_flag_each n (h ∷ hops) (f ∷ flags) are = ap suc (one_flag_each (suc n) hops flags are.1)

pub flags_counted : (o : Outcome) (a : Answer) → IsBody o a → length a.hops ≡ length a.flags
flags_counted (outcome.Found cost hops) a b = one_flag_each 1 a.hops a.flags b.0
flags_counted outcome.NoWalk a b = ap length b.0 ∙ sym (ap length b.1)
flags_counted outcome.Past a b = ap length b.0 ∙ sym (ap length b.1)
flags_counted (outcome.Long cost hops) a b = ap length b.0 ∙ sym (ap length b.1)
