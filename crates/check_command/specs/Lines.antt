-- The lines on a document, each with its newline.
use Rattle.std.specs.Prelude.{ℕ, List, Bool, true, false, ◌++◌, codes, decimal}
use Rattle.circuit_spec.specs.declared.hops.Outcome.{Outcome}
use Rattle.circuit_spec.specs.declared.hops.Outcome.TheVariants.{Found, NoWalk, Past, Long}
use Rattle.verdict.specs.declared.verdicts.Verdict.{Verdict}
use Rattle.verdict.specs.declared.verdicts.Verdict.TheVariants.{Valid, NotValid}
use Rattle.verdict.specs.Rules.{number}
use Rattle.rule_replay.specs.declared.replayed.Replayed.{Replayed}
use Rattle.rule_replay.specs.declared.replayed.Replayed.TheVariants.{Carried, NotCarried}
use Rattle.rule_replay.specs.declared.replayed.ReplayCause.{ReplayCause}
use Rattle.rule_replay.specs.declared.replayed.ReplayCause.TheVariants as cause

-- ---- verdicts

-- the words of an outcome, which end a line
abbrev pub outcome_end : Outcome → List ℕ
outcome_end (Found cost hops) = codes "found " ++ decimal cost ++ codes " " ++ decimal hops ++ codes "\n"
outcome_end NoWalk = codes "none\n"
outcome_end Past = codes "past\n"
outcome_end (Long cost hops) = codes "long " ++ decimal cost ++ codes " " ++ decimal hops ++ codes "\n"

unfoldable pub valid_line : Outcome → List ℕ
valid_line outcome = codes "valid " ++ outcome_end outcome

unfoldable pub not_valid_line : ℕ → ℕ → List ℕ
not_valid_line line rule = codes "not-valid " ++ decimal line ++ codes " " ++ decimal rule ++ codes "\n"

-- the line that tells a verdict: the outcome, or the line and the number of the rule
abbrev pub verdict_line : Verdict → List ℕ
verdict_line (Valid outcome) = valid_line outcome
verdict_line (NotValid line broken) = not_valid_line line (number broken)

-- ---- replays

abbrev pub order_end : Bool → List ℕ
order_end true = codes "any-order\n"
order_end false = codes "numbered\n"

unfoldable pub carried_line : ℕ → Bool → List ℕ
carried_line rules any_order = codes "carried " ++ decimal rules ++ codes " " ++ order_end any_order

abbrev pub cause_end : ReplayCause → List ℕ
cause_end cause.Text = codes "text\n"
cause_end cause.Outcome = codes "outcome\n"
cause_end cause.Request = codes "request\n"
cause_end cause.Number = codes "number\n"
cause_end cause.NoHop = codes "no-hop\n"
cause_end cause.Label = codes "label\n"
cause_end cause.Frame = codes "frame\n"
cause_end cause.End = codes "end\n"

unfoldable pub not_carried_line : ℕ → ReplayCause → List ℕ
not_carried_line at why = codes "not-carried " ++ decimal at ++ codes " " ++ cause_end why

-- the line that tells what the rules of a document do
abbrev pub replay_line : Replayed → List ℕ
replay_line (Carried rules any_order) = carried_line rules any_order
replay_line (NotCarried at why) = not_carried_line at why
