-- The lines of a summary, each with its newline.
use Rattle.std.specs.Prelude.{ℕ, ◌+◌, ◌*◌, List, [], ◌∷◌, ◌++◌, Bool, true, false, codes, decimal, is_none, length, Option}
use Rattle.std.specs.List.{list_all}
use Rattle.circuit_spec.specs.declared.hops.Outcome.{Outcome}
use Rattle.circuit_spec.specs.declared.hops.Outcome.TheVariants.{Found, NoWalk, Past, Long}
use Rattle.answer_spec.specs.declared.answer.Answer.{Answer}
use Rattle.answer_text.specs.Spelling.{outcome_line}
use Rattle.rule_replay.specs.declared.replayed.Replayed.{Replayed}
use Rattle.rule_replay.specs.declared.replayed.Replayed.TheVariants.{Carried, NotCarried}

-- the words that asked
unfoldable pub drill_line : ℕ → List ℕ
drill_line levels = codes "drill " ++ decimal levels ++ codes "\n"

-- how large a generated network of these many levels is
unfoldable pub size_line : ℕ → List ℕ
size_line levels =
    codes "domains " ++ decimal (levels + 1) ++ codes " ports " ++ decimal (2 + 3 * levels) ++ codes " links " ++ decimal 8 ++ codes " services " ++ decimal (4 * levels) ++ codes "\n"

-- the answer has a certificate
unfoldable pub valid_line : List ℕ
valid_line = codes "check valid\n"

-- no hop comes to a place that was passed before
abbrev pub is_unflagged : List (Option ℕ) → Bool
is_unflagged flags = list_all is_none flags

-- whether devices may set the rules in any order, or need their numbers
abbrev pub order_words : Bool → List ℕ
order_words true = codes "any-order\n"
order_words false = codes "numbered\n"

-- the rules carry a unit over all hops
unfoldable pub carried_line : ℕ → Bool → List ℕ
carried_line hops any_order = codes "replay carried " ++ decimal hops ++ codes " " ++ order_words any_order

-- there is nothing to carry
unfoldable pub nothing_line : List ℕ
nothing_line = codes "replay -\n"

-- what a replay tells of the rules
abbrev pub told_line : Replayed → List ℕ
told_line (Carried rules any_order) = carried_line rules any_order
told_line (NotCarried at why) = nothing_line

-- what the rules of an answer do
abbrev pub replay_line : Outcome → Answer → List ℕ
replay_line (Found cost hops) a = carried_line (length a.hops) (is_unflagged a.flags)
replay_line NoWalk a = nothing_line
replay_line Past a = nothing_line
replay_line (Long cost hops) a = nothing_line

-- the lines of the summary of an answer
abbrev pub summary : ℕ → Answer → List (List ℕ)
summary levels a =
    drill_line levels
    ∷ size_line levels
    ∷ (outcome_line a.outcome ++ codes "\n")
    ∷ valid_line
    ∷ replay_line a.outcome a
    ∷ []
