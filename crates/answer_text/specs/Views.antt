-- The words of a line, seen as the rows that are read.
use Rattle.std.specs.Prelude.{ℕ, suc, List, Option, None, option_map}
use Rattle.ml_base.specs.declared.weight.Weight.{Weight}
use Rattle.circuit_spec.specs.declared.hops.PlaceName.{PlaceName}
use Rattle.line_text.specs.Fields.{Word, And, Done, done, and_of, id_of, tag_of, done_of, wish_of}
use Rattle.ml_base.specs.declared.numbers.Wish.{Wish}
use Rattle.circuit_spec.specs.declared.hops.Request.{Request}
use Rattle.circuit_spec.specs.declared.hops.Outcome.{Outcome}
use Rattle.circuit_spec.specs.declared.hops.Outcome.TheVariants as outcome
use Rattle.answer_text.specs.declared.fields.HopWords as fields
use Rattle.answer_text.specs.Reading.{Numbers, TopWords, SegWords, HopWords, RequestWords, flag_of, Phase, Hops, Pots, Step, or_else, found_of, unfound_of, add_hop, add_outcome}
use Rattle.answer_spec.specs.declared.answer.Answer.{Answer}

abbrev pub numbers_view : ℕ × ℕ → Numbers
numbers_view x = record { head = x.0; rest = record { head = x.1; rest = done } }

abbrev pub one_view : ℕ → And ℕ Done
one_view n = record { head = n; rest = done }

abbrev pub EndWords : Type 0
EndWords = And Word (Option ℕ)

-- a domain and a flag
abbrev pub end_words_of : List Word → Option EndWords
end_words_of = and_of id_of flag_of

abbrev pub end_view : Word × Option ℕ → EndWords
end_view x = record { head = x.0; rest = x.1 }

abbrev pub ToWords : Type 0
ToWords = And Word (And (Option ℕ) EndWords)

abbrev pub to_words_of : List Word → Option ToWords
to_words_of = and_of id_of (and_of tag_of end_words_of)

abbrev pub to_view : PlaceName × (Word × Option ℕ) → ToWords
to_view x = record { head = x.0.class; rest = record { head = x.0.label; rest = end_view x.1 } }

abbrev pub top_view : PlaceName × Weight → TopWords
top_view x = record { head = x.0.class; rest = record { head = x.0.label; rest = x.1 } }

abbrev pub FromWords : Type 0
FromWords = And Word (And (Option ℕ) ToWords)

abbrev pub from_words_of : List Word → Option FromWords
from_words_of = and_of id_of (and_of tag_of to_words_of)

abbrev pub from_view : PlaceName × (PlaceName × (Word × Option ℕ)) → FromWords
from_view x = record { head = x.0.class; rest = record { head = x.0.label; rest = to_view x.1 } }

abbrev pub element_words_of : List Word → Option (And Word FromWords)
element_words_of = and_of id_of from_words_of

abbrev pub element_view : Word × (PlaceName × (PlaceName × (Word × Option ℕ))) → And Word FromWords
element_view x = record { head = x.0; rest = from_view x.1 }

abbrev pub hop_view : fields.HopWords → HopWords
hop_view x = record { head = x.number; rest = record { head = x.hop.kind; rest = record { head = x.hop.element; rest = record { head = x.hop.from; rest = record { head = x.hop.from_label; rest = record { head = x.hop.to; rest = record { head = x.hop.to_label; rest = record { head = x.hop.domain; rest = x.flag } } } } } } } }

abbrev pub seg_view : PlaceName × (PlaceName × Weight) → SegWords
seg_view x = record { head = x.0.class; rest = record { head = x.0.label; rest = top_view x.1 } }

-- the end of a request
abbrev pub half_words_of : List Word → Option (And Word (And Wish Done))
half_words_of = and_of id_of (and_of wish_of done_of)

abbrev pub half_view : Word × Wish → And Word (And Wish Done)
half_view x = record { head = x.0; rest = record { head = x.1; rest = done } }

abbrev pub request_view : Request → RequestWords
request_view r = record { head = r.from; rest = record { head = r.from_wish; rest = half_view (r.to, r.to_wish) } }

-- ---- lines

-- a hop of this number leads on, and is added
abbrev pub hop_added : ℕ → fields.HopWords → Phase × (Answer → Answer)
hop_added n x = (Hops (suc n), add_hop x.hop x.flag)

-- hops may come behind an outcome that is found, potentials behind any other
abbrev pub outcome_added : Outcome → Phase × (Answer → Answer)
outcome_added (outcome.Found cost hops) = (Hops 1, add_outcome (outcome.Found cost hops))
outcome_added outcome.NoWalk = (Pots None, add_outcome outcome.NoWalk)
outcome_added outcome.Past = (Pots None, add_outcome outcome.Past)
outcome_added (outcome.Long cost hops) = (Pots None, add_outcome (outcome.Long cost hops))

-- the words behind "outcome"
abbrev pub outcome_rest : List Word → Step
outcome_rest words = or_else (option_map (λ o. (Hops 1, add_outcome o)) (found_of words)) (option_map (λ o. (Pots None, add_outcome o)) (unfound_of words))
