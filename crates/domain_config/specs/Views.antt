-- The words of a line of rules, seen as the rows that are read.
use Rattle.std.specs.Prelude.{List, ℕ}
use Rattle.domain_config.specs.declared.verb.Verb.{Verb}
use Rattle.domain_config.specs.declared.verb.Verb.TheVariants as seen
use Rattle.domain_config.specs.declared.line.RuleWords.{RuleWords}
use Rattle.line_text.specs.Fields.{Word, And, Done, done}
use Rattle.domain_config.specs.Rules as spec

abbrev pub verb_view : Verb → spec.Verb
verb_view seen.Carry = spec.Carry
verb_view seen.Connect = spec.Connect
verb_view seen.Swap = spec.Swap
verb_view seen.Wrap = spec.Wrap
verb_view seen.Unwrap = spec.Unwrap
verb_view seen.Convert = spec.Convert

abbrev pub words_view : RuleWords → spec.RuleWords
words_view w = record { head = w.number; rest = record { head = verb_view w.verb; rest = record { head = w.element; rest = record { head = w.from; rest = record { head = w.from_label; rest = record { head = w.to; rest = record { head = w.to_label; rest = done } } } } } } }

abbrev pub domain_view : List ℕ → And Word Done
domain_view domain = record { head = domain; rest = done }
