use Rattle.std.proofs.Common.{◌≡◌, ◌+◌, ◌∙◌, sym, ap, subst, cond, None}
use Rattle.std.specs.Prelude.{is_some}
use Rattle.std.specs.HashMap.{hash_map_len}
use Rattle.segment_grammar.specs.FrameRows.{numbered, IsNumbering}
use Rattle.segment_grammar.proofs.Numbering.{numbering_more, numbers_kept, some_found, none_found}
use Rattle.segment_grammar.proofs.frame_rows.number.Goals as goal

pub returns-then-contains_key-clause-found : goal.returns-then-contains_key-clause-found
returns-then-contains_key-clause-found c = some_found (numbered c.args.numbers.now.entries c.args.state c.args.frame) (sym c.contains_key.ensures ∙ c.if-contains_key.true)

pub returns-in-Ok-clause-numbering : goal.returns-in-Ok-clause-numbering
returns-in-Ok-clause-numbering c =
    let none : numbered c.args.numbers.now.entries c.args.state c.args.frame ≡ None = none_found _ (sym c.contains_key.ensures ∙ c.if-contains_key.false) in
    let more : hash_map_len c.insert.new.self ≡ c.len-number.result + 1 =
    c.in-Ok.ensures.len ∙ ap (λ b. hash_map_len c.args.numbers.now + cond b 0 1) (ap is_some (c.in-Ok.ensures.old ∙ none)) ∙ ap (λ n. n + 1) (sym c.len-number.ensures.len) in
    numbering_more c.args.numbers.now.entries c.insert.new.self.entries c.args.state c.args.frame c.len-number.result c.in-Ok.ensures.updates.0 (hash_map_len c.insert.new.self) more
    (subst (λ n. IsNumbering c.args.numbers.now.entries n) (sym c.len-number.ensures.len) c.requires.numbering)

pub returns-in-Ok-clause-kept : goal.returns-in-Ok-clause-kept
returns-in-Ok-clause-kept c = numbers_kept c.args.numbers.now.entries c.insert.new.self.entries c.args.state c.args.frame c.len-number.result c.in-Ok.ensures.updates.0
    (none_found _ (sym c.contains_key.ensures ∙ c.if-contains_key.false))
