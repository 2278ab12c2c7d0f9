use Rattle.std.proofs.Common.{◌≡◌, ◌∙◌, ap, [], ◌∷◌, ◌++◌}
use Rattle.std.specs.Prelude.{codes, decimal}
use Rattle.line_text.specs.Fields.{spaced, tag}
use Rattle.line_text.proofs.Writes.{then_word, then_words, then_all, then_end}
use Rattle.answer_text.specs.Spelling.{kind_word, again_words}
use Rattle.answer_text.proofs.making.make_hop_line.Goals as goal

pub returns : goal.returns
returns c =
    let hop = c.args.hop.now in
    let key = codes "hop" in
    let first = decimal c.args.number in
    let kind = kind_word hop.kind in
    let e1 : c.push.new.self ≡ spaced (key ∷ []) = c.push.ensures ∙ ap (λ l. l ++ key) c.new-line.ensures in
    let e2 = then_word c.push.new.self c.push_number.new.line key [] first e1 c.push_number.ensures.spelled in
    let e3 = then_word c.push_number.new.line c.push_kind.new.line key (first ∷ []) kind e2 c.push_kind.ensures.spelled in
    let e4 = then_word c.push_kind.new.line c.push_id.new.line key (first ∷ kind ∷ []) hop.element e3 c.push_id.ensures.spelled in
    let e5 = then_words c.push_id.new.line c.push_place.new.line key (first ∷ kind ∷ hop.element ∷ []) hop.from (tag hop.from_label) e4 c.push_place.ensures.spelled in
    let e6 = then_words c.push_place.new.line c.push_place-2.new.line key (first ∷ kind ∷ hop.element ∷ hop.from ∷ tag hop.from_label ∷ []) hop.to (tag hop.to_label) e5 c.push_place-2.ensures.spelled in
    let e7 = then_word c.push_place-2.new.line c.push_id-2.new.line key (first ∷ kind ∷ hop.element ∷ hop.from ∷ tag hop.from_label ∷ hop.to ∷ tag hop.to_label ∷ []) hop.domain e6 c.push_id-2.ensures.spelled in
    let e8 = then_all c.push_id-2.new.line c.push_flag.new.line key (first ∷ kind ∷ hop.element ∷ hop.from ∷ tag hop.from_label ∷ hop.to ∷ tag hop.to_label ∷ hop.domain ∷ []) (again_words c.args.flag) e7 c.push_flag.ensures.spelled in
    then_end c.push_flag.new.line c.push-2.new.self (key ∷ first ∷ kind ∷ hop.element ∷ hop.from ∷ tag hop.from_label ∷ hop.to ∷ tag hop.to_label ∷ hop.domain ∷ again_words c.args.flag) e8 c.push-2.ensures
