use Rattle.std.proofs.Common.{option_copied}
use Rattle.std.proofs.lemmas.Result.{err_from_is_err_and}
use Rattle.line_text.specs.Cursor.{parts_of}
use Rattle.line_text.specs.Fields.{id_of, tag_of}
use Rattle.answer_text.specs.Reading.{top_words_of}
use Rattle.answer_text.proofs.Thrice.{fails_third, all_three}
use Rattle.answer_text.proofs.fields.seg_words.Goals as goal

pub returns-in_err-top : goal.returns-in_err-top
returns-in_err-top c =
    let p = err_from_is_err_and c.from_residual-in_err-top.result c.from_residual-in_err-top.ensures.1 in
    rw (p.1, p.2) (fails_third id_of tag_of top_words_of (parts_of 32 (option_copied c.args.rest)) (parts_of 32 (option_copied c.in_ok-class.rest)) (parts_of 32 (option_copied c.in_ok-label.rest)) c.in_ok-class.class c.in_ok-label.label c.in_err-top.field-0.0 c.in_ok-class.ensures c.in_ok-label.ensures c.in_err-top.ensures)

pub returns : goal.returns
returns c = all_three id_of tag_of top_words_of (parts_of 32 (option_copied c.args.rest)) (parts_of 32 (option_copied c.in_ok-class.rest)) (parts_of 32 (option_copied c.in_ok-label.rest)) c.in_ok-class.class c.in_ok-label.label _ c.in_ok-class.ensures c.in_ok-label.ensures c.in_ok-top.ensures
