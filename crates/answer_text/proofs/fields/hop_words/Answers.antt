use Rattle.std.proofs.Common.{◌^◌, option_copied}
use Rattle.std.proofs.lemmas.Result.{err_from_is_err_and}
use Rattle.line_text.specs.Cursor.{parts_of}
use Rattle.line_text.specs.Fields.{number_of, entry_of}
use Rattle.answer_text.specs.Reading.{kinds}
use Rattle.answer_text.specs.Views.{element_words_of}
use Rattle.answer_text.proofs.Thrice.{fails_third, all_three}
use Rattle.answer_text.proofs.fields.hop_words.Goals as goal

pub returns-in_err-element : goal.returns-in_err-element
returns-in_err-element c =
    let p = err_from_is_err_and c.from_residual-in_err-element.result c.from_residual-in_err-element.ensures.1 in
    rw (p.1, p.2) (fails_third (number_of (2 ^ 64)) (entry_of kinds) element_words_of (parts_of 32 (option_copied c.args.rest)) (parts_of 32 (option_copied c.in_ok-number.rest)) (parts_of 32 (option_copied c.in_ok-kind.rest)) c.in_ok-number.number c.in_ok-kind.kind c.in_err-element.field-0.0 c.in_ok-number.ensures c.in_ok-kind.ensures c.in_err-element.ensures)

pub returns : goal.returns
returns c = all_three (number_of (2 ^ 64)) (entry_of kinds) element_words_of (parts_of 32 (option_copied c.args.rest)) (parts_of 32 (option_copied c.in_ok-number.rest)) (parts_of 32 (option_copied c.in_ok-kind.rest)) c.in_ok-number.number c.in_ok-kind.kind _ c.in_ok-number.ensures c.in_ok-kind.ensures c.in_ok-element.ensures
