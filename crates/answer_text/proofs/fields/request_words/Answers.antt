use Rattle.std.proofs.Common.{option_copied}
use Rattle.std.proofs.lemmas.Result.{err_from_is_err_and}
use Rattle.line_text.specs.Cursor.{parts_of}
use Rattle.line_text.specs.Fields.{id_of, wish_of}
use Rattle.answer_text.specs.Views.{half_words_of}
use Rattle.answer_text.proofs.Thrice.{fails_third, all_three}
use Rattle.answer_text.proofs.fields.request_words.Goals as goal

pub returns-in_err-to : goal.returns-in_err-to
returns-in_err-to c =
    let p = err_from_is_err_and c.from_residual-in_err-to.result c.from_residual-in_err-to.ensures.1 in
    rw (p.1, p.2) (fails_third id_of wish_of half_words_of (parts_of 32 (option_copied c.args.rest)) (parts_of 32 (option_copied c.in_ok-from.rest)) (parts_of 32 (option_copied c.in_ok-from_wish.rest)) c.in_ok-from.from c.in_ok-from_wish.from_wish c.in_err-to.field-0.0 c.in_ok-from.ensures c.in_ok-from_wish.ensures c.in_err-to.ensures)

pub returns : goal.returns
returns c = all_three id_of wish_of half_words_of (parts_of 32 (option_copied c.args.rest)) (parts_of 32 (option_copied c.in_ok-from.rest)) (parts_of 32 (option_copied c.in_ok-from_wish.rest)) c.in_ok-from.from c.in_ok-from_wish.from_wish _ c.in_ok-from.ensures c.in_ok-from_wish.ensures c.in_ok-to.ensures
