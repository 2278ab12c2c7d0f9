use Rattle.std.proofs.Common.{option_copied}
use Rattle.line_text.specs.Fields.{id_of}
use Rattle.line_text.specs.Cursor.{parts_of}
use Rattle.line_text.proofs.Taking.{and_both}
use Rattle.answer_text.specs.Views.{from_words_of}
use Rattle.answer_text.proofs.fields.element_words.Goals as goal

pub returns : goal.returns
returns c = and_both id_of from_words_of (parts_of 32 (option_copied c.args.rest)) (parts_of 32 (option_copied c.in_ok-element.rest)) c.in_ok-element.element _ c.in_ok-element.ensures c.in_ok-from.ensures
