-- Texts of sizes: what is read, and what is refused.
use Rattle.std.proofs.Common.{◌≡◌, ◌∙◌, ap, ℕ, List, Result, Ok, Err}
use Rattle.std.specs.Prelude.{IfOk}
use Rattle.line_fault.specs.declared.fault.LineFault.{LineFault}
use Rattle.line_fault.specs.Answering.{led, AnswersAs}
use Rattle.line_text.specs.Lines.{text_of}
use Rattle.line_text.proofs.LineLaws.{read_text}
use Rattle.sizes_text.specs.Table.{SizeTable}
use Rattle.sizes_text.specs.Text.{Spells}
use Rattle.sizes_text.specs.Reading.{Start, sizes_step, sizes_end, sizes_in}
use Rattle.sizes_text.proofs.SizeLaws.{whole_found}

pub spelled_when_read : (bytes : List ℕ) (table : SizeTable) → sizes_in bytes ≡ Ok table → Spells bytes table
spelled_when_read bytes table e =
    let t = read_text (led sizes_step) sizes_end Start bytes table e in
    let f = whole_found t.0 table t.2 in
    record { sizes = f.0; told = f.1; spelled = t.1 ∙ ap text_of f.2 }

pub answered_spelled : (bytes : List ℕ) (r : Result SizeTable LineFault) → AnswersAs r (sizes_in bytes) → IfOk r (Spells bytes)
answered_spelled bytes (Ok table) e = spelled_when_read bytes table e
answered_spelled bytes (Err f) e = tt
