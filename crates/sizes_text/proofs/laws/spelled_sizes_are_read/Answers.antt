use Rattle.line_fault.specs.Answering.{led}
use Rattle.line_text.proofs.LineLaws.{text_read}
use Rattle.sizes_text.specs.Text.{size_lines}
use Rattle.sizes_text.specs.Reading.{Start, sizes_step, sizes_end}
use Rattle.sizes_text.proofs.SizeLaws.{sizes_only, size_lines_whole}
use Rattle.sizes_text.proofs.laws.spelled_sizes_are_read.Goals as goal

pub returns : goal.returns
returns c = λ sizes table h. text_read (led sizes_step) sizes_end Start (size_lines sizes) table (size_lines_whole sizes table h) (sizes_only sizes table h)
