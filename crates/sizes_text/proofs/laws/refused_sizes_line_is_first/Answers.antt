use Rattle.line_fault.specs.Answering.{led}
use Rattle.line_text.proofs.LineLaws.{refused_first}
use Rattle.sizes_text.specs.Text.{IsSizesText}
use Rattle.sizes_text.specs.Reading.{Start, sizes_step, sizes_end}
use Rattle.sizes_text.proofs.SizeLaws.{sizes_grammar}
use Rattle.sizes_text.proofs.laws.refused_sizes_line_is_first.Goals as goal

pub returns : goal.returns
returns c = λ bytes n e. refused_first (led sizes_step) sizes_end Start IsSizesText sizes_grammar bytes n e
