-- What stands before a line, as the reader keeps it.
use Rattle.sizes_text.specs.declared.reader.SizeReader.{SizeReader}
use Rattle.sizes_text.specs.declared.reader.SizeReader.TheVariants as seen
use Rattle.sizes_text.specs.Reading.{At, Start, In, Ended}

abbrev pub at_of : SizeReader → At
at_of seen.Start = Start
at_of (seen.In sizes) = In sizes
at_of (seen.Ended sizes) = Ended sizes
