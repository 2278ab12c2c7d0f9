use Rattle.sizes_text.proofs.SizeTexts.{spelled_when_read}
use Rattle.sizes_text.proofs.laws.read_sizes_are_spelled.Goals as goal

pub returns : goal.returns
returns c = spelled_when_read
