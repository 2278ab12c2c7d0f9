use Rattle.answer_text.proofs.Resumed.{answered_spelled, answered_again, answered_first}
use Rattle.answer_text.proofs.reading.read.Goals as goal

pub returns-clause-spelled : goal.returns-clause-spelled
returns-clause-spelled c = answered_spelled c.args.bytes.now c.read_version.result c.read_version.ensures

pub returns-clause-again : goal.returns-clause-again
returns-clause-again c = answered_again c.args.bytes.now c.read_version.result c.read_version.ensures

pub returns-clause-line : goal.returns-clause-line
returns-clause-line c = answered_first c.args.bytes.now c.read_version.result c.read_version.ensures
