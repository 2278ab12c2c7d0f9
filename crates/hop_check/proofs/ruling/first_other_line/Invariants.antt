use Rattle.std.specs.Prelude.{option_copied}
use Rattle.device_rules.specs.Rules.{after}
use Rattle.hop_check.proofs.OtherLine.{AgreeTo}
use Rattle.hop_check.proofs.ruling.first_other_line.Given as goal

abbrev pub invariant-loop-at : goal.invariant-loop-at
invariant-loop-at l = AgreeTo l.fn.rules l.fn.due l.at (after (option_copied l.previous)) l.lines
