use Rattle.std.proofs.Common.{◌≡◌, take}
use Rattle.survey_command.specs.Surveying.{heading}
use Rattle.survey_command.proofs.surveying.heading_of.Given as goal

abbrev pub invariant-loop-domain : goal.invariant-loop-domain
invariant-loop-domain l = l.lines ≡ heading (take l.domain-index l.domains)
