use Rattle.std.proofs.Common.{◌-◌}
use Rattle.segment_grammar.specs.Pots.{IsBetween}
use Rattle.segment_grammar.proofs.potentials.Potentials.first_from.Given as goal

abbrev pub invariant-loop-low : goal.invariant-loop-low
invariant-loop-low l = IsBetween l.self l.root l.state l.low l.high

abbrev pub decreases-loop-low : goal.decreases-loop-low
decreases-loop-low l = l.high - l.low
