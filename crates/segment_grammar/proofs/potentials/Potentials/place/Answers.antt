use Rattle.segment_grammar.proofs.Rising.{none_between}
use Rattle.segment_grammar.proofs.potentials.Potentials.place.Goals as goal

pub returns-then-not-is_of_pair-clause-none : goal.returns-then-not-is_of_pair-clause-none
returns-then-not-is_of_pair-clause-none c = none_between c.args.self.now c.first_from-place.ensures.rising c.args.root c.args.state c.first_from-place.result c.first_from-place.ensures.between (c.is_of_pair.ensures.no c.if-not-is_of_pair.true)
