use Rattle.std.proofs.Common.{arith, ap, length, refl}
use Rattle.segment_grammar.specs.Pots.{pot}
use Rattle.segment_grammar.proofs.Places.{slice_get-below, read_at}
use Rattle.segment_grammar.proofs.Rising.{weighed}
use Rattle.segment_grammar.proofs.potentials.Potentials.weight.Goals as goal

pub returns-in_default-clause-none : goal.returns-in_default-clause-none
returns-in_default-clause-none c w listed = c.in_default.ensures.none (pot c.args.root c.args.state w) listed (refl, refl)

pub index-requires : goal.index-requires
index-requires c = omega (arith, ap length c.self.view_is, slice_get-below c.args.self.now c.in-Some.place c.in-Some.ensures.some.0 c.in-Some.ensures.some.1)

pub returns-clause-some : goal.returns-clause-some
returns-clause-some c = weighed c.args.self.now c.in-Some.place c.args.root c.args.state c.index.result.now
    (read_at c.self.inside.items.items c.args.self.now c.self.view_is c.in-Some.place c.index.result.now c.index.ensures
    (slice_get-below c.args.self.now c.in-Some.place c.in-Some.ensures.some.0 c.in-Some.ensures.some.1)) c.in-Some.ensures.some
