use Rattle.std.proofs.Common.{rules}
use Rattle.pair_check.proofs.Listed.{at_zero, not_at_zero}
use Rattle.pair_check.proofs.listing.is_listed_at_zero.Goals as goal

pub returns-in-Some : goal.returns-in-Some
returns-in-Some c =
    at_zero c.args.pots.now c.args.root c.args.state c.in-Some.weight c.in-Some.ensures.some c.in-Some.ensures.only c.eq.result c.zero.result c.zero.ensures (search rules)

pub returns-in-None : goal.returns-in-None
returns-in-None c = not_at_zero c.args.pots.now c.args.root c.args.state c.in-None.ensures.none
