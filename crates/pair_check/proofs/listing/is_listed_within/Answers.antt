use Rattle.pair_check.proofs.Listed.{not_within, within_most}
use Rattle.pair_check.proofs.listing.is_listed_within.Goals as goal

pub returns-in-Some : goal.returns-in-Some
returns-in-Some c =
    within_most c.args.pots.now c.args.root c.args.state c.in-Some.weight c.in-Some.ensures.some c.in-Some.ensures.only c.is_at_most.result c.args.most c.is_at_most.ensures

pub returns-in-None : goal.returns-in-None
returns-in-None c = not_within c.args.pots.now c.args.root c.args.state c.in-None.ensures.none c.args.most
