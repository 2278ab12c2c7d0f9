use Rattle.pair_check.proofs.Lesser.{listed_more, unlisted_more}
use Rattle.pair_check.proofs.least.least_with.Goals as goal

pub returns-in-Some : goal.returns-in-Some
returns-in-Some c =
    λ before is. listed_more c.args.pots.now before c.args.state c.in-Some.weight c.in-Some.ensures.some c.in-Some.ensures.only c.args.least c.lesser.result c.lesser.ensures is

pub returns-in-None : goal.returns-in-None
returns-in-None c = λ before is. unlisted_more c.args.pots.now before c.args.state c.in-None.ensures.none c.args.least is
