use Rattle.layer_check.proofs.FirstPlaces.{first_together}
use Rattle.layer_check.proofs.related.first_of_both.Goals as goal

pub returns : goal.returns
returns c = λ test both. first_together c.args.inventory.now test c.args.one.now c.args.other.now c.first_of.result c.first_of-2.result c.lesser.result c.first_of.ensures c.first_of-2.ensures c.lesser.ensures both
