use Rattle.layer_check.specs.Comparing.{differs_from}
use Rattle.layer_check.proofs.FirstPlaces.{are_within, other_together}
use Rattle.layer_check.proofs.related.other_of_both.Goals as goal

pub first_other-requires : goal.first_other-requires
first_other-requires c = are_within c.args.inventory.now c.requires.1.of_one c.args.one.now c.requires.1.ones

pub first_other-requires-2 : goal.first_other-requires-2
first_other-requires-2 c = are_within c.args.inventory.now c.requires.1.of_other c.args.other.now c.requires.1.others

pub returns : goal.returns
returns c = λ test both. other_together c.args.inventory.now test (differs_from c.args.reference) c.args.one.now c.args.other.now c.first_other.result c.first_other-2.result c.lesser.result c.first_other.ensures c.first_other-2.ensures c.lesser.ensures both
