use Rattle.label_sets.proofs.GroupSet.{given_set, spelt_set, given_refusal, refused_text}
use Rattle.label_sets.proofs.laws.texts_are_decided.Goals as goal

pub returns-clause-sets : goal.returns-clause-sets
returns-clause-sets c = record { given = given_set; spelt = spelt_set }

pub returns-clause-refusals : goal.returns-clause-refusals
returns-clause-refusals c = record { given = given_refusal; refused = refused_text }
