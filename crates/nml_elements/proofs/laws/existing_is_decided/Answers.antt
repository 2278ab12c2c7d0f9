use Rattle.nml_elements.proofs.Existing.{test_exists, exists_test}
use Rattle.nml_elements.proofs.laws.existing_is_decided.Goals as goal

pub returns : goal.returns
returns c = λ window life. (test_exists window life, exists_test window life)
