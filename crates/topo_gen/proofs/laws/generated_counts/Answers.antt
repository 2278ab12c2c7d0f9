use Rattle.topo_gen.proofs.Sizes.{counts}
use Rattle.topo_gen.proofs.laws.generated_counts.Goals as goal

pub returns : goal.returns
returns c = counts
