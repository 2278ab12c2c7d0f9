use Rattle.segment_grammar.proofs.Generation.{generated_is_reached, reached_is_generated}
use Rattle.segment_grammar.proofs.laws.reached_pairs_are_generated.Goals as goal

pub returns : goal.returns
returns c steps starts root state = (reached_is_generated steps starts root state, generated_is_reached steps starts root state)
