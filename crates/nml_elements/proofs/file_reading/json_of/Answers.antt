use Rattle.std.proofs.Common.{refl, inr}
use Rattle.ml_base.proofs.Comparisons.{untrue}
use Rattle.nml_elements.proofs.Json.{json_of-text, json_of-none}
use Rattle.nml_elements.proofs.file_reading.json_of.Goals as goal

pub returns-in-Ok-clause-value : goal.returns-in-Ok-clause-value
returns-in-Ok-clause-value c = json_of-text _ _ c.in-Ok.ensures.ok.0 c.in-Ok.ensures.ok.1

pub returns-else-is_memory-clause-refusal : goal.returns-else-is_memory-clause-refusal
returns-else-is_memory-clause-refusal c = inr (refl, json_of-none _ (c.in-Err.ensures.err (λ m. untrue _ c.if-is_memory.false (c.is_memory.ensures.1 m))))
