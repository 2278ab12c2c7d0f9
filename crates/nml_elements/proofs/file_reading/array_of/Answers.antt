use Rattle.std.proofs.Common.{arith, ap}
use Rattle.nml_elements.specs.FileReading.{at_element}
use Rattle.nml_elements.proofs.Arrays.{array_at-some, array_at-over, array_at-none}
use Rattle.nml_elements.proofs.file_reading.array_of.Goals as goal

pub returns-in_default : goal.returns-in_default
returns-in_default c = rw c.file_fault.ensures (ap (at_element 0) (array_at-none _ c.in_default.ensures))

pub returns-then-len-gt16777216 : goal.returns-then-len-gt16777216
returns-then-len-gt16777216 c = rw c.file_fault-then-len-gt16777216.ensures (ap (at_element 0) (array_at-over _ c.in-Some.values.now.items c.in-Some.ensures (omega arith)))

pub returns : goal.returns
returns c = ap (at_element 0) (array_at-some _ c.in-Some.values.now.items c.in-Some.ensures (omega arith))
