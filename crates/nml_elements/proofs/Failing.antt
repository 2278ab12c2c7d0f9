-- A fault stops a reading.
use Rattle.std.proofs.Common.{Result, ap}
use Rattle.nml_elements.specs.declared.fault.MemberFault.{MemberFault}
use Rattle.nml_elements.specs.declared.fault.MemberFault.TheVariants.{Rule, Label, NoMemory}
use Rattle.nml_elements.specs.Gives.{◌>>=◌, Fails}

pub Fails-bind : {A B : Type 0} (e : MemberFault) (read : Result A MemberFault) (rest : A → Result B MemberFault) → Fails e read → Fails e (read >>= rest)
Fails-bind (Rule rule) read rest h = ap (λ r. r >>= rest) h
Fails-bind (Label at) read rest h = ap (λ r. r >>= rest) h
Fails-bind NoMemory read rest h = tt
