use Rattle.std.proofs.Common.{inl, inr, List, [], ◌∷◌, Option, None, Some, codes, refl}
use Rattle.circuit_spec.specs.Network.{Name, ports}
use Rattle.circuit_spec.specs.Rows.{request_any}
use Rattle.circuit_spec.specs.ServiceRows.{listing}
use Rattle.circuit_spec.proofs.Alone.{NoAliases}
use Rattle.circuit_spec.proofs.Stuck.{cut_off}
use Rattle.circuit_spec.proofs.rows.listed_ports_are_all.Goals as goal

none : (inbound outbound : Option (List Name)) → NoAliases (ports (listing inbound outbound))
none inbound outbound = (refl, (refl, (refl, tt)))

abbrev c_alone : Option (List Name)
c_alone = Some (codes "c" ∷ [])

pub returns-clause-inbound_out : goal.returns-clause-inbound_out
returns-clause-inbound_out c = cut_off (listing c_alone None) (request_any (codes "c") (codes "b")) (none c_alone None) (inr refl) refl

pub returns-clause-inbound_lent : goal.returns-clause-inbound_lent
returns-clause-inbound_lent c = cut_off (listing c_alone None) (request_any (codes "a") (codes "b")) (none c_alone None) (inl refl) refl

pub returns-clause-outbound_in : goal.returns-clause-outbound_in
returns-clause-outbound_in c = cut_off (listing None c_alone) (request_any (codes "a") (codes "c")) (none None c_alone) (inl refl) refl

pub returns-clause-outbound_lent : goal.returns-clause-outbound_lent
returns-clause-outbound_lent c = cut_off (listing None c_alone) (request_any (codes "a") (codes "b")) (none None c_alone) (inl refl) refl
