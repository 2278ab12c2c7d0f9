-- How the members that name other elements are written.
use Rattle.std.specs.Prelude.{List, ℕ, codes}
use Rattle.circuit_spec.specs.declared.faults.Member.{Member}
use Rattle.circuit_spec.specs.declared.faults.Member.TheVariants as member

-- the name of the member, as the files and the printed faults have it
unfoldable pub name_of : Member → List ℕ
name_of member.HasInboundPort = codes "hasInboundPort"
name_of member.HasOutboundPort = codes "hasOutboundPort"
name_of member.HasService = codes "hasService"
name_of member.IsSource = codes "isSource"
name_of member.IsSink = codes "isSink"
name_of member.IsAlias = codes "isAlias"
name_of member.ProvidesPort = codes "providesPort"
