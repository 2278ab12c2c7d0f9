use Rattle.std.proofs.Common.{◌≡◌, [], take}
use Rattle.std.specs.List.{flat_map}
use Rattle.circuit_spec.specs.Network.{elements_of}
use Rattle.layer_check.specs.Elements.{link_faults_of}
use Rattle.layer_check.proofs.links.check_links.Given as goal

abbrev pub invariant-loop-number : goal.invariant-loop-number
invariant-loop-number l = flat_map (link_faults_of l.inventory) (take l.number (elements_of l.inventory)) ≡ []
