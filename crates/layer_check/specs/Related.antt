-- The ports of a link or a switching service, and what is wrong with them.
use Rattle.std.specs.Prelude.{◌≡◌, ◌<◌, List, Bool, ◌||◌, All, Some, map, filter, length, option_map}
use Rattle.std.specs.Option.{option_copied}
use Rattle.ml_base.specs.declared.numbers.PortNo.{PortNo}
use Rattle.circuit_spec.specs.declared.faults.LayerFault.{LayerFault}
use Rattle.circuit_spec.specs.Network.{Topology, Port, ports}
use Rattle.circuit_spec.specs.Faults.{layer_faults}
use Rattle.nml_inventory.specs.Relations.{numbers_where}
use Rattle.layer_check.specs.declared.comparing.Reference.{Reference}
use Rattle.layer_check.specs.declared.related.Related.{Related}
use Rattle.layer_check.specs.Comparing.{differs_from, passes_at}
use Rattle.layer_check.specs.Found.{made_by}

-- the numbers are those of the ports that pass the test
abbrev pub ArePortsThat : Topology → (Port → Bool) → List PortNo → Type 0
ArePortsThat T test numbers = map (λ (p : PortNo). p.0) numbers ≡ numbers_where test (ports T)

abbrev pub AreWithin : Topology → List PortNo → Type 0
AreWithin T numbers = All (λ (n : PortNo). n.0 < length (ports T)) numbers

-- the ports of the two lists are those that pass the test
pub record AreTogether (T : Topology) (test : Port → Bool) (one other : List PortNo) : Type 0 where
  pub of_one : Port → Bool
  pub of_other : Port → Bool
  pub ones : ArePortsThat T of_one one
  pub others : ArePortsThat T of_other other
  pub either : (q : Port) → test q ≡ (of_one q || of_other q)

-- they are the ports that pass some test
abbrev pub AreListed : Topology → List PortNo → List PortNo → Type 0
AreListed T one other = (test : Port → Bool) × AreTogether T test one other

-- the port of the number differs from the reference
abbrev pub is_other_at : Topology → Reference → PortNo → Bool
is_other_at T reference n = passes_at T (differs_from reference) n.0

-- what is wrong with the ports of an element, which are those that pass the test
abbrev pub related_faults : Topology → Related → (Port → Bool) → List LayerFault
related_faults T r test =
    layer_faults (made_by r.layer) (made_by r.label_type) r.id.now (option_copied r.encoding) (option_map Some (option_copied r.own_type)) (filter test (ports T))
