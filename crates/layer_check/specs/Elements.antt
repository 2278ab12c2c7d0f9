-- The faults of the element of a number.
use Rattle.std.specs.Prelude.{◌≡◌, ◌<◌, ℕ, List, [], Option, None, Some, slice_get}
use Rattle.circuit_spec.specs.declared.faults.LayerFault.{LayerFault}
use Rattle.circuit_spec.specs.Kept.{link_at}
use Rattle.circuit_spec.specs.Network.{Topology, Placed, elements_of}
use Rattle.circuit_spec.specs.Faults.{link_faults, switch_at, switch_faults}

abbrev pub of_option : {A : Type 0} → (A → List LayerFault) → Option A → List LayerFault
of_option f None = []
of_option f (Some x) = f x

-- those of a link, where the element is one
abbrev pub link_faults_of : Topology → Placed → List LayerFault
link_faults_of T p = of_option (link_faults T) (link_at p.element)

-- those of a switching service, where the element is one
abbrev pub switch_faults_of : Topology → Placed → List LayerFault
switch_faults_of T p = of_option (switch_faults T) (switch_at p.element)

abbrev pub link_faults_at : Topology → ℕ → List LayerFault
link_faults_at T number = of_option (link_faults_of T) (slice_get (elements_of T) number)

abbrev pub switch_faults_at : Topology → ℕ → List LayerFault
switch_faults_at T number = of_option (switch_faults_of T) (slice_get (elements_of T) number)

-- the service of the number fits where an earlier one does
abbrev pub IsRepeat : Topology → ℕ → Type 0
IsRepeat T number = (other : ℕ) × (other < number) × (switch_faults_at T other ≡ [] → switch_faults_at T number ≡ [])
