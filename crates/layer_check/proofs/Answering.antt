-- Results under changed claims.
use Rattle.std.specs.Prelude.{OnOk, IfErr, Result, Ok, Err}
use Rattle.circuit_spec.specs.declared.faults.LayerFault.{LayerFault}
use Rattle.circuit_spec.specs.declared.faults.LayerFault.TheVariants.{AliasEncoding, AliasLabelType, LinkLayer, LinkLabelType, SwitchLayer, SwitchLabelType, NoMemory}
use Rattle.layer_check.specs.Found.{UnlessNoMemory}

pub ok_then : {A E : Type 0} (r : Result A E) (P Q : Type 0) → (P → Q) → OnOk r P → OnOk r Q
ok_then (Ok x) P Q to p = to p
ok_then (Err e) P Q to p = p

pub err_then : {A E : Type 0} (r : Result A E) (P Q : E → Type 0) → ((e : E) → P e → Q e) → IfErr r P → IfErr r Q
err_then (Ok x) P Q to p = p
err_then (Err e) P Q to p = to e p

-- what holds of a fault that is named holds of what is answered
pub unless_map : (P Q : LayerFault → Type 0) (f : LayerFault) → ((g : LayerFault) → P g → Q g) → UnlessNoMemory P f → UnlessNoMemory Q f
unless_map P Q (AliasEncoding a b) h x = h (AliasEncoding a b) x
unless_map P Q (AliasLabelType a b) h x = h (AliasLabelType a b) x
unless_map P Q (LinkLayer a b) h x = h (LinkLayer a b) x
unless_map P Q (LinkLabelType a b) h x = h (LinkLabelType a b) x
unless_map P Q (SwitchLayer a b) h x = h (SwitchLayer a b) x
unless_map P Q (SwitchLabelType a b) h x = h (SwitchLabelType a b) x
unless_map P Q NoMemory h x = tt

pub unless : (P : LayerFault → Type 0) (f : LayerFault) → P f → UnlessNoMemory P f
unless P (AliasEncoding a b) x = x
unless P (AliasLabelType a b) x = x
unless P (LinkLayer a b) x = x
unless P (LinkLabelType a b) x = x
unless P (SwitchLayer a b) x = x
unless P (SwitchLabelType a b) x = x
unless P NoMemory x = tt
