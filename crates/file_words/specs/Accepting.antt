-- A topology is accepted, or its first fault ends the run.
use Rattle.std.specs.Prelude.{◌≡◌, ◌⊎◌, []}
use Rattle.circuit_spec.specs.declared.faults.LayerFault.{LayerFault}
use Rattle.circuit_spec.specs.declared.faults.MergeFault.{MergeFault}
use Rattle.circuit_spec.specs.Network.{Topology}
use Rattle.circuit_spec.specs.Faults.{IsAccepted, IsFirstLayerFault, IsFirstMergeFault, merge_faults}
use Rattle.replies.specs.declared.reply.Reply.{Reply}
use Rattle.replies.specs.declared.reply.Status.TheVariants as statuses
use Rattle.file_words.specs.Lines.{merge_line, layer_line}
use Rattle.replies.specs.Through.{IsText}

-- the files do not merge, and the reply tells the first fault of that
pub record IsUnmerged (T : Topology) (reply : Reply) : Type 0 where
  pub fault : MergeFault
  pub first : IsFirstMergeFault T fault
  pub is : IsText statuses.Fault (merge_line fault) reply

-- the files merge, their layers do not fit, and the reply tells the first fault of that
pub record IsUnsound (T : Topology) (reply : Reply) : Type 0 where
  pub merged : merge_faults T ≡ []
  pub fault : LayerFault
  pub first : IsFirstLayerFault T fault
  pub is : IsText statuses.Fault (layer_line T fault) reply

-- the topology is not accepted, and the reply tells its first fault
abbrev pub IsRejected : Topology → Reply → Type 0
IsRejected T reply = IsUnmerged T reply ⊎ IsUnsound T reply

-- the first fault ends the run, or the reply is to an accepted topology
abbrev pub IfAccepted : (Topology → Reply → Type 0) → Topology → Reply → Type 0
IfAccepted Next T reply = IsRejected T reply ⊎ (IsAccepted T × Next T reply)
