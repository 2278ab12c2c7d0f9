use Rattle.std.proofs.Common.{◌≡◌, ◌∙◌}
use Rattle.std.proofs.lemmas.Result.{IfOk-weaker}
use Rattle.circuit_spec.specs.Network.{IsClass, Port}
use Rattle.hop_check.proofs.Named.{class_named}
use Rattle.hop_check.proofs.carrying.class_name.Goals as goal

pub returns : goal.returns
returns c =
    IfOk-weaker c.share.result _ (λ name. (class : Port) → IsClass c.args.inventory.now c.args.id.now class → name ≡ class.id)
    (λ name is class first. is ∙ class_named c.args.inventory.now c.args.id.now c.in-Some.class.0 c.name.result.now c.in-Some.ensures c.name.ensures class first)
    c.share.ensures
