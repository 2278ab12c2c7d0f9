use Rattle.std.proofs.Common.{refl}
use Rattle.std.specs.Rc.{rc_str_bytes}
use Rattle.nml_inventory.proofs.Once.{key_more}
use Rattle.nml_inventory.proofs.references.add_once.Goals as goal

pub returns : goal.returns
returns c = key_more rc_str_bytes _ (λ x y. refl) c.args.ids.now.keys c.insert_full.new.self.keys c.in_ok-key.key c.args.id.now c.in_ok-key.ensures c.in-Ok.ensures.keys
