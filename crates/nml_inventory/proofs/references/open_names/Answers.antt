use Rattle.std.proofs.Common.{◌∙◌, List, sym, map, arith}
use Rattle.std.specs.Rc.{rc_str_bytes}
use Rattle.circuit_spec.specs.Network.{Name}
use Rattle.nml_inventory.proofs.Once.{named_more, open_more}
use Rattle.nml_inventory.proofs.references.open_names.Goals as goal
use Rattle.nml_inventory.proofs.references.open_names.Goals.{then-is_open+in_ok-add_once, else-is_open}

pub loop-target-preserved : goal.loop-target-preserved
loop-target-preserved c =
    let T = c.args.numbered.now in
    let targets = c.args.targets.now in
    let i = c.loop-target.target-index in
    let x = c.target-item.result in
    let old : List Name = map rc_str_bytes c.loop-target.ids.keys in
    elim c.if-is_open.branch [
      | then-is_open+in_ok-add_once w ↦
          rw w.ids-is
          (open_more T targets i x old (map rc_str_bytes w.add_once.new.ids.keys) (omega arith) c.target-item.is (sym c.is_open.ensures ∙ w.if-is_open.true) c.loop-target.invariant w.in_ok-add_once.ensures)
      | else-is_open w ↦
          rw w.ids-is
          (named_more T targets i x old (omega arith) c.target-item.is (sym c.is_open.ensures ∙ w.if-is_open.false) c.loop-target.invariant)
    ]
