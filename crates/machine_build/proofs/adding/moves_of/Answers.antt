use Rattle.std.proofs.Common.{arith}
use Rattle.machine_build.proofs.Passed.{done_next, moves_whole, through_apart}
use Rattle.machine_build.proofs.adding.moves_of.Goals as goal

pub loop-number-preserved : goal.loop-number-preserved
loop-number-preserved c = done_next c.args.inventory.now c.args.places.now.places _ 0 c.loop-number.number c.loop-number.frames.keys c.add_element.new.frames.keys _ c.loop-number.moves c.add_element.new.moves
    (omega arith) (through_apart c.args.inventory.now c.args.places.now.places) c.in_ok-add_element.ensures.on c.loop-number.invariant c.in_ok-add_element.ensures.adds

pub returns : goal.returns
returns c = moves_whole c.args.inventory.now c.args.places.now.places c.loop-number.number c.loop-number.frames.keys c.loop-number.moves (omega arith) c.loop-number.invariant
