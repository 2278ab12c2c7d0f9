use Rattle.std.proofs.Common.{arith, sym}
use Rattle.machine_build.proofs.Passed.{near_end}
use Rattle.machine_build.proofs.Skipped.{alike_in, passed_all, passed_then}
use Rattle.machine_build.proofs.adding.add_next_end.Goals as goal

pub next_taken-next-requires-clause-alike : goal.next_taken-next-requires-clause-alike
next_taken-next-requires-clause-alike c = alike_in c.args.inventory.now c.args.places.now.places c.args.near.port.0 c.args.span c.args.near.state.0 c.requires.fitting c.requires.first

pub returns-then-next-span-clause-adds : goal.returns-then-next-span-clause-adds
returns-then-next-span-clause-adds c = passed_all c.args.inventory.now c.args.places.now.places c.args.number c.args.near.port c.in-Some.element.now (sym c.in-Some.ensures) c.args.near.state.0 c.next_taken-next.result
    c.next_taken-next.ensures.passed _ c.args.moves.now

pub add_near_end-requires-clause-near : goal.add_near_end-requires-clause-near
add_near_end-requires-clause-near c = near_end c.args.inventory.now c.args.places.now.places c.args.number c.args.near.port c.args.span c.next_taken-next.result c.requires.fitting c.requires.near
    (omega (arith, c.requires.first, c.next_taken-next.ensures.from)) (omega (arith, c.next_taken-next.ensures.to))

pub returns-clause-adds : goal.returns-clause-adds
returns-clause-adds c = passed_then c.args.inventory.now c.args.places.now.places c.args.number c.args.near.port c.in-Some.element.now (sym c.in-Some.ensures) c.args.near.state.0 c.next_taken-next.result
    c.next_taken-next.ensures.passed _ c.args.moves.now c.add_near_end.new.moves c.next_taken-next.ensures.from c.in_ok-add_near_end.ensures.adds
