use Rattle.std.proofs.Common.{◌<◌, length, get_or, refl, ◌∙◌, ap, subst, arith}
use Rattle.std.proofs.lemmas.List.{take_all}
use Rattle.hop_check.specs.Carrying.{Leads, TakesOrNot}
use Rattle.hop_check.proofs.Walking.{carried, leads_on, stuck_there}
use Rattle.hop_check.proofs.carrying.carry.Goals as goal

pub returns-then-not-branch-clause-decides : goal.returns-then-not-branch-clause-decides
returns-then-not-branch-clause-decides c =
    let hops = c.as_slice-hop-items.ensures in
    let at = c.hop-item.is ∙ ap (λ hs. get_or hs c.loop-hop.hop-index c.hop-item.result) hops in
    let lt : c.loop-hop.hop-index < length c.args.answer.now.hops = omega (arith, c.loop-hop-test.true, ap length hops) in
    let stuck = subst (TakesOrNot c.args.inventory.now c.loop-hop.replay.unit c.hop-item.result c.takes.new.replay.unit) c.if-not-branch.true c.in_ok-takes.ensures.unit in
    (refl, stuck_there c.args.inventory.now c.args.answer.now c.loop-hop.hop-index c.hop-item.result c.loop-hop.replay.unit c.loop-hop.line c.requires.known at lt c.loop-hop.invariant.led stuck c.loop-hop.invariant.line)

pub loop-hop-preserved : goal.loop-hop-preserved
loop-hop-preserved c =
    let hops = c.as_slice-hop-items.ensures in
    let at = c.hop-item.is ∙ ap (λ hs. get_or hs c.loop-hop.hop-index c.hop-item.result) hops in
    let lt : c.loop-hop.hop-index < length c.args.answer.now.hops = omega (arith, c.loop-hop-test.true, ap length hops) in
    let step = subst (TakesOrNot c.args.inventory.now c.loop-hop.replay.unit c.hop-item.result c.takes.new.replay.unit) c.if-not-branch.false c.in_ok-takes.ensures.unit in
    record {
      led = leads_on c.args.inventory.now c.args.answer.now c.loop-hop.hop-index c.hop-item.result c.loop-hop.replay.unit c.takes.new.replay.unit at lt c.loop-hop.invariant.led step;
      low = omega (arith, c.loop-hop.invariant.low, c.in_ok-takes.ensures.height);
      room = c.in_ok-takes.ensures.room ∙ c.loop-hop.invariant.room;
      line = omega (arith, c.loop-hop.invariant.line);
    }

pub returns-clause-decides : goal.returns-clause-decides
returns-clause-decides c =
    let all = take_all c.loop-hop.hop-index c.args.answer.now.hops (omega (arith, c.loop-hop-test.false, ap length c.as_slice-hop-items.ensures)) in
    carried c.args.inventory.now c.args.answer.now c.loop-hop.replay.unit c.requires.known (subst (λ hops. Leads c.args.inventory.now c.args.answer.now hops c.loop-hop.replay.unit) all c.loop-hop.invariant.led)
