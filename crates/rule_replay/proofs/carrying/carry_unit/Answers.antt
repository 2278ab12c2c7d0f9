use Rattle.std.proofs.Common.{◌<◌, ◌+◌, arith, length, subst}
use Rattle.rule_replay.specs.Carrying.{IsRefusedAt, Passes}
use Rattle.rule_replay.proofs.Running.{passed_none, passed_on, refused_at}
use Rattle.rule_replay.proofs.carrying.carry_unit.Goals as goal

pub loop-number-preserved : goal.loop-number-preserved
loop-number-preserved c =
    let within : c.loop-number.number < length c.as_slice-hops.result.now = omega arith in
    let on = passed_on c.args.inventory.now c.args.start.now c.as_slice-hops.result.now c.loop-number.number c.index-hops-number.result c.loop-number.passed.replay.unit c.pass.new.passed.replay.unit c.loop-number.passed.places c.pass.new.passed.places c.in_ok-cause.field-0
    within c.loop-number.invariant.passed (subst (λ h. Passes c.args.inventory.now h c.loop-number.passed.replay.unit c.pass.new.passed.replay.unit c.loop-number.passed.places c.pass.new.passed.places c.in_ok-cause.field-0) c.index-hops-number.is c.in_ok-cause.ensures.passes) c.in-None.is in
    record {
      passed = on.0;
      frames = let less = on.1 in let before = c.loop-number.invariant.frames in omega (arith, less, before);
      room = let same = c.pass.ensures.room in let before = c.loop-number.invariant.room in omega (arith, same, before);
    }

pub returns-in-Some : goal.returns-in-Some
returns-in-Some c =
    let within : c.loop-number.number < length c.as_slice-hops.result.now = omega arith in
    subst (λ hs. IsRefusedAt c.args.inventory.now c.args.start.now hs (c.loop-number.number + 1) c.in-Some.cause) c.as_slice-hops.ensures
    (refused_at c.args.inventory.now c.args.start.now c.as_slice-hops.result.now c.loop-number.number c.index-hops-number.result c.loop-number.passed.replay.unit c.pass.new.passed.replay.unit c.loop-number.passed.places c.pass.new.passed.places c.in_ok-cause.field-0 c.in-Some.cause
    within c.loop-number.invariant.passed (subst (λ h. Passes c.args.inventory.now h c.loop-number.passed.replay.unit c.pass.new.passed.replay.unit c.loop-number.passed.places c.pass.new.passed.places c.in_ok-cause.field-0) c.index-hops-number.is c.in_ok-cause.ensures.passes) c.in-Some.is)
