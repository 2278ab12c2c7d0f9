use Rattle.std.proofs.Common.{◌≡◌, ◌<◌, ◌+◌, arith, length, subst}
use Rattle.rule_replay.specs.Replaying.{AreByNumber, IsFirstMisnumbered}
use Rattle.rule_replay.proofs.Counting.{misnumbered, none_first, noted_at, one_more}
use Rattle.rule_replay.proofs.Moving.{all_by_number}
use Rattle.rule_replay.proofs.slots.number_hops.Goals as goal

pub loop-number-init : goal.loop-number-init
loop-number-init c = record { noted = c.in_ok-slots.ensures; first = none_first c.as_slice-rules.result.now c.new-hops.result c.new-hops.ensures }

pub add_hop-requires : goal.add_hop-requires
add_hop-requires c =
    let within : c.loop-number.number < length c.in_ok-slots.slots.items = omega arith in
    noted_at c.as_slice-rules.result.now c.in_ok-slots.slots.items (length c.as_slice-rules.result.now) c.loop-number.number c.index.result.now c.index.result.now c.loop-number.invariant.noted c.index.ensures within

pub loop-number-preserved : goal.loop-number-preserved
loop-number-preserved c =
    let within : c.loop-number.number < length c.in_ok-slots.slots.items = omega arith in
    record {
      noted = c.loop-number.invariant.noted;
      first = one_more c.as_slice-rules.result.now c.in_ok-slots.slots.items (length c.as_slice-rules.result.now) c.loop-number.number c.index.result.now c.index.result.now c.loop-number.hops c.add_hop.new.hops c.in_ok-add_hop.field-0
          c.loop-number.invariant.noted c.index.ensures within c.in_ok-add_hop.ensures c.if-not-branch.false c.loop-number.invariant.first;
    }

pub returns-then-not-branch : goal.returns-then-not-branch
returns-then-not-branch c =
    let within : c.loop-number.number < length c.in_ok-slots.slots.items = omega arith in
    subst (λ rs. IsFirstMisnumbered rs (c.loop-number.number + 1)) c.as_slice-rules.ensures
    (misnumbered c.as_slice-rules.result.now c.in_ok-slots.slots.items c.loop-number.number c.index.result.now c.index.result.now c.loop-number.hops c.add_hop.new.hops c.in_ok-add_hop.field-0
    c.loop-number.invariant.noted c.index.ensures within c.in_ok-add_hop.ensures c.if-not-branch.true c.loop-number.invariant.first)

pub returns : goal.returns
returns c =
    let all : c.loop-number.number ≡ length c.as_slice-rules.result.now = omega (arith, c.loop-number.invariant.noted.counted) in
    subst (λ rs. AreByNumber rs c.loop-number.hops) c.as_slice-rules.ensures (all_by_number c.as_slice-rules.result.now c.loop-number.hops c.loop-number.number all c.loop-number.invariant.first)
