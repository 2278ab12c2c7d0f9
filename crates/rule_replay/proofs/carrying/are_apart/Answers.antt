use Rattle.std.proofs.Common.{subst}
use Rattle.table_replay.specs.Tabled.{Meets}
use Rattle.rule_replay.proofs.Apart.{apart_more, none_apart, not_apart}
use Rattle.rule_replay.proofs.carrying.are_apart.Goals as goal

pub loop-place-preserved : goal.loop-place-preserved
loop-place-preserved c =
    let both = apart_more c.args.places.now c.loop-place.place-index c.place-item.result c.loop-place-test.true c.loop-place.met.keys c.meet.new.met.keys c.loop-place.invariant.met c.in_ok-meet.field-0 (subst (λ p. Meets c.loop-place.met.keys c.meet.new.met.keys p c.in_ok-meet.field-0) c.place-item.is c.in_ok-meet.ensures) c.if-not-branch.false c.loop-place.invariant.apart in
    record { met = both.0; apart = both.1 }

pub returns-then-not-branch : goal.returns-then-not-branch
returns-then-not-branch c = (
  λ t. absurd (cc),
  λ unset. absurd (not_apart c.args.places.now c.loop-place.place-index c.place-item.result c.loop-place-test.true c.loop-place.met.keys c.meet.new.met.keys c.loop-place.invariant.met c.in_ok-meet.field-0 (subst (λ p. Meets c.loop-place.met.keys c.meet.new.met.keys p c.in_ok-meet.field-0) c.place-item.is c.in_ok-meet.ensures) c.if-not-branch.true unset),
)
