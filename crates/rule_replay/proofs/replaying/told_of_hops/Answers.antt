use Rattle.std.proofs.Common.{◌≡◌, ◌≢◌, ◌∙◌, arith, length, subst, sym}
use Rattle.std.specs.Prelude.{◌↔◌, IsTrue, []}
use Rattle.circuit_spec.specs.Flags.{flags_after}
use Rattle.table_replay.specs.Walked.{AreUnset}
use Rattle.rule_replay.specs.Carrying.{IsCarry, IsToldOfHops}
use Rattle.rule_replay.specs.Ends.{IsAtEnd}
use Rattle.rule_replay.proofs.Telling.{has_arrived, no_hops, not_arrived, refused_told}
use Rattle.rule_replay.proofs.replaying.told_of_hops.Goals as goal

pub returns-then-rules-eq0 : goal.returns-then-rules-eq0
returns-then-rules-eq0 c = no_hops c.args.inventory.now c.args.request.now c.args.hops.now c.told_of_none.result (sym c.len-rules.ensures ∙ c.if-rules-eq0.true) c.told_of_none.ensures

pub returns-in-Refused : goal.returns-in-Refused
returns-in-Refused c =
    refused_told c.args.inventory.now c.args.request.now c.args.hops.now c.in_ok-start.start c.in_ok-start.ensures c.in-Refused.at c.in-Refused.cause (subst (IsCarry c.args.inventory.now c.in_ok-start.start c.args.hops.now) c.in-Refused.is c.in_ok-passed.ensures)

pub returns-then-not-is_at_end : goal.returns-then-not-is_at_end
returns-then-not-is_at_end c =
    let some : length c.args.hops.now ≢ 0 = λ e. c.if-rules-eq0.false (c.len-rules.ensures ∙ e) in
    not_arrived c.args.inventory.now c.args.request.now c.args.hops.now c.in_ok-start.start c.in_ok-start.ensures c.in-Through.passed.replay.unit c.in-Through.passed.places
    (subst (IsCarry c.args.inventory.now c.in_ok-start.start c.args.hops.now) c.in-Through.is c.in_ok-passed.ensures) c.len-rules.result c.is_at_end.result c.len-rules.ensures some
    (subst (λ u. IsTrue c.is_at_end.result ↔ IsAtEnd c.args.inventory.now c.args.request.now u) c.unit.ensures c.is_at_end.ensures) c.if-not-is_at_end.true

pub returns : goal.returns
returns c =
    let some : length c.args.hops.now ≢ 0 = λ e. c.if-rules-eq0.false (c.len-rules.ensures ∙ e) in
    has_arrived c.args.inventory.now c.args.request.now c.args.hops.now c.in_ok-start.start c.in_ok-start.ensures c.in-Through.passed.replay.unit c.in-Through.passed.places
    (subst (IsCarry c.args.inventory.now c.in_ok-start.start c.args.hops.now) c.in-Through.is c.in_ok-passed.ensures) c.len-rules.result c.is_at_end.result c.in_ok-any_order.any_order c.len-rules.ensures some c.requires.known
    (subst (λ u. IsTrue c.is_at_end.result ↔ IsAtEnd c.args.inventory.now c.args.request.now u) c.unit.ensures c.is_at_end.ensures) c.if-not-is_at_end.false
    (subst (λ l. IsTrue c.in_ok-any_order.any_order ↔ AreUnset (flags_after [] l)) c.as_slice.ensures c.in_ok-any_order.ensures)
