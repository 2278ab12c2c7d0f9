use Rattle.std.proofs.Common.{◌≡◌, ◌↔◌, true, sym, ◌∙◌, subst}
use Rattle.std.proofs.lemmas.List.{nil_from_length}
use Rattle.circuit_spec.specs.Steps.{Walk}
use Rattle.hop_check.proofs.Arrived.{hops_walk, some_first}
use Rattle.hop_check.proofs.Walking.{led_somewhere}
use Rattle.hop_check.proofs.arriving.is_walk.Goals as goal

pub returns-then-len-eq0 : goal.returns-then-len-eq0
returns-then-len-eq0 c =
    let none = nil_from_length c.args.answer.now.hops (sym c.len.ensures ∙ c.if-len-eq0.true) in
    subst (λ hops. (c.stays.result ≡ true) ↔ Walk c.args.inventory.now c.args.answer.now.request hops) (sym none) c.stays.ensures

pub ends_well-requires-clause-somewhere : goal.ends_well-requires-clause-somewhere
ends_well-requires-clause-somewhere c =
    let some = some_first c.args.answer.now.hops c.len.result c.len.ensures c.if-len-eq0.false in
    led_somewhere c.args.inventory.now c.args.answer.now c.args.unit.now some.0 some.1 c.requires.known c.requires.led some.2

pub returns : goal.returns
returns c =
    let some = some_first c.args.answer.now.hops c.len.result c.len.ensures c.if-len-eq0.false in
    let walk = hops_walk c.args.inventory.now c.args.answer.now c.args.unit.now some.0 some.1 c.requires.known c.requires.led some.2 in
    (λ t. walk.0 (c.ends_well.ensures.0 t), λ w. c.ends_well.ensures.1 (walk.1 w))
