use Rattle.std.proofs.Common.{◌≡◌, ◌++◌, ◌∷◌, [], ◌+◌, take, length, get_or, sym, subst, List, arith}
use Rattle.std.proofs.lemmas.List.{length-take-le, take_more}
use Rattle.std.proofs.lemmas.Result.{IfOk-weaker}
use Rattle.table_replay.specs.Tabled.{AddsRule, AreSlots, IsLeavingPlace}
use Rattle.table_replay.proofs.Slots.{slots_more, slots_same}
use Rattle.table_replay.proofs.table.add_rule.Goals as goal

pub returns-in-Some-clause-slots : goal.returns-in-Some-clause-slots
returns-in-Some-clause-slots c =
    let T = c.args.inventory.now in
    let rules = c.args.rules.now in
    let n = c.args.number in
    let r = get_or rules n c.index-rules-number.result in
    let leaves = subst (IsLeavingPlace T r.hop) c.in-Some.is c.in_ok-place.ensures in
    IfOk-weaker c.add.result (λ _. AddsRule c.args.table.now c.add.new.self c.in-Some.place n) (λ _. AreSlots T (take (n + 1) rules) c.add.new.self)
    (λ _ adds. slots_more T (take n rules) (take (n + 1) rules) r c.args.table.now c.add.new.self c.in-Some.place n (take_more rules n c.index-rules-number.result c.requires.below)
    (sym (length-take-le n rules (omega (arith, c.requires.below)))) leaves c.requires.slots adds) c.add.ensures.adds

pub returns-in-None-clause-slots : goal.returns-in-None-clause-slots
returns-in-None-clause-slots c =
    let T = c.args.inventory.now in
    let rules = c.args.rules.now in
    let n = c.args.number in
    let r = get_or rules n c.index-rules-number.result in
    slots_same T (take n rules) (take (n + 1) rules) r c.args.table.now (take_more rules n c.index-rules-number.result c.requires.below)
    (subst (IsLeavingPlace T r.hop) c.in-None.is c.in_ok-place.ensures) c.requires.slots
