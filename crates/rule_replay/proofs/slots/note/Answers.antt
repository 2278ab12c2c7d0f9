use Rattle.std.proofs.Common.{◌≡◌, ◌<◌, ◌+◌, ◌-◌, arith, get_or, length, set, subst, sym, take}
use Rattle.std.proofs.lemmas.List.{length-take-le, take_more}
use Rattle.rule_replay.specs.Slots.{AreNoted}
use Rattle.rule_replay.proofs.Counting.{noted_in, noted_out}
use Rattle.rule_replay.proofs.slots.note.Goals as goal

pub returns-then-number-eq0 : goal.returns-then-number-eq0
returns-then-number-eq0 c =
    let rules = c.args.rules.now in
    let n = c.args.place in
    let r = get_or rules n c.index-rules-place.result in
    let none = c.if-number-eq0.true in
    noted_out (take n rules) (take (n + 1) rules) r c.args.slots.now.items (length rules) (take_more rules n c.index-rules-place.result c.requires.within) (λ m below e. omega (arith, none, e)) c.requires.noted

pub returns-then-number-len : goal.returns-then-number-len
returns-then-number-len c =
    let rules = c.args.rules.now in
    let n = c.args.place in
    let r = get_or rules n c.index-rules-place.result in
    let long : length rules < r.number = omega (arith, c.requires.noted.counted) in
    noted_out (take n rules) (take (n + 1) rules) r c.args.slots.now.items (length rules) (take_more rules n c.index-rules-place.result c.requires.within) (λ m below e. omega (arith, long, below, e)) c.requires.noted

pub returns : goal.returns
returns c =
    let rules = c.args.rules.now in
    let n = c.args.place in
    let r = get_or rules n c.index-rules-place.result in
    let within : r.number - 1 < length rules = omega (arith, c.requires.noted.counted) in
    let number : r.number ≡ r.number - 1 + 1 = omega arith in
    subst (λ s. AreNoted (take (n + 1) rules) (set c.args.slots.now.items (r.number - 1) s) (length rules)) (sym c.slot_with.ensures)
    (noted_in (take n rules) (take (n + 1) rules) r c.args.slots.now.items c.index.result.now c.index.result.now (length rules) (r.number - 1) n (take_more rules n c.index-rules-place.result c.requires.within)
    (sym (length-take-le n rules (omega (arith, c.requires.within)))) number within c.index.ensures c.requires.noted)
