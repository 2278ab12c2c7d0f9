use Rattle.std.proofs.Common.{◌≡◌, sym, ◌∙◌, arith}
use Rattle.std.proofs.lemmas.Bool.Decides.{nat_tests}
use Rattle.hop_check.proofs.Arrived.{elsewhere, ends_there, wished_there, not_true, name_apart, name_same}
use Rattle.hop_check.proofs.arriving.ends_well.Goals as goal

pub returns-then-ne : goal.returns-then-ne
returns-then-ne c =
    let apart = name_apart c.args.unit.now.class c.name.result.now c.ne.result c.ne.ensures c.if-ne.true in
    (λ t. absurd (not_true t), λ e. absurd (elsewhere c.args.inventory.now c.args.request.now c.args.unit.now c.in-Some.to.0 c.name.result.now c.in-Some.ensures c.name.ensures apart e))

pub returns-then-is_wished : goal.returns-then-is_wished
returns-then-is_wished c =
    let same = name_same c.args.unit.now.class c.name.result.now c.ne.result c.ne.ensures c.if-ne.false in (
      λ t.
          let none : c.len.result ≡ 0 = grind (arith, nat_tests, t) in
          ends_there c.args.inventory.now c.args.request.now c.args.unit.now c.in-Some.to.0 c.name.result.now c.requires.somewhere c.in-Some.ensures c.name.ensures same (c.is_wished.ensures.0 c.if-is_wished.true) (sym c.len.ensures ∙ none),
      λ e.
          let none : c.len.result ≡ 0 = c.len.ensures ∙ (wished_there c.args.inventory.now c.args.request.now c.args.unit.now e).1 in
          grind (arith, nat_tests, none),
    )
