use Rattle.std.proofs.Common.{◌≡◌, ◌≤◌, arith, length, sym, ◌∙◌, ap, Some, slice_get}
use Rattle.std.proofs.lemmas.Option.{slice_get-get_or}
use Rattle.k_cheapest.specs.KLists.{numbers_of}
use Rattle.k_cheapest.proofs.Numbers.{numbers_same}
use Rattle.k_cheapest.proofs.Unlisted.{unlisted_more, unlisted_all, not_true}
use Rattle.k_cheapest.proofs.listing.is_listed.Goals as goal

pub loop-walk-preserved : goal.loop-walk-preserved
loop-walk-preserved c =
    let at : slice_get c.args.walks.now c.loop-walk.walk-index ≡ Some c.walk-item.result =
    slice_get-get_or c.args.walks.now c.loop-walk.walk-index c.walk-item.result c.loop-walk-test.true ∙ ap Some (sym c.walk-item.is) in
    unlisted_more c.args.walks.now (numbers_of c.args.steps.now) c.loop-walk.walk-index c.walk-item.result at
    (λ e. (let steps : c.walk-item.result.steps ≡ c.args.steps.now = numbers_same c.walk-item.result.steps c.args.steps.now e in
    not_true c.is_same.result c.if-is_same.false (c.is_same.ensures.1 (cc))))
    c.loop-walk.invariant

pub returns : goal.returns
returns c =
    let whole : length c.args.walks.now ≤ c.loop-walk.walk-index = omega arith in
    (λ t. absurd (cc), λ l. absurd (unlisted_all c.args.walks.now (numbers_of c.args.steps.now) c.loop-walk.walk-index whole c.loop-walk.invariant l))
