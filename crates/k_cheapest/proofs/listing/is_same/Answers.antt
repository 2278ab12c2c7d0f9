use Rattle.std.proofs.Common.{◌≡◌, arith, length, refl, subst}
use Rattle.k_cheapest.proofs.Numbers.{SameBelow, lists_same}
use Rattle.k_cheapest.proofs.listing.is_same.Goals as goal

pub returns : goal.returns
returns c =
    let whole : c.loop-place.place ≡ length c.args.one.now = omega arith in (
      λ t. lists_same c.args.one.now c.args.other.now c.loop-place.invariant.long (subst (λ n. SameBelow c.args.one.now c.args.other.now n) whole c.loop-place.invariant.same),
      λ e. refl,
    )
