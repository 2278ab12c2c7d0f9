use Rattle.std.proofs.Common.{refl, inl, subst}
use Rattle.k_cheapest.specs.Givens.{given_steps}
use Rattle.k_cheapest.specs.KLists.{IsListed, numbers_of}
use Rattle.k_cheapest.proofs.Numbers.{true_is}
use Rattle.k_cheapest.proofs.listing.list.Goals as goal

pub returns-then-is_listed : goal.returns-then-is_listed
returns-then-is_listed c =
    let found : IsListed c.as_slice.result.now (numbers_of c.in_ok-steps.steps) = c.is_listed.ensures.0 (true_is c.is_listed.result c.if-is_listed.true) in
    record {
      walk = record { weight = c.args.item.weight; steps = c.in_ok-steps.steps };
      are = c.in_ok-steps.ensures;
      weight = refl;
      listed = inl (subst (λ v. IsListed v (given_steps c.args.item.given)) c.as_slice.ensures (subst (λ v. IsListed c.as_slice.result.now v) c.in_ok-steps.ensures found), refl);
    }
