use Rattle.std.proofs.Common.{◌+◌, None, arith, refl, subst, sym, take}
use Rattle.std.proofs.lemmas.Result.{err_from_is_err_and}
use Rattle.answer_spec.specs.WellFormed.{ArePots}
use Rattle.potential_check.specs.Pairs.{ArePairsOf, IsPairOf}
use Rattle.potential_check.proofs.Ordering.{above_last}
use Rattle.potential_check.proofs.Placing.{first_unplaced}
use Rattle.potential_check.proofs.Zipped.{zip_more}
use Rattle.potential_check.proofs.pairs.pairs_of.Goals as goal

pub returns-in_default-clause-err : goal.returns-in_default-clause-err
returns-in_default-clause-err c = (
  refl,
  first_unplaced c.args.built.now c.as_slice-list.result.now c.args.lines.now c.loop-place.pots c.as_slice-list.ensures c.loop-place.place
      c.index-list-place.result (omega arith) c.index-list-place.is c.in_default.ensures c.loop-place.invariant,
)

pub push-requires : goal.push-requires
push-requires c =
    above_last c.args.built.now c.requires.rising c.as_slice-list.result.now c.loop-place.place c.index-list-place.result c.loop-place.pots c.in-Some.pair (omega arith)
    (subst (ArePots None) (sym c.as_slice-list.ensures) c.requires.in_order) c.loop-place.invariant
    (subst (λ l. IsPairOf c.args.built.now l c.in-Some.pair) c.index-list-place.is c.in-Some.ensures)

pub returns-in_err-push-clause-err : goal.returns-in_err-push-clause-err
returns-in_err-push-clause-err c =
    let p = err_from_is_err_and c.from_residual.result c.from_residual.ensures.1 in
    rw (p.1, p.2) tt

pub loop-place-preserved : goal.loop-place-preserved
loop-place-preserved c =
    subst (ArePairsOf c.args.built.now (take (c.loop-place.place + 1) c.as_slice-list.result.now)) (sym c.in_ok-push.ensures.ok)
    (zip_more (IsPairOf c.args.built.now) c.as_slice-list.result.now c.loop-place.place c.index-list-place.result c.loop-place.pots c.in-Some.pair
    (omega arith) c.loop-place.invariant
    (subst (λ l. IsPairOf c.args.built.now l c.in-Some.pair) c.index-list-place.is c.in-Some.ensures))
