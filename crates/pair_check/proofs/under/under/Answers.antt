use Rattle.std.proofs.Common.{◌≡◌, ◌+◌, refl, subst, arith, Contains}
use Rattle.std.specs.Prelude.{◌↔◌, slice_range}
use Rattle.ml_base.specs.declared.numbers.Root.TheVariants.{Entry}
use Rattle.pair_check.proofs.Ranges.{range_of, starts_before}
use Rattle.pair_check.proofs.under.under.Goals as goal

pub slice_bounds-result-count : goal.slice_bounds-result-count
slice_bounds-result-count c =
    starts_before c.as_slice-pairs.result.now c.args.entered (record { 0 = c.args.entered.0 + 1 }) refl c.first_of-start.result c.first_of-end.result
    c.first_of-start.ensures c.first_of-end.ensures

pub slice_bounds-result-start : goal.slice_bounds-result-start
slice_bounds-result-start c =
    omega (
      arith,
      starts_before c.as_slice-pairs.result.now c.args.entered (record { 0 = c.args.entered.0 + 1 }) refl c.first_of-start.result
          c.first_of-end.result c.first_of-start.ensures c.first_of-end.ensures,
    )

pub returns : goal.returns
returns c = λ p.
    subst (λ ps. Contains (slice_range c.as_slice-pairs.result.now c.first_of-start.result c.first_of-end.result)
    p ↔ (Contains ps p × (p.root ≡ Entry c.args.entered))) c.as_slice-pairs.ensures.value
    (range_of c.as_slice-pairs.result.now c.args.entered (record { 0 = c.args.entered.0 + 1 }) refl c.first_of-start.result c.first_of-end.result
    c.first_of-start.ensures c.first_of-end.ensures p)
