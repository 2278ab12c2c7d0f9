use Rattle.std.proofs.Common.{◌∙◌, ◌+◌, refl, sym, ap, take}
use Rattle.std.specs.Prelude.{option_map, slice_get, sum_by}
use Rattle.circuit_spec.specs.Network.{Placed, elements_of}
use Rattle.nml_inventory.specs.Relations.{open_at}
use Rattle.nml_inventory.proofs.Lending.{placed_of}
use Rattle.nml_inventory.proofs.Once.{sum_more}
use Rattle.nml_inventory.proofs.references.open_references.Goals as goal

pub loop-number-preserved : goal.loop-number-preserved
loop-number-preserved c =
    let T = c.args.numbered.now in
    let n = c.loop-number.number in
    let count = c.in_ok-count.count in
    let x = placed_of T n c.at.result.now (slice_get (elements_of T) n) refl (ap (λ k. option_map (λ (y : Placed). y.element) (slice_get (elements_of T) k)) (sym c.from.ensures) ∙ c.at.ensures) in
    c.in_ok-total.ensures ∙ ap (λ m. m + count) c.loop-number.invariant
    ∙ ap (λ m. sum_by (λ (p : Placed). open_at T p.element) (take n (elements_of T)) + m) (c.in_ok-count.ensures ∙ ap (open_at T) (sym x.2))
    ∙ sym (sum_more (λ (p : Placed). open_at T p.element) (elements_of T) n x.0 x.1)
