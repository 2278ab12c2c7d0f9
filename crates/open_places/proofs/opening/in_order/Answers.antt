use Rattle.circuit_spec.specs.contracts.hops.PlaceNameOrd.TheImpl.Laws.{matches_eq-law}
use Rattle.open_places.proofs.Deduped.{deduped_rise, deduped_same}
use Rattle.open_places.proofs.opening.in_order.Goals as goal

pub returns-clause-rise : goal.returns-clause-rise
returns-clause-rise c = deduped_rise _ _ _ (λ x y. matches_eq-law x y) c.dedup.ensures.filtered c.in-Ok.ensures.sorted

pub returns-clause-same : goal.returns-clause-same
returns-clause-same c = deduped_same _ _ _ _ (λ x y. matches_eq-law x y) c.in-Ok.ensures.permutation c.dedup.ensures.filtered
