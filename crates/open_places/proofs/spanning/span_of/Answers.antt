use Rattle.std.proofs.Common.{rules}
use Rattle.std.specs.Ordering.{is_lt, is_le}
use Rattle.std.proofs.lemmas.List.Sorted.{IsPartitionPoint-from_clause}
use Rattle.circuit_spec.specs.declared.hops.PlaceName.{PlaceName}
use Rattle.open_places.proofs.Spanned.{by_class, below_parted, upto_parted, span_found}
use Rattle.open_places.proofs.spanning.span_of.Goals as goal

pub returns : goal.returns
returns c =
    let low = IsPartitionPoint-from_clause (λ (y : PlaceName). is_lt (by_class c.args.class.now y)) _ _ c.partition_point-first.ensures.partitioned (below_parted c.args.class.now c.args.places.now c.requires) (λ a r q k. search rules) in
    let high = IsPartitionPoint-from_clause (λ (y : PlaceName). is_le (by_class c.args.class.now y)) _ _ c.partition_point-end.ensures.partitioned (upto_parted c.args.class.now c.args.places.now c.requires) (λ a r q k. search rules) in
    span_found c.args.places.now c.args.class.now c.partition_point-first.result c.partition_point-end.result c.requires c.partition_point-first.ensures.bound c.partition_point-end.ensures.bound low high
