use Rattle.std.proofs.Common.{ℕ, List, length, take, drop, ltb, leb, rules, ◌-◌, sym, subst}
use Rattle.std.specs.List.Sorted.{IsNonDecreasingBy}
use Rattle.std.proofs.lemmas.List.Sorted.{IsPartitionPoint-from_clause, IsPartitionedBy-ltb, IsPartitionedBy-leb}
use Rattle.open_places.proofs.Cutting.{climbs, climbs_dropped, cut_out, rest_is}
use Rattle.open_places.proofs.gathering.within.Goals as goal

pub returns : goal.returns
returns c =
    let low = IsPartitionPoint-from_clause (λ (x : ℕ). ltb x c.args.range.0) c.args.labels.now c.partition_point-first.result c.partition_point-first.ensures.partitioned (IsPartitionedBy-ltb (λ (x : ℕ). x) c.args.labels.now c.args.range.0 (climbs 0 c.args.labels.now c.requires)) (λ a r q k. search rules) in
    let kept = climbs_dropped 0 c.partition_point-first.result c.args.labels.now c.requires in
    let rise : IsNonDecreasingBy (λ (x : ℕ). x) (take (length c.args.labels.now - c.partition_point-first.result) (drop c.partition_point-first.result c.args.labels.now)) =
    subst (λ (xs : List ℕ). IsNonDecreasingBy (λ (x : ℕ). x) xs) (sym (rest_is c.args.labels.now c.partition_point-first.result)) (climbs kept.0 _ kept.1) in
    let high = IsPartitionPoint-from_clause (λ (x : ℕ). leb x c.args.range.1) (take (length c.args.labels.now - c.partition_point-first.result) (drop c.partition_point-first.result c.args.labels.now)) c.partition_point-count.result c.partition_point-count.ensures.partitioned (IsPartitionedBy-leb (λ (x : ℕ). x) _ c.args.range.1 rise) (λ a r q k. search rules) in
    cut_out c.args.labels.now (take (length c.args.labels.now - c.partition_point-first.result) (drop c.partition_point-first.result c.args.labels.now)) c.args.range c.partition_point-first.result c.partition_point-count.result c.requires (rest_is c.args.labels.now c.partition_point-first.result) c.partition_point-first.ensures.bound c.partition_point-count.ensures.bound low high
