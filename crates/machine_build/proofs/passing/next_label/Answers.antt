use Rattle.std.proofs.Common.{ℕ, ltb, rules}
use Rattle.std.proofs.lemmas.List.Sorted.{IsPartitionPoint-from_clause, IsPartitionedBy-ltb}
use Rattle.label_sets.proofs.Has.{ends_rise}
use Rattle.machine_build.proofs.Skipped.{none_between, none_from}
use Rattle.machine_build.proofs.passing.next_label.Goals as goal

pub returns-in-Some : goal.returns-in-Some
returns-in-Some c =
    let rise = c.ranges-ranges.ensures.rise in
    let parted = IsPartitionedBy-ltb (λ (r : ℕ × ℕ). r.1) _ c.args.label (ends_rise 0 _ rise) in
    let point = IsPartitionPoint-from_clause (λ (r : ℕ × ℕ). ltb r.1 c.args.label) _ _ c.partition_point-place.ensures.partitioned parted (λ a r q k. search rules) in
    rw (← c.ranges-ranges.ensures.ranges) (none_between _ c.args.label _ _ rise point c.in-Some.ensures.lookup.3.0 c.in-Some.ensures.lookup.1)

pub returns-in-None : goal.returns-in-None
returns-in-None c =
    let rise = c.ranges-ranges.ensures.rise in
    let parted = IsPartitionedBy-ltb (λ (r : ℕ × ℕ). r.1) _ c.args.label (ends_rise 0 _ rise) in
    let point = IsPartitionPoint-from_clause (λ (r : ℕ × ℕ). ltb r.1 c.args.label) _ _ c.partition_point-place.ensures.partitioned parted (λ a r q k. search rules) in
    rw (← c.ranges-ranges.ensures.ranges) (none_from _ c.args.label _ rise point c.in-None.ensures.lookup.3)
