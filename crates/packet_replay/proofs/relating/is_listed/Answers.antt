use Rattle.std.proofs.Common.{ltb, rules, sym}
use Rattle.std.proofs.lemmas.List.Sorted.{IsPartitionPoint-from_clause, IsPartitionedBy-ltb}
use Rattle.ml_base.specs.declared.numbers.PortNo.{PortNo}
use Rattle.packet_replay.proofs.Listed.{found_nowhere, found_there, in_order}
use Rattle.packet_replay.proofs.relating.is_listed.Goals as goal

pub returns-in-Some : goal.returns-in-Some
returns-in-Some c rise =
    let parted = IsPartitionedBy-ltb (λ (p : PortNo). p.0) c.args.found.now c.args.port.0 (in_order 0 c.args.found.now rise) in
    let point = IsPartitionPoint-from_clause (λ (p : PortNo). ltb p.0 c.args.port.0) _ _ c.partition_point-place.ensures.partitioned parted (λ a r q k. search rules) in
    found_there c.args.found.now c.args.port.0 _ _ rise point c.in-Some.ensures.lookup.3.0 c.in-Some.ensures.lookup.1

pub returns-in-None : goal.returns-in-None
returns-in-None c rise =
    let parted = IsPartitionedBy-ltb (λ (p : PortNo). p.0) c.args.found.now c.args.port.0 (in_order 0 c.args.found.now rise) in
    let point = IsPartitionPoint-from_clause (λ (p : PortNo). ltb p.0 c.args.port.0) _ _ c.partition_point-place.ensures.partitioned parted (λ a r q k. search rules) in
    sym (found_nowhere c.args.found.now c.args.port.0 _ rise point c.in-None.ensures.lookup.3)
