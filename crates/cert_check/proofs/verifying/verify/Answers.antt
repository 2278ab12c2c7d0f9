use Rattle.std.proofs.Common.{refl, lit≤}
use Rattle.circuit_spec.specs.Network.{Topology}
use Rattle.kept_table.specs.Table.{keeping_of}
use Rattle.verdict.specs.declared.rules.Rule.TheVariants as rule
use Rattle.cert_check.proofs.verifying.verify.Goals as goal

pub machine_of-requires-clause-known : goal.machine_of-requires-clause-known
machine_of-requires-clause-known c = c.in_ok-check_hops.ensures rule.Ends (lit≤ tt) (lit≤ tt)

pub returns-in-Ok-clause-certified : goal.returns-in-Ok-clause-certified
returns-in-Ok-clause-certified c =
    let T = c.args.inventory.now in
    (refl, c.parts_make_the_whole.ensures.certificates T c.args.answer.now c.in_ok-check_hops.ensures (c.in-Ok.ensures.ok T c.in_ok-built.ensures))

pub returns-in-Ok-clause-bounds : goal.returns-in-Ok-clause-bounds
returns-in-Ok-clause-bounds c =
    let T = c.args.inventory.now in
    let certificate = c.parts_make_the_whole.ensures.certificates T c.args.answer.now c.in_ok-check_hops.ensures (c.in-Ok.ensures.ok T c.in_ok-built.ensures) in
    let machine = c.in_ok-built.ensures in
    c.certificates_bound_walks.ensures T c.args.answer.now (keeping_of machine.table) c.requires.sound machine.kept.keepers c.requires.formed certificate

pub fault_at-requires : goal.fault_at-requires
fault_at-requires c = (c.args.inventory.now, c.in-Err.ensures.err c.args.inventory.now c.in_ok-built.ensures)

pub returns-clause-fault : goal.returns-clause-fault
returns-clause-fault c =
    let T = c.args.inventory.now in
    c.fault_at.ensures T c.in_ok-check_hops.ensures (c.in-Err.ensures.err T c.in_ok-built.ensures)
