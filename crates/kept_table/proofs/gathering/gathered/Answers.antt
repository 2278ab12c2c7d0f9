use Rattle.std.proofs.Common.{length}
use Rattle.circuit_spec.specs.Network.{elements_of, ports}
use Rattle.label_atoms.proofs.Names.{ok_then}
use Rattle.kept_table.proofs.Growing.{from_step, to_step}
use Rattle.kept_table.proofs.gathering.gathered.Goals as goal

pub returns : goal.returns
returns c =
    let T = c.args.inventory.now in
    let r = c.args.request.now in
    let from = from_step T r (length (ports T)) (length (elements_of T)) c.in_ok-sets.sets c.in_ok-more.more (c.in_ok-sets.ensures r) c.in_ok-more.ensures in
    ok_then _ _ _ (λ new a. to_step T r (length (ports T)) (length (elements_of T)) c.in_ok-more.more new from a) c.with_stated-2.ensures
