use Rattle.std.proofs.Common.{sym, subst}
use Rattle.std.specs.List.{AllByRecursion}
use Rattle.circuit_spec.specs.Faults.{IsAccepted}
use Rattle.topo_gen.proofs.Accepted.{accepted}
use Rattle.topo_gen.proofs.Ports.{known}
use Rattle.topo_gen.proofs.Sizes.{IsNumbered, few, numbered}
use Rattle.topo_gen.proofs.generator.generate.Goals as goal

pub returns-clause-accepted : goal.returns-clause-accepted
returns-clause-accepted c = subst IsAccepted (sym c.in_ok-domains_of.ensures) (accepted c.args.levels c.requires.few)

pub returns-clause-known : goal.returns-clause-known
returns-clause-known c = rw (c.in_ok-domains_of.ensures, c.in_ok-request_of.ensures) (known c.args.levels)

pub returns-clause-few : goal.returns-clause-few
returns-clause-few c = rw c.in_ok-domains_of.ensures (few c.args.levels c.requires.few)

pub returns-clause-numbered : goal.returns-clause-numbered
returns-clause-numbered c = subst (AllByRecursion IsNumbered) (sym c.in_ok-domains_of.ensures) (numbered c.args.levels)
