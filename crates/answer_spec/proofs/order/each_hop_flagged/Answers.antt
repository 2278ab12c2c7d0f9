use Rattle.std.proofs.Common.{arith}
use Rattle.answer_spec.proofs.Lengths.{same_length}
use Rattle.answer_spec.proofs.order.each_hop_flagged.Goals as goal

pub returns-then-len-clause-exact : goal.returns-then-len-clause-exact
returns-then-len-clause-exact c = (λ no. absurd cc, λ fits. absurd (omega (arith, same_length 1 c.args.hops.now c.args.flags.now fits)))
