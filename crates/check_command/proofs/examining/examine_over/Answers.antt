use Rattle.std.proofs.Common.{inr, subst, ℕ, List}
use Rattle.circuit_spec.specs.Network.{Topology}
use Rattle.check_command.specs.Examining.{IsExamined}
use Rattle.check_command.proofs.examining.examine_over.Goals as goal

pub returns : goal.returns
returns c =
    let over-slice = subst (λ (T : Topology). IsExamined c.args.question c.as_slice.result.now T c.in_ok-reply.reply) c.in_ok-inventory.ensures.same c.in_ok-reply.ensures in
    inr (c.in_ok-inventory.ensures.accepted, subst (λ (held : List (List ℕ)). IsExamined c.args.question held c.args.sources.domains c.in_ok-reply.reply) c.as_slice.ensures over-slice)
