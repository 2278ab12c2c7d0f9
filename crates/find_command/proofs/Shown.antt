-- What is shown of an answer has a document where the answer has one.
use Rattle.std.proofs.Common.{true, false, Bool}
use Rattle.circuit_spec.specs.declared.hops.Outcome.{Outcome}
use Rattle.circuit_spec.specs.declared.hops.Outcome.TheVariants.{Found, NoWalk, Past, Long}
use Rattle.answer_spec.specs.declared.answer.Answer.{Answer}
use Rattle.answer_spec.specs.WellFormed.{IsBody, IsWellFormed}
use Rattle.find_command.specs.Finding.{shown, without_potentials}

body-without : (o : Outcome) (a : Answer) → IsBody o a → IsBody o (without_potentials a)
body-without (Found cost hops) a b = (b.0, b.1, tt)
body-without NoWalk a b = (b.0, b.1, b.2, tt)
body-without Past a b = (b.0, b.1, b.2, tt)
body-without (Long cost hops) a b = (b.0, b.1, b.2, tt)

pub shown_formed : (potentials : Bool) (a : Answer) → IsWellFormed a → IsWellFormed (shown potentials a)
shown_formed true a w = w
shown_formed false a w = record { request = w.request; outcome = w.outcome; body = body-without a.outcome a w.body }
