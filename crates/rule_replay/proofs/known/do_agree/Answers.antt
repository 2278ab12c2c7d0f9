use Rattle.std.proofs.Common.{subst, sym}
use Rattle.std.specs.Prelude.{◌↔◌, IsTrue}
use Rattle.circuit_spec.specs.Faults.{IsHere}
use Rattle.rule_replay.specs.Ends.{DoAgree}
use Rattle.rule_replay.proofs.Ending.{agree_any, agree_value}
use Rattle.rule_replay.proofs.known.do_agree.Goals as goal

pub returns-in-Any : goal.returns-in-Any
returns-in-Any c class at one other = subst (λ w. IsTrue c.has_wished.result ↔ DoAgree c.args.inventory.now class w c.args.other) (sym c.in-Any.is)
    (agree_any c.args.inventory.now class c.args.other c.has_wished.result (c.has_wished.ensures class at other))

pub returns-in-Value : goal.returns-in-Value
returns-in-Value c class at one other = subst (λ w. IsTrue c.is_wished.result ↔ DoAgree c.args.inventory.now class w c.args.other) (sym c.in-Value.is)
    (agree_value c.args.inventory.now class c.in-Value.label c.args.other c.is_wished.result (subst (λ w. IsHere c.args.inventory.now class w) c.in-Value.is one) c.is_wished.ensures)
