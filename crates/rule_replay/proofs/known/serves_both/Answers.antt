use Rattle.std.proofs.Common.{sym, subst}
use Rattle.std.specs.Prelude.{◌↔◌, [], IsTrue}
use Rattle.circuit_spec.specs.Steps.{Walk}
use Rattle.rule_replay.specs.Ends.{IsNamedClass}
use Rattle.rule_replay.proofs.Ending.{class_named, serves, serves_not}
use Rattle.rule_replay.proofs.known.serves_both.Goals as goal

pub returns-then-is_in_class : goal.returns-then-is_in_class
returns-then-is_in_class c =
    let T = c.args.inventory.now in
    let is = c.in-Some.ensures in
    serves T c.args.request.now is.class is.is_class c.in-Some.class.0 c.do_agree.result is.at c.requires.known
    (subst (λ n. IsNamedClass T c.args.request.now.to n) (class_named T c.args.request.now.from c.in-Some.class.0 is c.name.result.now c.name.ensures) (c.is_in_class.ensures.0 c.if-is_in_class.true)) c.do_agree.ensures

pub returns-else-is_in_class : goal.returns-else-is_in_class
returns-else-is_in_class c =
    let T = c.args.inventory.now in
    let is = c.in-Some.ensures in
    subst (λ b. IsTrue b ↔ Walk T c.args.request.now []) (sym c.if-is_in_class.false) (serves_not T c.args.request.now is.class is.is_class
    (λ named. let t = c.is_in_class.ensures.1 (subst (λ n. IsNamedClass T c.args.request.now.to n) (sym (class_named T c.args.request.now.from c.in-Some.class.0 is c.name.result.now c.name.ensures)) named) in cc (t, c.if-is_in_class.false)))
