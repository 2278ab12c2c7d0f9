use Rattle.std.proofs.Common.{◌≡◌, ◌<◌, length, subst, sym, rules, Some}
use Rattle.std.specs.Prelude.{◌↔◌, IsTrue}
use Rattle.std.specs.List.{All}
use Rattle.pair_check.specs.declared.exits.Exit.{Exit}
use Rattle.pair_check.specs.Exits.{LeadsOut, exits_at}
use Rattle.pair_check.proofs.Nested.{exits_below, nest_tested}
use Rattle.pair_check.proofs.nesting.nests_by.Goals as goal

pub all_lead_out-requires : goal.all_lead_out-requires
all_lead_out-requires c =
    let step = c.step-step.result in
    let here : exits_at c.find_exits.new.found.entries step.to.0 step.frame.0 ≡ Some c.in-Some.exits.now = search rules in
    let right = c.in_ok-find_exits.ensures.found step.to step.frame c.in-Some.exits.now here in
    subst (All (λ (e : Exit). e.pop.0 < length c.args.machine.now.steps)) (sym c.deref.ensures.value)
    (exits_below c.args.machine.now.steps c.args.noted.now.pots.now step c.in-Some.exits.now.items right)

pub returns-clause-found : goal.returns-clause-found
returns-clause-found c = c.in_ok-find_exits.ensures.found

pub returns-clause-nests : goal.returns-clause-nests
returns-clause-nests c =
    let step = c.step-step.result in
    let here : exits_at c.find_exits.new.found.entries step.to.0 step.frame.0 ≡ Some c.in-Some.exits.now = search rules in
    let right = c.in_ok-find_exits.ensures.found step.to step.frame c.in-Some.exits.now here in
    nest_tested c.args.machine.now.steps c.args.noted.now.pots.now step c.in-Some.exits.now.items right c.args.pair c.args.push c.step-step.ensures.found
    c.all_lead_out.result c.weight_by-weight.result c.weight_by-weight.ensures
    (subst (λ l. IsTrue c.all_lead_out.result ↔ All (LeadsOut c.args.machine.now.steps c.args.noted.now.pots.now c.args.pair.root c.weight_by-weight.result) l)
    c.deref.ensures.value c.all_lead_out.ensures)
