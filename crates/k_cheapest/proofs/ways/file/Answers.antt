use Rattle.std.proofs.Common.{rules, ◌≡◌, ◌≢◌}
use Rattle.adapt_machine.specs.declared.MachineKind.TheVariants.{Push}
use Rattle.k_cheapest.proofs.Filing.{pushed_ways, entered_ways}
use Rattle.k_cheapest.proofs.ways.file.Goals as goal

pub returns-then-eq : goal.returns-then-eq
returns-then-eq c =
    let kind : c.step-step.result.kind ≡ Push = search rules in
    let below = c.step-step.ensures.within.frame (search rules) in
    record { filed = pushed_ways c.args.machine.now c.args.number c.args.ways.now c.requires.filed c.step-step.result c.step-step.ensures.found kind below c.add.new.self c.in_ok-add.ensures.added }

pub returns : goal.returns
returns c =
    let kind : c.step-step.result.kind ≢ Push = search rules in
    record { filed = entered_ways c.args.machine.now c.args.number c.args.ways.now c.requires.filed c.step-step.result c.step-step.ensures.found kind c.step-step.ensures.within.to c.add-2.new.self c.in_ok-add-2.ensures.added }
