use Rattle.std.proofs.Common.{arith, ℕ, List, refl, sym, subst, inr, Contains}
use Rattle.std.proofs.Math.ListN.{get_or}
use Rattle.std.proofs.lemmas.Option.{slice_get-get_or}
use Rattle.std.proofs.lemmas.List.Elements.{Contains-get_or}
use Rattle.ml_base.specs.declared.numbers.StepNo.{StepNo}
use Rattle.segment_grammar.specs.Index.{step_no}
use Rattle.k_cheapest.specs.Choices.{ChoosesNest, ChoosesStep}
use Rattle.k_cheapest.specs.Items.{waiting_of}
use Rattle.k_cheapest.specs.Settings.{steps_in, starts_in}
use Rattle.k_cheapest.proofs.Adding.{adds_begun, adds_more, adds_listed}
use Rattle.k_cheapest.proofs.Offering.{ends_nest, push_listed}
use Rattle.k_cheapest.proofs.expand.offer_nests.Goals as goal

pub loop-number-init : goal.loop-number-init
loop-number-init c = adds_begun (steps_in c.args.setting) (starts_in c.args.setting) (λ k ks. ChoosesNest (steps_in c.args.setting) (starts_in c.args.setting) c.args.choice k.0 c.args.pop.0 ks)
    c.pushes-pushes.result.now (waiting_of c.args.queue.now)

pub offer_nest-requires-clause-push : goal.offer_nest-requires-clause-push
offer_nest-requires-clause-push c =
    let k : StepNo = get_or c.pushes-pushes.result.now c.loop-number.number (step_no 0) in
    c.requires.setting.ways.pushes_within c.args.popped.frame.0 k
    (subst (λ v. Contains v k) c.pushes-pushes.ensures (Contains-get_or c.pushes-pushes.result.now c.loop-number.number (step_no 0) c.loop-number-test.true))

pub loop-number-preserved : goal.loop-number-preserved
loop-number-preserved c = adds_more (steps_in c.args.setting) (starts_in c.args.setting) (λ k ks. ChoosesNest (steps_in c.args.setting) (starts_in c.args.setting) c.args.choice k.0 c.args.pop.0 ks)
    c.pushes-pushes.result.now c.loop-number.number (get_or c.pushes-pushes.result.now c.loop-number.number (step_no 0))
    (slice_get-get_or c.pushes-pushes.result.now c.loop-number.number (step_no 0) c.loop-number-test.true) (waiting_of c.args.queue.now) (waiting_of c.loop-number.queue) (waiting_of c.offer_nest.new.queue)
    c.loop-number.invariant c.in_ok-offer_nest.ensures

pub returns : goal.returns
returns c = adds_listed (steps_in c.args.setting) (starts_in c.args.setting) (λ k ks. ChoosesNest (steps_in c.args.setting) (starts_in c.args.setting) c.args.choice k.0 c.args.pop.0 ks)
    c.pushes-pushes.result.now (ChoosesStep (steps_in c.args.setting) (starts_in c.args.setting) c.args.choice c.args.pop.0) c.loop-number.number (omega arith)
    (λ k ks h. inr (k.0, h)) (λ ks s. back ks s) (waiting_of c.args.queue.now) (waiting_of c.loop-number.queue) c.loop-number.invariant
  where
    back : (ks : List ℕ) → ChoosesStep (steps_in c.args.setting) (starts_in c.args.setting) c.args.choice c.args.pop.0 ks
        → (k : StepNo) × Contains c.pushes-pushes.result.now k × ChoosesNest (steps_in c.args.setting) (starts_in c.args.setting) c.args.choice k.0 c.args.pop.0 ks
    back ks s =
        let nest : (k : ℕ) × ChoosesNest (steps_in c.args.setting) (starts_in c.args.setting) c.args.choice k c.args.pop.0 ks =
        ends_nest (steps_in c.args.setting) (starts_in c.args.setting) c.args.choice c.args.pop.0 c.args.popped c.requires.step.found c.requires.step.is_kind ks s in (
          step_no nest.0,
          subst (λ v. Contains v (step_no nest.0)) (sym c.pushes-pushes.ensures)
              (push_listed (steps_in c.args.setting) (starts_in c.args.setting) c.args.choice c.args.setting.machine.now refl c.args.setting.ways.now c.requires.setting.ways c.args.pop.0 c.args.popped c.requires.step.found nest.0 ks nest.1),
          nest.1,
        )
