use Rattle.std.proofs.Common.{arith, ℕ, List, refl, sym, subst, Contains}
use Rattle.std.proofs.Math.ListN.{get_or}
use Rattle.std.proofs.lemmas.Option.{slice_get-get_or}
use Rattle.std.proofs.lemmas.List.Elements.{Contains-get_or}
use Rattle.ml_base.specs.declared.numbers.StepNo.{StepNo}
use Rattle.segment_grammar.specs.Index.{step_no}
use Rattle.k_cheapest.specs.Choices.{ChoosesStep, ChoosesSome}
use Rattle.k_cheapest.specs.Items.{waiting_of}
use Rattle.k_cheapest.specs.Settings.{steps_in, starts_in}
use Rattle.k_cheapest.proofs.Adding.{adds_begun, adds_more, adds_listed}
use Rattle.k_cheapest.proofs.Offering.{step_listed}
use Rattle.k_cheapest.proofs.expand.offer_all.Goals as goal

pub loop-number-init : goal.loop-number-init
loop-number-init c = adds_begun (steps_in c.args.setting) (starts_in c.args.setting) (λ k ks. ChoosesStep (steps_in c.args.setting) (starts_in c.args.setting) c.args.choice k.0 ks)
    c.into-row.result.now (waiting_of c.args.queue.now)

pub offer-requires-clause-below : goal.offer-requires-clause-below
offer-requires-clause-below c =
    let k : StepNo = get_or c.into-row.result.now c.loop-number.number (step_no 0) in
    c.requires.setting.ways.into_within c.args.choice.state.0 k
    (subst (λ v. Contains v k) c.into-row.ensures (Contains-get_or c.into-row.result.now c.loop-number.number (step_no 0) c.loop-number-test.true))

pub loop-number-preserved : goal.loop-number-preserved
loop-number-preserved c = adds_more (steps_in c.args.setting) (starts_in c.args.setting) (λ k ks. ChoosesStep (steps_in c.args.setting) (starts_in c.args.setting) c.args.choice k.0 ks)
    c.into-row.result.now c.loop-number.number (get_or c.into-row.result.now c.loop-number.number (step_no 0))
    (slice_get-get_or c.into-row.result.now c.loop-number.number (step_no 0) c.loop-number-test.true) (waiting_of c.args.queue.now) (waiting_of c.loop-number.queue) (waiting_of c.offer.new.queue)
    c.loop-number.invariant c.in_ok-offer.ensures

pub returns : goal.returns
returns c = adds_listed (steps_in c.args.setting) (starts_in c.args.setting) (λ k ks. ChoosesStep (steps_in c.args.setting) (starts_in c.args.setting) c.args.choice k.0 ks)
    c.into-row.result.now (ChoosesSome (steps_in c.args.setting) (starts_in c.args.setting) c.args.choice) c.loop-number.number (omega arith)
    (λ k ks h. (k.0, h)) (λ ks s. back ks s) (waiting_of c.args.queue.now) (waiting_of c.loop-number.queue) c.loop-number.invariant
  where
    back : (ks : List ℕ) → ChoosesSome (steps_in c.args.setting) (starts_in c.args.setting) c.args.choice ks
        → (k : StepNo) × Contains c.into-row.result.now k × ChoosesStep (steps_in c.args.setting) (starts_in c.args.setting) c.args.choice k.0 ks
    back ks s = (
      step_no s.0,
      subst (λ v. Contains v (step_no s.0)) (sym c.into-row.ensures)
          (step_listed (steps_in c.args.setting) (starts_in c.args.setting) c.args.choice c.args.setting.machine.now refl c.args.setting.ways.now c.requires.setting.ways s.0 ks s.1),
      s.1,
    )
