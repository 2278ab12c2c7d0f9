use Rattle.std.proofs.Common.{arith, length, sym, ap, ◌≡◌, ◌∙◌}
use Rattle.std.proofs.lemmas.Grind.{common_steps}
use Rattle.std.proofs.lemmas.Option.{slice_get-get_or}
use Rattle.adapt_machine.specs.declared.MachineKind.TheVariants.{Push}
use Rattle.knuth_search.specs.Following.{Closes, SomePot}
use Rattle.knuth_search.specs.Tables.{IsAt, pot_of}
use Rattle.knuth_search.proofs.Offering.{offers_none, offers_more, offers_listed, fill_enters, kept_at, passes_at, waiting_listed}
use Rattle.knuth_search.proofs.settle.fill_by.Goals as goal

pub returns-then-is_empty-clause-offers : goal.returns-then-is_empty-clause-offers
returns-then-is_empty-clause-offers c =
    let empty : length c.at-waiting.result.now ≡ 0 = grind (arith, common_steps) in
    offers_none (λ p. SomePot c.args.table.now.pots (λ prev p. Closes c.args.setting.machine.now.steps prev c.args.number (pot_of c.args.inner) p) p) _
    (λ p s. omega (arith, empty, (waiting_listed c.args.table.now.task c.args.table.now.pots c.at-waiting.result.now c.args.setting.machine.now.steps (ap (λ t. t.machine.steps) c.requires.table ∙ ap (λ m. m.steps) c.requires.machine) c.args.number c.step-pushed.result c.step-pushed.ensures.found c.at-waiting.ensures (pot_of c.args.inner) p s).1.1))

pub close-requires-clause-kept : goal.close-requires-clause-kept
close-requires-clause-kept c = kept_at c.args.table.now.task c.args.table.now.pots Push (IsAt c.step-pushed.result.from) c.at-waiting.result.now c.at-waiting.ensures c.loop-place.place _ c.loop-place-test.true c.loop-place.queue.task (c.loop-place.invariant.task ∙ sym c.requires.table)

pub close-requires-clause-enters : goal.close-requires-clause-enters
close-requires-clause-enters c = fill_enters c.args.setting.machine.now.steps _ c.args.number (pot_of c.args.inner) c.step-pushed.result c.step-pushed.ensures.found c.requires.into
    (passes_at c.args.table.now.task c.args.table.now.pots Push (IsAt c.step-pushed.result.from) c.at-waiting.result.now c.at-waiting.ensures c.loop-place.place _ c.loop-place-test.true)

pub loop-place-preserved : goal.loop-place-preserved
loop-place-preserved c = record {
  offers = offers_more (λ d p. Closes c.args.setting.machine.now.steps (pot_of d) c.args.number (pot_of c.args.inner) p) c.at-waiting.result.now c.loop-place.place _ (slice_get-get_or c.at-waiting.result.now c.loop-place.place _ c.loop-place-test.true) _ _ _ c.loop-place.invariant.offers c.in_ok-close.ensures.offers;
  task = c.close.ensures.task ∙ c.loop-place.invariant.task;
}

pub returns-clause-offers : goal.returns-clause-offers
returns-clause-offers c = offers_listed (λ d p. Closes c.args.setting.machine.now.steps (pot_of d) c.args.number (pot_of c.args.inner) p) c.at-waiting.result.now (λ p. SomePot c.args.table.now.pots (λ prev p. Closes c.args.setting.machine.now.steps prev c.args.number (pot_of c.args.inner) p) p) c.loop-place.place (omega arith)
    (waiting_listed c.args.table.now.task c.args.table.now.pots c.at-waiting.result.now c.args.setting.machine.now.steps (ap (λ t. t.machine.steps) c.requires.table ∙ ap (λ m. m.steps) c.requires.machine) c.args.number c.step-pushed.result c.step-pushed.ensures.found c.at-waiting.ensures (pot_of c.args.inner)) _ _ c.loop-place.invariant.offers
