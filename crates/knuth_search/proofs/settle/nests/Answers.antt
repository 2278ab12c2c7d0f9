use Rattle.std.proofs.Common.{arith, sym, ap, ◌∙◌}
use Rattle.std.proofs.lemmas.Option.{slice_get-get_or}
use Rattle.adapt_machine.specs.declared.MachineKind.TheVariants.{Pop}
use Rattle.knuth_search.specs.Following.{Closes, SomePot}
use Rattle.knuth_search.specs.Tables.{IsUnder, pot_of}
use Rattle.knuth_search.proofs.Offering.{offers_more, offers_listed, enters_here, kept_at, passes_at, inners_listed}
use Rattle.knuth_search.proofs.settle.nests.Goals as goal

pub close-requires-clause-inner : goal.close-requires-clause-inner
close-requires-clause-inner c = kept_at c.args.table.now.task c.args.table.now.pots Pop (IsUnder c.step-pushed.result.to) c.under-inners.result.now c.under-inners.ensures c.loop-place.place _ c.loop-place-test.true c.loop-place.queue.task (c.loop-place.invariant.task ∙ sym c.requires.table)

pub close-requires-clause-enters : goal.close-requires-clause-enters
close-requires-clause-enters c = enters_here c.args.setting.machine.now.steps (pot_of c.args.prev) c.args.number _ c.step-pushed.result c.step-pushed.ensures.found c.requires.push
    (passes_at c.args.table.now.task c.args.table.now.pots Pop (IsUnder c.step-pushed.result.to) c.under-inners.result.now c.under-inners.ensures c.loop-place.place _ c.loop-place-test.true)

pub loop-place-preserved : goal.loop-place-preserved
loop-place-preserved c = record {
  offers = offers_more (λ d p. Closes c.args.setting.machine.now.steps (pot_of c.args.prev) c.args.number (pot_of d) p) c.under-inners.result.now c.loop-place.place _ (slice_get-get_or c.under-inners.result.now c.loop-place.place _ c.loop-place-test.true) _ _ _ c.loop-place.invariant.offers c.in_ok-close.ensures.offers;
  task = c.close.ensures.task ∙ c.loop-place.invariant.task;
}

pub returns-clause-offers : goal.returns-clause-offers
returns-clause-offers c = offers_listed (λ d p. Closes c.args.setting.machine.now.steps (pot_of c.args.prev) c.args.number (pot_of d) p) c.under-inners.result.now (λ p. SomePot c.args.table.now.pots (λ inner p. Closes c.args.setting.machine.now.steps (pot_of c.args.prev) c.args.number inner p) p) c.loop-place.place (omega arith)
    (inners_listed c.args.table.now.task c.args.table.now.pots c.under-inners.result.now c.args.setting.machine.now.steps (ap (λ t. t.machine.steps) c.requires.table ∙ ap (λ m. m.steps) c.requires.machine) c.args.number c.step-pushed.result c.step-pushed.ensures.found c.under-inners.ensures (pot_of c.args.prev)) _ _ c.loop-place.invariant.offers
