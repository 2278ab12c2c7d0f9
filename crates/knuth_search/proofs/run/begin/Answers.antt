use Rattle.std.proofs.Common.{arith, ◌≡◌, ◌∙◌, ◌<◌, subst, sym}
use Rattle.std.proofs.Math.ListN.{get_or}
use Rattle.std.proofs.lemmas.Option.{slice_get-get_or}
use Rattle.ml_base.specs.declared.numbers.StateNo.{StateNo}
use Rattle.ml_base.specs.declared.numbers.Root.TheVariants.{Request}
use Rattle.segment_grammar.specs.Pots.{pot}
use Rattle.segment_grammar.proofs.Places.{contains_at}
use Rattle.knuth_search.specs.Following.{zero}
use Rattle.knuth_search.specs.Searching.{Begins}
use Rattle.knuth_search.proofs.Offering.{offers_more, offers_listed}
use Rattle.knuth_search.proofs.run.begin.Goals as goal

pub begin_at-requires-clause-within : goal.begin_at-requires-clause-within
begin_at-requires-clause-within c =
    let start : StateNo = get_or c.args.starts.now c.loop-number.number (record { 0 = 0 }) in
    subst (λ t. start.0 < t.machine.states) (sym c.loop-number.invariant.task)
    (c.requires.within start (contains_at c.args.starts.now c.loop-number.number start (slice_get-get_or c.args.starts.now c.loop-number.number (record { 0 = 0 }) c.loop-number-test.true)))

pub loop-number-preserved : goal.loop-number-preserved
loop-number-preserved c = record {
  offers = offers_more (λ a p. p ≡ pot Request a zero) c.args.starts.now c.loop-number.number (get_or c.args.starts.now c.loop-number.number (record { 0 = 0 }))
      (slice_get-get_or c.args.starts.now c.loop-number.number (record { 0 = 0 }) c.loop-number-test.true) _ _ _ c.loop-number.invariant.offers c.in_ok-begin_at.ensures.offers;
  task = c.begin_at.ensures.task ∙ c.loop-number.invariant.task;
}

pub returns-clause-offers : goal.returns-clause-offers
returns-clause-offers c = offers_listed (λ a p. p ≡ pot Request a zero) c.args.starts.now (λ p. Begins c.args.starts.now p) c.loop-number.number (omega arith) (λ p b. b) _ _ c.loop-number.invariant.offers
