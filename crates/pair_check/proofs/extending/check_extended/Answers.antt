use Rattle.std.proofs.Common.{◌<◌, arith}
use Rattle.std.proofs.lemmas.List.Elements.{All-more}
use Rattle.segment_grammar.specs.declared.potentials.Pot.{Pot}
use Rattle.segment_grammar.proofs.Rising.{accepted, refuted}
use Rattle.pair_check.specs.Rules.{IsExtended}
use Rattle.pair_check.proofs.Loops.{first_failing_of, holds_of, whole_of}
use Rattle.pair_check.proofs.extending.check_extended.Goals as goal

pub is_extended-requires-clause-within : goal.is_extended-requires-clause-within
is_extended-requires-clause-within c =
    holds_of (λ (p : Pot). p.state.0 < c.args.machine.now.states) c.as_slice-pairs.result.now c.args.pots.now c.as_slice-pairs.ensures.value
    c.loop-place.place _ (omega arith) c.requires.within

pub loop-place-preserved : goal.loop-place-preserved
loop-place-preserved c =
    All-more (IsExtended c.args.machine.now.steps c.args.pots.now) c.as_slice-pairs.result.now c.loop-place.place _ (omega arith)
    c.loop-place.invariant (accepted _ c.is_extended.ensures c.if-not-is_extended.false)

pub returns-then-not-is_extended-clause-err : goal.returns-then-not-is_extended-clause-err
returns-then-not-is_extended-clause-err c = λ starts begun. (
  begun,
  first_failing_of (IsExtended c.args.machine.now.steps c.args.pots.now) c.as_slice-pairs.result.now c.args.pots.now
      c.as_slice-pairs.ensures.value c.loop-place.place _ (omega arith) (refuted _ c.is_extended.ensures c.if-not-is_extended.true) c.loop-place.invariant,
)

pub returns-clause-ok : goal.returns-clause-ok
returns-clause-ok c =
    whole_of (IsExtended c.args.machine.now.steps c.args.pots.now) c.as_slice-pairs.result.now c.args.pots.now c.as_slice-pairs.ensures.value
    c.loop-place.place (omega arith) c.loop-place.invariant
