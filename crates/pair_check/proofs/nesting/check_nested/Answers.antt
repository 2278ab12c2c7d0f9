use Rattle.std.proofs.Common.{◌<◌, arith, subst, take}
use Rattle.std.specs.List.{All}
use Rattle.std.proofs.lemmas.List.Elements.{All-more}
use Rattle.segment_grammar.specs.declared.potentials.Pot.{Pot}
use Rattle.segment_grammar.proofs.Rising.{accepted, refuted}
use Rattle.pair_check.specs.Rules.{IsNested}
use Rattle.pair_check.proofs.Loops.{first_failing_of, holds_of, whole_of}
use Rattle.pair_check.proofs.nesting.check_nested.Goals as goal

pub is_nested-requires-clause-within : goal.is_nested-requires-clause-within
is_nested-requires-clause-within c =
    holds_of (λ (p : Pot). p.state.0 < c.args.machine.now.states) c.as_slice-pairs.result.now c.args.pots.now c.as_slice-pairs.ensures.value
    c.loop-place.place _ (omega arith) c.requires.within

pub is_nested-requires-clause-before : goal.is_nested-requires-clause-before
is_nested-requires-clause-before c =
    subst (λ ps. All (IsNested c.args.machine.now.steps c.args.pots.now) (take c.loop-place.place ps)) c.as_slice-pairs.ensures.value c.loop-place.invariant.nests

pub loop-place-preserved : goal.loop-place-preserved
loop-place-preserved c = record {
  found = c.in_ok-nested.ensures.found;
  nests = All-more (IsNested c.args.machine.now.steps c.args.pots.now) c.as_slice-pairs.result.now c.loop-place.place _ (omega arith)
      c.loop-place.invariant.nests (accepted _ c.in_ok-nested.ensures.nests c.if-not-nested.false);
}

pub returns-then-not-nested-clause-err : goal.returns-then-not-nested-clause-err
returns-then-not-nested-clause-err c = λ starts begun extends opens. (
  begun,
  extends,
  opens,
  first_failing_of (IsNested c.args.machine.now.steps c.args.pots.now) c.as_slice-pairs.result.now c.args.pots.now
      c.as_slice-pairs.ensures.value c.loop-place.place _ (omega arith) (refuted _ c.in_ok-nested.ensures.nests c.if-not-nested.true) c.loop-place.invariant.nests,
)

pub returns-clause-ok : goal.returns-clause-ok
returns-clause-ok c =
    whole_of (IsNested c.args.machine.now.steps c.args.pots.now) c.as_slice-pairs.result.now c.args.pots.now c.as_slice-pairs.ensures.value
    c.loop-place.place (omega arith) c.loop-place.invariant.nests
