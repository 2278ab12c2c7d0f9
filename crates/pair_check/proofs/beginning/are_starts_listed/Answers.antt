use Rattle.std.proofs.Common.{arith}
use Rattle.std.proofs.lemmas.List.Elements.{All-more}
use Rattle.ml_base.specs.declared.numbers.Root.TheVariants.{Request}
use Rattle.segment_grammar.proofs.Rising.{accepted, refuted}
use Rattle.pair_check.specs.Rules.{IsListedAtZero}
use Rattle.pair_check.proofs.Loops.{all_passed, one_failed}
use Rattle.pair_check.proofs.beginning.are_starts_listed.Goals as goal

pub loop-start-preserved : goal.loop-start-preserved
loop-start-preserved c =
    All-more (IsListedAtZero c.args.pots.now Request) c.args.starts.now c.loop-start.start-index _ c.loop-start-test.true c.loop-start.invariant
    (accepted _ c.is_listed_at_zero.ensures c.if-not-is_listed_at_zero.false)

pub returns-then-not-is_listed_at_zero : goal.returns-then-not-is_listed_at_zero
returns-then-not-is_listed_at_zero c =
    one_failed (IsListedAtZero c.args.pots.now Request) c.args.starts.now c.loop-start.start-index _ c.loop-start-test.true
    (refuted _ c.is_listed_at_zero.ensures c.if-not-is_listed_at_zero.true)

pub returns : goal.returns
returns c = all_passed (IsListedAtZero c.args.pots.now Request) c.args.starts.now c.loop-start.start-index (omega arith) c.loop-start.invariant
