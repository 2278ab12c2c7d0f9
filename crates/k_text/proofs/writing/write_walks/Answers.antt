use Rattle.std.proofs.Common.{rules, refl, ◌+◌}
use Rattle.line_text.specs.Lines.{text_of}
use Rattle.line_text.proofs.Writes.{made_more, made_cut, same_left}
use Rattle.k_text.specs.Listing.{walk_lines}
use Rattle.k_text.proofs.Listed.{walk_left}
use Rattle.k_text.proofs.writing.write_walks.Goals as goal

pub loop-at-preserved : goal.loop-at-preserved
loop-at-preserved g c = record {
  faults = search rules;
  underway = made_more _ (g.K.Sink.written c.loop-at.out) _ _ (text_of (walk_lines (c.loop-at.at + 1) c.index-walks-at.result)) _ _ refl
      (same_left _ _ _ _ _ (walk_left c.args.walks.now c.loop-at.at c.index-walks-at.result c.index-walks-at.is c.loop-at-test.true) c.loop-at.invariant.underway) c.in_ok-write_walk.ensures.ok;
}

pub returns-in_err-write_walk-clause-front : goal.returns-in_err-write_walk-clause-front
returns-in_err-write_walk-clause-front g c =
    made_cut c.from_residual.result _ (g.K.Sink.written c.loop-at.out) _ _ (text_of (walk_lines (c.loop-at.at + 1) c.index-walks-at.result)) _ _ refl
    (same_left _ _ _ _ _ (walk_left c.args.walks.now c.loop-at.at c.index-walks-at.result c.index-walks-at.is c.loop-at-test.true) c.loop-at.invariant.underway) c.in_err-write_walk.ensures.front
