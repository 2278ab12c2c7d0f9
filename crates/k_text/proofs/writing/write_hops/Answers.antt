use Rattle.std.proofs.Common.{rules, refl, ◌+◌}
use Rattle.std.specs.Prelude.{None}
use Rattle.line_text.proofs.Writes.{made_more, made_cut, same_left}
use Rattle.answer_text.specs.Spelling.{hop_line}
use Rattle.k_text.proofs.Listed.{printed, hop_left}
use Rattle.k_text.proofs.writing.write_hops.Goals as goal

pub loop-at-preserved : goal.loop-at-preserved
loop-at-preserved g c = record {
  faults = search rules;
  underway = made_more _ (g.K.Sink.written c.loop-at.out) _ _ (printed (hop_line (c.loop-at.at + 1) c.index-hops-at.result None)) _ _ refl
      (same_left _ _ _ _ _ (hop_left c.args.hops.now c.loop-at.at c.index-hops-at.result c.index-hops-at.is c.loop-at-test.true) c.loop-at.invariant.underway) c.in_ok-write_hop.ensures.ok;
}

pub returns-in_err-write_hop-clause-front : goal.returns-in_err-write_hop-clause-front
returns-in_err-write_hop-clause-front g c =
    made_cut c.from_residual.result _ (g.K.Sink.written c.loop-at.out) _ _ (printed (hop_line (c.loop-at.at + 1) c.index-hops-at.result None)) _ _ refl
    (same_left _ _ _ _ _ (hop_left c.args.hops.now c.loop-at.at c.index-hops-at.result c.index-hops-at.is c.loop-at-test.true) c.loop-at.invariant.underway) c.in_err-write_hop.ensures.front
