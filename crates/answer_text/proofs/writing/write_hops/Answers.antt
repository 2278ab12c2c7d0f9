use Rattle.std.proofs.Common.{rules, refl, [], ◌∷◌, ◌++◌, ◌+◌}
use Rattle.line_text.proofs.Writes.{made_more, made_cut, same_left}
use Rattle.answer_text.specs.Spelling.{hop_line}
use Rattle.answer_text.proofs.Written.{has_flag, hop_left}
use Rattle.answer_text.proofs.writing.write_hops.Goals as goal

pub bounds-flags-at : goal.bounds-flags-at
bounds-flags-at g c = has_flag c.args.hops.now c.args.flags.now c.loop-at.at c.requires c.loop-at-test.true

pub loop-at-preserved : goal.loop-at-preserved
loop-at-preserved g c =
    let short = has_flag c.args.hops.now c.args.flags.now c.loop-at.at c.requires c.loop-at-test.true in
    record {
      faults = search rules;
      underway = made_more _ (g.K.Sink.written c.loop-at.out) _ _ (hop_line (c.loop-at.at + 1) c.index-hops-at.result _ ++ 10 ∷ []) _ _ refl
          (same_left _ _ _ _ _ (hop_left c.args.hops.now c.args.flags.now c.loop-at.at c.index-hops-at.result _ _ c.index-hops-at.is c.loop-at-test.true refl short) c.loop-at.invariant.underway) c.in_ok-write_hop.ensures.ok;
    }

pub returns-in_err-write_hop-clause-front : goal.returns-in_err-write_hop-clause-front
returns-in_err-write_hop-clause-front g c =
    let short = has_flag c.args.hops.now c.args.flags.now c.loop-at.at c.requires c.loop-at-test.true in
    made_cut c.from_residual.result _ (g.K.Sink.written c.loop-at.out) _ _ (hop_line (c.loop-at.at + 1) c.index-hops-at.result _ ++ 10 ∷ []) _ _ refl
    (same_left _ _ _ _ _ (hop_left c.args.hops.now c.args.flags.now c.loop-at.at c.index-hops-at.result _ _ c.index-hops-at.is c.loop-at-test.true refl short) c.loop-at.invariant.underway) c.in_err-write_hop.ensures.front
