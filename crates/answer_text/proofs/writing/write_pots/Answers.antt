use Rattle.std.proofs.Common.{rules, refl, [], ◌∷◌, ◌++◌}
use Rattle.line_text.proofs.Writes.{made_more, made_cut, same_left}
use Rattle.answer_text.specs.Spelling.{pot_line}
use Rattle.answer_text.proofs.Written.{pot_left}
use Rattle.answer_text.proofs.writing.write_pots.Goals as goal

pub loop-pot-preserved : goal.loop-pot-preserved
loop-pot-preserved g c = record {
  faults = search rules;
  underway = made_more _ (g.K.Sink.written c.loop-pot.out) _ _ (pot_line c.pot-item.result ++ 10 ∷ []) _ _ refl
      (same_left _ _ _ _ _ (pot_left c.args.pots.now c.loop-pot.pot-index c.pot-item.result c.pot-item.is c.loop-pot-test.true) c.loop-pot.invariant.underway) c.in_ok-write_pot.ensures.ok;
}

pub returns-in_err-write_pot-clause-front : goal.returns-in_err-write_pot-clause-front
returns-in_err-write_pot-clause-front g c =
    made_cut c.from_residual.result _ (g.K.Sink.written c.loop-pot.out) _ _ (pot_line c.pot-item.result ++ 10 ∷ []) _ _ refl
    (same_left _ _ _ _ _ (pot_left c.args.pots.now c.loop-pot.pot-index c.pot-item.result c.pot-item.is c.loop-pot-test.true) c.loop-pot.invariant.underway) c.in_err-write_pot.ensures.front
