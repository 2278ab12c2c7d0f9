use Rattle.deriv_arena.proofs.Segments.{form_segment}
use Rattle.deriv_arena.proofs.laws.segment_law.Goals as goal

pub returns : goal.returns
returns c steps o = form_segment steps c.args.deriv.now.first c.args.deriv.now.last c.args.deriv.now.weight c.args.deriv.now.form o
