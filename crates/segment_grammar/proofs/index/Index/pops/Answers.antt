use Rattle.std.proofs.Common.{subst, sym, ap, ◌∙◌}
use Rattle.segment_grammar.specs.FrameRows.{frame_row}
use Rattle.segment_grammar.specs.Index.{AreSteps, IsPopAt}
use Rattle.segment_grammar.proofs.index.Index.pops.Goals as goal

pub returns : goal.returns
returns c machine is = subst (λ v. AreSteps machine (IsPopAt c.args.state c.args.frame) v) (sym (c.row.ensures ∙ ap (λ v. frame_row v.pops c.args.state.0 c.args.frame.0) c.self.view_is))
    (is.pops c.args.state c.args.frame)
