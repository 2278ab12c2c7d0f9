use Rattle.std.proofs.Common.{subst, sym, ap, ◌∙◌, ◌<◌}
use Rattle.segment_grammar.specs.Rows.{row_of}
use Rattle.segment_grammar.specs.Index.{AreSteps, IsPushFrom}
use Rattle.segment_grammar.proofs.index.Index.pushes.Goals as goal

pub returns : goal.returns
returns c machine is = subst (λ v. AreSteps machine (IsPushFrom c.args.state) v) (sym (c.row.ensures ∙ ap (λ v. row_of v.pushes c.args.state.0) c.self.view_is))
    (is.pushes c.args.state (subst (λ n. c.args.state.0 < n) is.states_same c.requires))
