use Rattle.std.proofs.Common.{subst, sym, ap, ◌∙◌, ◌<◌}
use Rattle.segment_grammar.specs.Rows.{row_of}
use Rattle.segment_grammar.specs.Index.{AreSteps, IsFlatFrom}
use Rattle.segment_grammar.proofs.index.Index.flats.Goals as goal

pub returns : goal.returns
returns c machine is = subst (λ v. AreSteps machine (IsFlatFrom c.args.state) v) (sym (c.row.ensures ∙ ap (λ v. row_of v.flats c.args.state.0) c.self.view_is))
    (is.flats c.args.state (subst (λ n. c.args.state.0 < n) is.states_same c.requires))
