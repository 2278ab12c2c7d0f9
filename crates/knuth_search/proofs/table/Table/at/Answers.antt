use Rattle.std.proofs.Common.{sym, subst, ◌<◌, ap}
use Rattle.adapt_machine.specs.declared.MachineKind.TheVariants.{Push}
use Rattle.segment_grammar.specs.Rows.{row_of}
use Rattle.knuth_search.specs.Tables.{IsAt, ListsPairs}
use Rattle.knuth_search.proofs.table.Table.at.Goals as goal

pub returns : goal.returns
returns c =
    subst (λ l. ListsPairs c.args.self.now.task c.args.self.now.pots Push (IsAt c.args.state) l) (sym c.row.ensures)
    (subst (λ v. ListsPairs v.task v.pots Push (IsAt c.args.state) (row_of c.self.inside.by_state c.args.state.0)) c.self.view_is
    (c.self.invariant.at.lists c.args.state (subst (λ t. c.args.state.0 < t.machine.states) (sym (ap (λ v. v.task) c.self.view_is)) c.requires)))
