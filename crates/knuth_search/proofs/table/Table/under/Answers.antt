use Rattle.std.proofs.Common.{sym, subst, ◌<◌, ap}
use Rattle.adapt_machine.specs.declared.MachineKind.TheVariants.{Pop}
use Rattle.segment_grammar.specs.Rows.{row_of}
use Rattle.knuth_search.specs.Tables.{IsUnder, ListsPairs}
use Rattle.knuth_search.proofs.table.Table.under.Goals as goal

pub returns : goal.returns
returns c =
    subst (λ l. ListsPairs c.args.self.now.task c.args.self.now.pots Pop (IsUnder c.args.entry) l) (sym c.row.ensures)
    (subst (λ v. ListsPairs v.task v.pots Pop (IsUnder c.args.entry) (row_of c.self.inside.by_root c.args.entry.0)) c.self.view_is
    (c.self.invariant.under.lists c.args.entry (subst (λ t. c.args.entry.0 < t.machine.states) (sym (ap (λ v. v.task) c.self.view_is)) c.requires)))
