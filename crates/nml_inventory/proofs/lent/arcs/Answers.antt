use Rattle.std.proofs.Common.{◌∙◌, ◌++◌, ℕ, List, refl, sym, ap}
use Rattle.std.proofs.lemmas.Option.{slice_get_read}
use Rattle.nml_inventory.specs.declared.loans.Loan.{Loan}
use Rattle.nml_inventory.specs.Tables.{lent_over}
use Rattle.nml_inventory.proofs.Tabling.{Arc, rows_more}
use Rattle.nml_inventory.proofs.lent.arcs.Goals as goal

pub loop-row-preserved : goal.loop-row-preserved
loop-row-preserved c =
    let T = c.args.numbered.now in
    let listed = c.args.listed.now in
    let kinds = c.args.kinds.now in
    let row = c.loop-row.row in
    let loan = c.index-kinds-row.result in
    let arcs_of : ℕ → Loan → List Arc = λ n k. lent_over T listed n k.encoding k.nodes in
    c.in_ok-lend_nodes.ensures ∙ ap (λ nodes. c.loop-row.arcs.items ++ lent_over T listed row loan.encoding nodes) c.as_slice.ensures
    ∙ ap (λ (cs : List Arc). cs ++ arcs_of row loan) c.loop-row.invariant
    ∙ sym (rows_more arcs_of kinds row loan (slice_get_read kinds _ row loan refl c.loop-row-test.true c.index-kinds-row.is))
