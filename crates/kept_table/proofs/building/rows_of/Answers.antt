use Rattle.std.proofs.Common.{◌≡◌, ◌+◌, ◌++◌, ◌∷◌, ◌∙◌, [], List, take, sym, ap, subst, arith}
use Rattle.std.proofs.lemmas.List.{take_more}
use Rattle.kept_table.specs.declared.gathered.TypeTests.{TypeTests}
use Rattle.kept_table.specs.declared.table.KeptRow.{KeptRow}
use Rattle.kept_table.specs.Rows.{AreRowsOf}
use Rattle.kept_table.proofs.TableOf.{rows_more}
use Rattle.kept_table.proofs.building.rows_of.Goals as goal

pub loop-tests-preserved : goal.loop-tests-preserved
loop-tests-preserved c =
    let all : List TypeTests = c.args.all.now in
    let i = c.loop-tests.tests-index in
    let item : TypeTests = c.tests-item.result in
    let next : take (i + 1) all ≡ take i all ++ item ∷ [] = take_more all i item (omega arith) ∙ ap (λ (x : TypeTests). take i all ++ x ∷ []) (sym c.tests-item.is) in
    subst (λ (xs : List TypeTests). AreRowsOf xs c.push.new.self.items) (sym next)
    (subst (λ (rows : List KeptRow). AreRowsOf (take i all ++ item ∷ []) rows) (sym c.in-Ok.ensures.items)
    (rows_more (take i all) c.loop-tests.rows.items item c.in_ok-row.row c.loop-tests.invariant c.in_ok-row.ensures))
