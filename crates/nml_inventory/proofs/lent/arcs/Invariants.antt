use Rattle.std.proofs.Common.{◌≡◌, ℕ, take}
use Rattle.nml_inventory.specs.declared.loans.Loan.{Loan}
use Rattle.nml_inventory.specs.Tables.{lent_over, rows_from}
use Rattle.nml_inventory.proofs.lent.arcs.Given as goal

abbrev pub invariant-loop-row : goal.invariant-loop-row
invariant-loop-row l =
    l.arcs.items ≡ rows_from (λ (n : ℕ) (k : Loan). lent_over l.numbered l.listed n k.encoding k.nodes) 0 (take l.row l.kinds)
