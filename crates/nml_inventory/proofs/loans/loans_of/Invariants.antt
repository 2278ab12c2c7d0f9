use Rattle.nml_inventory.proofs.EqualLoans.{AreLoansUpTo}
use Rattle.nml_inventory.proofs.loans.loans_of.Given as goal

abbrev pub invariant-loop-number : goal.invariant-loop-number
invariant-loop-number l = AreLoansUpTo l.numbered l.number l.kinds.keys l.rows.items
