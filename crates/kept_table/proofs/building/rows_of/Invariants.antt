use Rattle.std.proofs.Common.{take}
use Rattle.kept_table.specs.Rows.{AreRowsOf}
use Rattle.kept_table.proofs.building.rows_of.Given as goal

abbrev pub invariant-loop-tests : goal.invariant-loop-tests
invariant-loop-tests l = AreRowsOf (take l.tests-index l.all) l.rows.items
