use Rattle.std.proofs.Common.{◌≤◌, length, take}
use Rattle.table_replay.specs.Tabled.{AreSlots}
use Rattle.table_replay.proofs.table.table_of.Given as goal

abbrev pub invariant-loop-number : goal.invariant-loop-number
invariant-loop-number l = AreSlots l.inventory (take l.number l.rules) l.table × (length l.table ≤ l.number)
