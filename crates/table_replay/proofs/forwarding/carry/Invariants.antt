use Rattle.std.proofs.Common.{length}
use Rattle.table_replay.specs.Tabled.{Continues, IsReady}
use Rattle.table_replay.proofs.forwarding.carry.Given as goal

abbrev pub invariant-loop-way : goal.invariant-loop-way
invariant-loop-way l = record {
  ready : IsReady l.inventory l.rules l.way.replay l.way.table l.way.met.keys;
  continues : Continues l.inventory l.rules l.start l.target l.way.met.keys l.way.replay.unit l.way.hops;
}

abbrev pub decreases-loop-way : goal.decreases-loop-way
decreases-loop-way l = length l.way.table
