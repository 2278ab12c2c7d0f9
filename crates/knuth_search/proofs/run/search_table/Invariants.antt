use Rattle.std.proofs.Common.{◌≡◌}
use Rattle.knuth_search.proofs.Turning.{IsSearching}
use Rattle.knuth_search.proofs.run.search_table.Given as goal

abbrev pub invariant-loop : goal.invariant-loop
invariant-loop l = record {
  searching : IsSearching l.machine.steps l.starts l.table.pots l.queue;
  table : l.table.task ≡ record { machine = l.machine; starts = l.starts };
  queue : l.queue.task ≡ record { machine = l.machine; starts = l.starts };
}
