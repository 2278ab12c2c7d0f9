use Rattle.std.proofs.Common.{◌∙◌, ◌<◌, subst, sym}
use Rattle.knuth_search.specs.Tables.{pot_of}
use Rattle.knuth_search.proofs.Turning.{searching_begun, searching_turn, closed_popped, is_complete}
use Rattle.knuth_search.proofs.run.search_table.Goals as goal

pub begin-requires-clause-within : goal.begin-requires-clause-within
begin-requires-clause-within c a listed = subst (λ t. a.0 < t.machine.states) (sym c.in_ok-queue.ensures.task) (c.requires.starts a listed)

pub loop-init : goal.loop-init
loop-init c = record {
  searching = searching_begun c.args.machine.now.steps c.args.starts.now c.in_ok-table.table.pots c.in_ok-queue.queue c.begin.new.queue c.in_ok-table.ensures.pots c.in_ok-queue.ensures.offered c.in_ok-begin.ensures.offers;
  table = c.in_ok-table.ensures.task;
  queue = c.begin.ensures.task ∙ c.in_ok-queue.ensures.task;
}

pub turn-requires-clause-closed : goal.turn-requires-clause-closed
turn-requires-clause-closed c = closed_popped c.args.machine.now.steps c.args.starts.now c.loop.table.pots c.loop.queue c.pop.new.self c.pop.ensures.offered c.loop.invariant.searching

pub loop-preserved : goal.loop-preserved
loop-preserved c = record {
  searching = searching_turn c.args.machine.now.steps c.args.starts.now c.loop.table.pots c.loop.queue c.pop.new.self (pot_of c.in-Some.next) c.in-Some.ensures.some c.pop.ensures.offered c.loop.invariant.searching
      c.turn.new.table.pots c.turn.new.queue c.in_ok-turn.ensures.turns;
  table = c.turn.ensures.table_task ∙ c.loop.invariant.table;
  queue = c.turn.ensures.queue_task ∙ c.pop.ensures.task ∙ c.loop.invariant.queue;
}

pub returns-in_default-clause-complete : goal.returns-in_default-clause-complete
returns-in_default-clause-complete c = is_complete c.args.machine.now.steps c.args.starts.now c.loop.table.pots c.loop.queue c.in_default.ensures.none c.loop.invariant.searching
