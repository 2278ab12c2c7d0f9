use Rattle.finder_cli.proofs.Drilled.{drill-gives}
use Rattle.finder_cli.proofs.top.perform.Goals as goal

pub returns-in-Find : goal.returns-in-Find
returns-in-Find g c = rw c.in-Find.is (rw c.as_slice.ensures at c.find.ensures)

pub returns-in-KFind : goal.returns-in-KFind
returns-in-KFind g c = rw c.in-KFind.is (rw c.as_slice-in-KFind.ensures at c.k_find.ensures)

pub returns-in-Check : goal.returns-in-Check
returns-in-Check g c = rw c.in-Check.is (rw c.as_slice-in-Check.ensures at c.examine.ensures)

pub returns-in-Replay : goal.returns-in-Replay
returns-in-Replay g c = rw c.in-Replay.is (rw c.as_slice-in-Replay.ensures at c.examine-in-Replay.ensures)

pub returns-in-Survey : goal.returns-in-Survey
returns-in-Survey g c = rw c.in-Survey.is (rw c.as_slice-in-Survey.ensures at c.survey.ensures)

pub returns-in-Drill : goal.returns-in-Drill
returns-in-Drill g c = rw c.in-Drill.is (drill-gives c.in-Drill.levels (g.F.Files.store c.args.files.now) (g.F.Files.store c.args.files.now) c.perform_drill.result (rw c.in-Drill.is at c.requires.count).1 c.perform_drill.ensures)
