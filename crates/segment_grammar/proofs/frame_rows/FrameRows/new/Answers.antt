use Rattle.std.proofs.Common.{length, subst, sym}
use Rattle.segment_grammar.specs.FrameRows.{ArePopsNumbered}
use Rattle.segment_grammar.proofs.Numbering.{pops_listed}
use Rattle.segment_grammar.proofs.frame_rows.FrameRows.new.Goals as goal

pub returns-clause-pops : goal.returns-clause-pops
returns-clause-pops c =
    let steps = c.args.machine.now.steps in
    let numbers = c.in_ok-numbers.numbers.entries in
    pops_listed steps numbers c.len-count.result c.in_ok-rows.rows (subst (λ n. ArePopsNumbered steps (length steps) numbers n) (sym c.len-count.ensures.len) c.in_ok-numbers.ensures.numbered) c.in_ok-rows.ensures.lists
