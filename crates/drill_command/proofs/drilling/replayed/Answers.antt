use Rattle.std.proofs.Common.{◌≡◌, refl}
use Rattle.std.proofs.lemmas.Result.{IfOk-weaker}
use Rattle.line_text.specs.Lines.{text_of}
use Rattle.answer_text.specs.Spelling.{lines_of}
use Rattle.rule_replay.specs.declared.replayed.Replayed.{Replayed as WhatIsTold}
use Rattle.rule_replay.specs.Replaying.{IsReplayed}
use Rattle.drill_command.specs.Lines.{replay_line, told_line}
use Rattle.drill_command.proofs.Replayed.{told_of_exact}
use Rattle.drill_command.proofs.drilling.replayed.Goals as goal

pub returns : goal.returns
returns c =
    let T = c.args.inventory.now in
    let a = c.args.answer.now in
    let document = text_of (lines_of a) in
    IfOk-weaker c.replay_answer.result (IsReplayed T document) (λ (told : WhatIsTold). told_line told ≡ replay_line a.outcome a)
    (λ told p. told_of_exact T a told c.requires.exact c.requires.formed p) (c.replay_answer.ensures document (c.requires.formed, refl))
