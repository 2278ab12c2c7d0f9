use Rattle.std.proofs.Common.{◌∙◌, sym, suc}
use Rattle.answer_text.proofs.Keyed.{hop_follows}
use Rattle.answer_text.proofs.steps.hop_line.Goals as goal

pub returns : goal.returns
returns c = hop_follows (suc c.args.last) _ c.in_ok-words.words c.in_ok-words.ensures (sym c.is_next.ensures ∙ c.if-not-is_next.false)
