-- What is printed where the words spell no command.
use Rattle.std.specs.Prelude.{ℕ, List, codes}
use Rattle.replies.specs.declared.reply.Reply.{Reply}
use Rattle.replies.specs.declared.reply.Status.TheVariants as statuses
use Rattle.replies.specs.Through.{IsText}

unfoldable pub usage_line : List ℕ
usage_line = codes "usage: find|route FROM LABEL TO LABEL FILE.. | check|replay ANSWER FILE.. | survey FILE.. | drill N\n"

-- the reply tells how words spell commands
abbrev pub IsUsage : Reply → Type 0
IsUsage reply = IsText statuses.Usage usage_line reply
