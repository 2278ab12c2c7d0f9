use Rattle.std.proofs.Common.{◌∙◌, ap}
use Rattle.replies.specs.Status.{code}
use Rattle.finder_cli.proofs.Settled.{Answers-one}
use Rattle.finder_cli.proofs.Sentences.{says-none, says-past, says-long, says-unknown}
use Rattle.finder_cli.proofs.Headlined.{says-headline}
use Rattle.finder_cli.proofs.Counted.{says-counts}
use Rattle.finder_cli.proofs.Listed.{says-lists}
use Rattle.finder_cli.proofs.Examining.{says-checked, says-drilled, says-replayed}
use Rattle.finder_cli.proofs.Causes.{says-usage, says-fault, says-not-read, says-too-large}
use Rattle.finder_cli.proofs.Stopped.{says-missing, says-too-big}
use Rattle.finder_cli.proofs.Statuses.{says-statuses, says-ten, six-or}
use Rattle.finder_cli.proofs.top.run.Goals as goal

pub returns-in-Ok-clause-settled : goal.returns-in-Ok-clause-settled
returns-in-Ok-clause-settled g c = λ told calm whole memory reply may.
    c.print.ensures.status whole ∙ ap code (Answers-one c.args.words.now (g.F.Files.store c.args.files.now) (g.F.Files.store c.reply_to.new.files) c.in-Ok.reply reply told calm c.in-Ok.ensures may)

pub returns-in-Ok-clause-statuses : goal.returns-in-Ok-clause-statuses
returns-in-Ok-clause-statuses g c = says-statuses c.args.words.now (g.F.Files.store c.args.files.now) (g.F.Files.store c.reply_to.new.files) c.print.result c.in-Ok.reply c.in-Ok.ensures (six-or c.print.result (code c.in-Ok.reply.status) c.print.ensures.status)

pub returns-in-Err-clause-statuses : goal.returns-in-Err-clause-statuses
returns-in-Err-clause-statuses g c = says-ten c.args.words.now

pub returns-in-Ok-clause-headline : goal.returns-in-Ok-clause-headline
returns-in-Ok-clause-headline g c = says-headline c.args.words.now (g.F.Files.store c.args.files.now) (g.F.Files.store c.reply_to.new.files) c.print.result c.in-Ok.reply
    (g.K.Sink.written c.args.out.now) (g.K.Sink.written c.print.new.out) (λ ran. record { may = c.in-Ok.ensures; code = c.print.ensures.status ran.0 }) c.print.ensures.whole

pub returns-in-Ok-clause-none : goal.returns-in-Ok-clause-none
returns-in-Ok-clause-none g c = says-none c.args.words.now (g.F.Files.store c.args.files.now) (g.F.Files.store c.reply_to.new.files) c.print.result c.in-Ok.reply
    (λ ran. record { may = c.in-Ok.ensures; code = c.print.ensures.status ran.0 })

pub returns-in-Ok-clause-past : goal.returns-in-Ok-clause-past
returns-in-Ok-clause-past g c = says-past c.args.words.now (g.F.Files.store c.args.files.now) (g.F.Files.store c.reply_to.new.files) c.print.result c.in-Ok.reply
    (λ ran. record { may = c.in-Ok.ensures; code = c.print.ensures.status ran.0 })

pub returns-in-Ok-clause-long : goal.returns-in-Ok-clause-long
returns-in-Ok-clause-long g c = says-long c.args.words.now (g.F.Files.store c.args.files.now) (g.F.Files.store c.reply_to.new.files) c.print.result c.in-Ok.reply
    (λ ran. record { may = c.in-Ok.ensures; code = c.print.ensures.status ran.0 })

pub returns-in-Ok-clause-counts : goal.returns-in-Ok-clause-counts
returns-in-Ok-clause-counts g c = says-counts c.args.words.now (g.F.Files.store c.args.files.now) (g.F.Files.store c.reply_to.new.files) c.print.result c.in-Ok.reply
    (g.K.Sink.written c.args.out.now) (g.K.Sink.written c.print.new.out) (λ ran. record { may = c.in-Ok.ensures; code = c.print.ensures.status ran.0 }) c.print.ensures.whole

pub returns-in-Ok-clause-lists : goal.returns-in-Ok-clause-lists
returns-in-Ok-clause-lists g c = says-lists c.args.words.now (g.F.Files.store c.args.files.now) (g.F.Files.store c.reply_to.new.files) c.print.result c.in-Ok.reply
    (g.K.Sink.written c.args.out.now) (g.K.Sink.written c.print.new.out) (λ ran. record { may = c.in-Ok.ensures; code = c.print.ensures.status ran.0 }) c.print.ensures.whole

pub returns-in-Ok-clause-usage : goal.returns-in-Ok-clause-usage
returns-in-Ok-clause-usage g c = says-usage c.args.words.now (g.F.Files.store c.args.files.now) (g.F.Files.store c.reply_to.new.files) c.print.result c.in-Ok.reply
    (g.K.Sink.written c.args.out.now) (g.K.Sink.written c.print.new.out) (λ ran. record { may = c.in-Ok.ensures; code = c.print.ensures.status ran.0 }) c.print.ensures.whole

pub returns-in-Ok-clause-fault : goal.returns-in-Ok-clause-fault
returns-in-Ok-clause-fault g c = says-fault c.args.words.now (g.F.Files.store c.args.files.now) (g.F.Files.store c.reply_to.new.files) c.print.result c.in-Ok.reply
    (g.K.Sink.written c.args.out.now) (g.K.Sink.written c.print.new.out) (λ ran. record { may = c.in-Ok.ensures; code = c.print.ensures.status ran.0 }) c.print.ensures.whole

pub returns-in-Ok-clause-unknown : goal.returns-in-Ok-clause-unknown
returns-in-Ok-clause-unknown g c = says-unknown c.args.words.now (g.F.Files.store c.args.files.now) (g.F.Files.store c.reply_to.new.files) c.print.result c.in-Ok.reply
    (λ ran. record { may = c.in-Ok.ensures; code = c.print.ensures.status ran.0 })

pub returns-in-Ok-clause-missing : goal.returns-in-Ok-clause-missing
returns-in-Ok-clause-missing g c = says-missing c.args.words.now (g.F.Files.store c.args.files.now) (g.F.Files.store c.reply_to.new.files) c.print.result c.in-Ok.reply
    (g.K.Sink.written c.args.out.now) (g.K.Sink.written c.print.new.out) (λ ran. record { may = c.in-Ok.ensures; code = c.print.ensures.status ran.0 }) c.print.ensures.whole

pub returns-in-Ok-clause-too_big : goal.returns-in-Ok-clause-too_big
returns-in-Ok-clause-too_big g c = says-too-big c.args.words.now (g.F.Files.store c.args.files.now) (g.F.Files.store c.reply_to.new.files) c.print.result c.in-Ok.reply
    (g.K.Sink.written c.args.out.now) (g.K.Sink.written c.print.new.out) (λ ran. record { may = c.in-Ok.ensures; code = c.print.ensures.status ran.0 }) c.print.ensures.whole

pub returns-in-Ok-clause-not_read : goal.returns-in-Ok-clause-not_read
returns-in-Ok-clause-not_read g c = says-not-read c.args.words.now (g.F.Files.store c.args.files.now) (g.F.Files.store c.reply_to.new.files) c.print.result c.in-Ok.reply
    (g.K.Sink.written c.args.out.now) (g.K.Sink.written c.print.new.out) (λ ran. record { may = c.in-Ok.ensures; code = c.print.ensures.status ran.0 }) c.print.ensures.whole

pub returns-in-Ok-clause-too_large : goal.returns-in-Ok-clause-too_large
returns-in-Ok-clause-too_large g c = says-too-large c.args.words.now (g.F.Files.store c.args.files.now) (g.F.Files.store c.reply_to.new.files) c.print.result c.in-Ok.reply
    (g.K.Sink.written c.args.out.now) (g.K.Sink.written c.print.new.out) (λ ran. record { may = c.in-Ok.ensures; code = c.print.ensures.status ran.0 }) c.print.ensures.whole

pub returns-in-Ok-clause-checked : goal.returns-in-Ok-clause-checked
returns-in-Ok-clause-checked g c = says-checked c.args.words.now (g.F.Files.store c.args.files.now) (g.F.Files.store c.reply_to.new.files) c.print.result c.in-Ok.reply
    (g.K.Sink.written c.args.out.now) (g.K.Sink.written c.print.new.out) (λ ran. record { may = c.in-Ok.ensures; code = c.print.ensures.status ran.0 }) c.print.ensures.whole

pub returns-in-Ok-clause-replayed : goal.returns-in-Ok-clause-replayed
returns-in-Ok-clause-replayed g c = says-replayed c.args.words.now (g.F.Files.store c.args.files.now) (g.F.Files.store c.reply_to.new.files) c.print.result c.in-Ok.reply
    (g.K.Sink.written c.args.out.now) (g.K.Sink.written c.print.new.out) (λ ran. record { may = c.in-Ok.ensures; code = c.print.ensures.status ran.0 }) c.print.ensures.whole

pub returns-in-Ok-clause-drilled : goal.returns-in-Ok-clause-drilled
returns-in-Ok-clause-drilled g c = says-drilled c.args.words.now (g.F.Files.store c.args.files.now) (g.F.Files.store c.reply_to.new.files) c.print.result c.in-Ok.reply
    (g.K.Sink.written c.args.out.now) (g.K.Sink.written c.print.new.out) (λ ran. record { may = c.in-Ok.ensures; code = c.print.ensures.status ran.0 }) c.print.ensures.whole
