use Rattle.std.proofs.Common.{inr, []}
use Rattle.std.proofs.lemmas.Result.{err_from_is_err_and}
use Rattle.file_words.specs.Accepting.{IfAccepted}
use Rattle.file_words.specs.Reading.{file_words}
use Rattle.file_words.proofs.Over.{stops-early, stops-over}
use Rattle.k_find_command.specs.Listing.{IsKFound}
use Rattle.k_find_command.proofs.finding.k_find.Goals as goal

pub returns-in_err-sources : goal.returns-in_err-sources
returns-in_err-sources g c =
    let p = err_from_is_err_and c.from_residual.result c.from_residual.ensures.1 in
    rw (p.1, p.2) (stops-early (g.F.Files.store c.args.files.now) (g.F.Files.store c.read_sources.new.files) [] (file_words 1 c.args.names.now) (λ held. IfAccepted (IsKFound c.args.request.now c.args.k)) c.in_err-sources.field-0.0 c.in_err-sources.ensures.passes)

pub returns-in_err-reply : goal.returns-in_err-reply
returns-in_err-reply g c =
    let p = err_from_is_err_and c.from_residual-in_err-reply.result c.from_residual-in_err-reply.ensures.1 in
    rw (p.1, p.2) (stops-over (g.F.Files.store c.args.files.now) (g.F.Files.store c.read_sources.new.files) [] (file_words 1 c.args.names.now) (λ held. IfAccepted (IsKFound c.args.request.now c.args.k)) c.in_ok-sources.sources c.in_err-reply.field-0.0
    c.in_ok-sources.ensures.passes c.in_err-reply.ensures)

pub returns : goal.returns
returns g c = inr (record { sources = c.in_ok-sources.sources; are = c.in_ok-sources.ensures.passes; next = c.in_ok-reply.ensures })
