use Rattle.std.proofs.lemmas.Result.{err_from_is_err_and}
use Rattle.file_words.proofs.Own.{Each-wide, own-stop, file-stop}
use Rattle.file_words.proofs.Stores.{GoesOn}
use Rattle.file_words.proofs.reading.read_all.Goals as goal

pub returns-in_err-held-clause-passes : goal.returns-in_err-held-clause-passes
returns-in_err-held-clause-passes g c =
    let p = err_from_is_err_and c.from_residual.result c.from_residual.ensures.1 in
    rw (p.1, p.2) (own-stop (g.F.Files.store c.args.files.now) (g.F.Files.store c.read_words.new.files) c.args.own.now c.args.words.now c.in_err-held.field-0.0 c.in_err-held.ensures.passes)

pub returns-in_err-contents-clause-passes : goal.returns-in_err-contents-clause-passes
returns-in_err-contents-clause-passes g c =
    let on : GoesOn (g.F.Files.store c.args.files.now) (g.F.Files.store c.read_words.new.files) = record { kept = c.in_ok-held.ensures.kept; reads = c.in_ok-held.ensures.reads; faults = c.in_ok-held.ensures.faults } in
    let p = err_from_is_err_and c.from_residual-in_err-contents.result c.from_residual-in_err-contents.ensures.1 in
    rw (p.1, p.2) (file-stop (g.F.Files.store c.args.files.now) (g.F.Files.store c.read_words.new.files) (g.F.Files.store c.read_words-2.new.files) c.args.own.now c.args.words.now c.in_ok-held.held
    c.in_err-contents.field-0.0 on c.in_ok-held.ensures.passes c.in_err-contents.ensures.passes)

pub returns-clause-passes : goal.returns-clause-passes
returns-clause-passes g c =
    let on : GoesOn (g.F.Files.store c.args.files.now) (g.F.Files.store c.read_words.new.files) = record { kept = c.in_ok-held.ensures.kept; reads = c.in_ok-held.ensures.reads; faults = c.in_ok-held.ensures.faults } in
    record {
      held = c.in_ok-held.ensures.passes;
      contents = Each-wide (g.F.Files.store c.args.files.now) (g.F.Files.store c.read_words.new.files) c.args.words.now c.in_ok-contents.contents on c.in_ok-contents.ensures.passes;
    }
