use Rattle.std.proofs.Common.{arith, ◌∙◌, refl, ◌+◌}
use Rattle.std.proofs.lemmas.Grind.{common_steps}
use Rattle.std.proofs.lemmas.Result.{err_from_is_err_and}
use Rattle.file_words.specs.Reading.{IsRead, IsRefused}
use Rattle.replies.proofs.Steps.{Each-step, Each-whole, Stops-at, Stops-so}
use Rattle.file_words.proofs.Stores.{GoesOn, IsRead-wide, IsRefused-wide}
use Rattle.file_words.proofs.reading.read_words.Goals as goal

pub loop-word-preserved : goal.loop-word-preserved
loop-word-preserved g c =
    let on : GoesOn (g.F.Files.store c.args.files.now) (g.F.Files.store c.loop-word.files) = record { kept = c.loop-word.invariant.kept; reads = c.loop-word.invariant.reads; faults = c.loop-word.invariant.faults } in
    record {
      kept = c.in_ok-read_word.ensures.kept ∙ c.loop-word.invariant.kept;
      reads = omega (arith, c.in_ok-read_word.ensures.reads, c.loop-word.invariant.reads);
      faults = omega (arith, c.in_ok-read_word.ensures.faults, c.loop-word.invariant.faults);
      many = grind (arith, common_steps);
      passed = rw c.in_ok-push.ensures.ok (Each-step (IsRead (g.F.Files.store c.args.files.now)) c.args.words.now c.loop-word.contents c.loop-word.word-index c.word-item.result c.in_ok-read_word.field-0
          c.word-item.is c.loop-word-test.true c.loop-word.invariant.passed (IsRead-wide _ (g.F.Files.store c.loop-word.files) c.word-item.result c.in_ok-read_word.field-0 on c.in_ok-read_word.ensures.read));
    }

pub returns-in_err-read_word-clause-passes : goal.returns-in_err-read_word-clause-passes
returns-in_err-read_word-clause-passes g c =
    let on : GoesOn (g.F.Files.store c.args.files.now) (g.F.Files.store c.loop-word.files) = record { kept = c.loop-word.invariant.kept; reads = c.loop-word.invariant.reads; faults = c.loop-word.invariant.faults } in
    let p = err_from_is_err_and c.from_residual.result c.from_residual.ensures.1 in
    rw (p.1, p.2) (Stops-at (IsRead (g.F.Files.store c.args.files.now)) (λ _. IsRefused (g.F.Files.store c.args.files.now) (g.F.Files.store c.read_word.new.files)) c.args.words.now c.loop-word.contents c.loop-word.word-index (c.loop-word.word-index + 1) c.word-item.result c.in_err-read_word.field-0.0
    c.word-item.is c.loop-word-test.true refl c.loop-word.invariant.passed
    (Stops-so {P = IsRefused (g.F.Files.store c.loop-word.files) (g.F.Files.store c.read_word.new.files) c.word-item.result} {Q = IsRefused (g.F.Files.store c.args.files.now) (g.F.Files.store c.read_word.new.files) c.word-item.result} c.in_err-read_word.field-0.0
    (λ answer r. IsRefused-wide _ (g.F.Files.store c.loop-word.files) _ c.word-item.result answer on r) c.in_err-read_word.ensures.read))

pub returns-clause-passes : goal.returns-clause-passes
returns-clause-passes g c = Each-whole (IsRead (g.F.Files.store c.args.files.now)) c.args.words.now c.loop-word.contents c.loop-word.word-index c.loop-word-test.false c.loop-word.invariant.passed
