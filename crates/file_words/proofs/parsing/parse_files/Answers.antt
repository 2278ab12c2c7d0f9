use Rattle.std.proofs.Common.{arith, ap, ◌+◌}
use Rattle.std.proofs.lemmas.Result.{err_from_is_err_and}
use Rattle.file_words.specs.Reading.{IsDomain, IsFaulty}
use Rattle.replies.proofs.Steps.{Each-step, Each-whole, Stops-at}
use Rattle.file_words.proofs.Few.{few-more}
use Rattle.file_words.proofs.parsing.parse_files.Goals as goal

pub loop-bytes-preserved : goal.loop-bytes-preserved
loop-bytes-preserved c = record {
  counted = omega arith;
  few = rw c.in_ok-push.ensures.ok (few-more c.loop-bytes.domains c.in_ok-parse_file.field-0 c.loop-bytes.bytes-index c.loop-bytes.invariant.few c.in_ok-parse_file.ensures.few);
  passed = rw c.in_ok-push.ensures.ok (Each-step IsDomain c.args.contents.now c.loop-bytes.domains c.loop-bytes.bytes-index c.bytes-item.result c.in_ok-parse_file.field-0
      c.bytes-item.is c.loop-bytes-test.true c.loop-bytes.invariant.passed c.in_ok-parse_file.ensures.passes);
}

pub returns-in_err-parse_file-clause-passes : goal.returns-in_err-parse_file-clause-passes
returns-in_err-parse_file-clause-passes c =
    let p = err_from_is_err_and c.from_residual.result c.from_residual.ensures.1 in
    rw (p.1, p.2) (Stops-at IsDomain IsFaulty c.args.contents.now c.loop-bytes.domains c.loop-bytes.bytes-index (c.loop-bytes.number + 1) c.bytes-item.result c.in_err-parse_file.field-0.0
    c.bytes-item.is c.loop-bytes-test.true (ap (λ n. n + 1) c.loop-bytes.invariant.counted) c.loop-bytes.invariant.passed c.in_err-parse_file.ensures.passes)

pub returns-clause-passes : goal.returns-clause-passes
returns-clause-passes c = Each-whole IsDomain c.args.contents.now c.loop-bytes.domains c.loop-bytes.bytes-index c.loop-bytes-test.false c.loop-bytes.invariant.passed
