use Rattle.std.proofs.Common.{◌≡◌, ◌≤◌, ◌*◌, take, length}
use Rattle.circuit_spec.specs.Network.{elements_of}
use Rattle.replies.specs.Through.{Each}
use Rattle.file_words.specs.Reading.{IsDomain}
use Rattle.file_words.proofs.parsing.parse_files.Given as goal

abbrev pub invariant-loop-bytes : goal.invariant-loop-bytes
invariant-loop-bytes l = record {
  counted : l.number ≡ l.bytes-index;
  few : length (elements_of l.domains) ≤ 16777216 * l.bytes-index;
  passed : Each IsDomain (take l.bytes-index l.contents) l.domains;
}
