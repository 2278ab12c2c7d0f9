use Rattle.std.proofs.Common.{◌≡◌, take, length}
use Rattle.file_words.specs.Reading.{file_words}
use Rattle.file_words.proofs.reading.file_words.Given as goal

abbrev pub invariant-loop-name : goal.invariant-loop-name
invariant-loop-name l = record {
  counted : l.number ≡ l.name-index;
  many : length l.words ≡ l.name-index;
  made : l.words ≡ file_words 1 (take l.name-index l.names);
}
