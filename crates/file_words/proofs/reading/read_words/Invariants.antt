use Rattle.std.proofs.Common.{◌≡◌, ◌≤◌, take, length}
use Rattle.replies.specs.Through.{Each}
use Rattle.file_words.specs.Reading.{IsRead}
use Rattle.file_words.proofs.reading.read_words.Given as goal

abbrev pub invariant-loop-word : goal.invariant-loop-word
invariant-loop-word g l = record {
  kept : (g.F.Files.store l.files).contents ≡ (g.F.Files.store l.fn.files).contents;
  reads : (g.F.Files.store l.fn.files).reads ≤ (g.F.Files.store l.files).reads;
  faults : (g.F.Files.store l.fn.files).faults ≤ (g.F.Files.store l.files).faults;
  many : length l.contents ≡ l.word-index;
  passed : Each (IsRead (g.F.Files.store l.fn.files)) (take l.word-index l.words) l.contents;
}
