use Rattle.std.proofs.Common.{◌≡◌, take, map, length, string_bytes}
use Rattle.command_words.proofs.words.names_of.Given as goal

abbrev pub invariant-loop-word : goal.invariant-loop-word
invariant-loop-word l = record {
  names : l.names ≡ map string_bytes (take l.word-index l.words);
  many : length l.names ≡ l.word-index;
}
