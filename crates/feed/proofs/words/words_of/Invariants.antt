use Rattle.std.proofs.Common.{◌≡◌, ◌++◌, ◌≤◌, length, take, drop}
use Rattle.feed.specs.Words.{words_of}
use Rattle.feed.proofs.words.words_of.Given as goal

-- the first words are written, and the room after them is as it was
abbrev pub invariant-loop-made : goal.invariant-loop-made
invariant-loop-made l = record {
  some : l.made ≤ length (words_of l.bytes);
  written : l.words ≡ take l.made (words_of l.bytes) ++ drop l.made l.initial.words;
}
