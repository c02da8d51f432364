use Rattle.std.proofs.Common.{◌≡◌, ◌++◌, take, vec_items}
use Rattle.packing.specs.Bytes.{bytes_of}
use Rattle.pack.proofs.text.append.Given as goal

-- the words so far are appended
abbrev pub invariant-loop-word : goal.invariant-loop-word
invariant-loop-word l = vec_items l.bytes ≡ vec_items l.initial.bytes ++ bytes_of (take l.word-index l.word-items)
