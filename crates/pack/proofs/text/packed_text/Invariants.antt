use Rattle.std.proofs.Common.{◌≡◌, List, vec_items}
use Rattle.packing.specs.declared.group.Group.{Group}
use Rattle.packing.specs.Bytes.{bytes_of}
use Rattle.packing.specs.Whole.{words_of_groups}
use Rattle.pack.proofs.text.packed_text.Given as goal

-- the bytes so far are those of whole groups
abbrev pub invariant-loop-before : goal.invariant-loop-before
invariant-loop-before l = (gs : List Group) × (vec_items l.bytes ≡ bytes_of (words_of_groups gs))
