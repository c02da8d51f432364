use Rattle.std.proofs.Common.{◌≡◌, drop}
use Rattle.std.specs.Str.{all_ascii_digits}
use Rattle.packing.proofs.field.is_numeral.Given as goal

-- the bytes so far are digits, so those ahead decide
abbrev pub invariant-loop-byte : goal.invariant-loop-byte
invariant-loop-byte l = all_ascii_digits l.byte-items ≡ all_ascii_digits (drop l.byte-index l.byte-items)
