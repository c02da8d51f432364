use Rattle.std.proofs.Common.{refl}
use Rattle.packing.proofs.Numerals.{on_digit, at_other, at_end, no_numeral, numeral}
use Rattle.packing.proofs.field.is_numeral.Goals as goal

pub loop-byte-init : goal.loop-byte-init
loop-byte-init c = refl

pub returns-then-not-is_ascii_digit : goal.returns-then-not-is_ascii_digit
returns-then-not-is_ascii_digit c =
    record { answer = no_numeral c.args.field.now _ c.as_bytes-byte-items.ensures.value (at_other _ _ c.loop-byte-test.true c.if-not-is_ascii_digit.ensures.value c.loop-byte.invariant) }

pub loop-byte-preserved : goal.loop-byte-preserved
loop-byte-preserved c = on_digit _ _ c.loop-byte-test.true c.if-not-is_ascii_digit.ensures.value c.loop-byte.invariant

pub returns : goal.returns
returns c =
    record { answer = numeral c.args.field.now _ _ c.as_bytes-byte-items.ensures.value (at_end _ _ c.loop-byte-test.false c.loop-byte.invariant) c.is_empty.ensures }
