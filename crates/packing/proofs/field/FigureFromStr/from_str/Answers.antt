use Rattle.std.proofs.Common.{sym}
use Rattle.packing.proofs.Numerals.{unparsed}
use Rattle.packing.proofs.field.FigureFromStr.from_str.Goals as goal

pub returns-in-Err : goal.returns-in-Err
returns-in-Err c = unparsed c.args.field.now _ _ (sym c.if-not-is_numeral.ensures.answer) c.parse.ensures.value.0 c.in-Err.is
