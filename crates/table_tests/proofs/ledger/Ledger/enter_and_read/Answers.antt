-- A row just put is found under its number.
use Rattle.std.proofs.Common.{arith}
use Rattle.std.proofs.lemmas.Grind.{common_steps}
use Rattle.table.specs.Tables.{rows}
use Rattle.table.proofs.Laws.{found_put_same}
use Rattle.table_tests.specs.Kinds.{meter_number}
use Rattle.table_tests.proofs.ledger.Ledger.enter_and_read.Goals as goal

pub returns : goal.returns
returns c = grind (arith, common_steps, found_put_same meter_number c.args.meter (rows c.args.self.now.meters))
