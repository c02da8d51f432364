-- A number that is found stands at its rank.
use Rattle.std.proofs.Common.{arith}
use Rattle.std.proofs.lemmas.Grind.{common_steps}
use Rattle.table.specs.Tables.{rows}
use Rattle.table.proofs.Places.{holds_at_rank}
use Rattle.table.proofs.table.Table.find.Goals as goal

pub returns-clause-there : goal.returns-clause-there
returns-clause-there g c up =
    let num = g.R.Numbered.number in
    let n = c.args.number in
    let held = rows c.args.self.now in
    let stands = holds_at_rank num n held up in
    let at = c.locate.ensures.answer (rw c.as_slice.ensures.answer up) in
    grind (arith, common_steps, stands, at)
