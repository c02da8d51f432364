-- The row of a number stands at its place.
use Rattle.std.proofs.Common.{◌≡◌, ◌<◌, length, Ok, refl, ◌∙◌, arith}
use Rattle.std.proofs.lemmas.Grind.{common_steps}
use Rattle.std.proofs.lemmas.Option.{slice_get_read}
use Rattle.table.specs.Tables.{rows}
use Rattle.table.proofs.Calls.{placed}
use Rattle.table.proofs.Places.{found_at}
use Rattle.table.proofs.table.Table.get.Goals as goal

pub returns : goal.returns
returns g c =
    let num = g.R.Numbered.number in
    let n = c.args.number in
    let held = rows c.args.self.now in
    let i = c.in_ok-there.there in
    let e = c.as_slice-held.ensures.answer in
    let at : c.locate.result ≡ Ok i = grind (arith, common_steps, c.in_ok-there.ensures.value) in
    let l : i < length c.as_slice-held.result.now = grind (arith, common_steps, c.locate.ensures.within) in
    let read = slice_get_read c.as_slice-held.result.now _ i c.index-held-there.result refl l c.index-held-there.is in
    record {
      answer = λ up.
          let f = found_at num n held i up (placed num c.as_slice-held.result.now held n n c.locate.result e refl c.locate.ensures.answer up ∙ at) in
          cc;
    }
