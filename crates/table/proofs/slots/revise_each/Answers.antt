-- The next row is as it was, and takes its change.
use Rattle.std.proofs.Common.{◌≡◌, true, get_or, ap, ◌∙◌, add-one, arith}
use Rattle.std.proofs.Math.Seq.{map-set_same}
use Rattle.table.proofs.Revising.{revised_more, next_kept, sound_here}
use Rattle.table.proofs.slots.revise_each.Goals as goal

pub loop-place-preserved : goal.loop-place-preserved
loop-place-preserved g c =
    let change = g.V.Revision.revised c.args.revision.now in
    let xs = c.args.rows.now in
    let ys = c.loop-place.rows in
    let i = c.loop-place.place in
    let d = c.index-rows-place.result in (
      map-set_same g.R.Numbered.number ys i c.revise.new.row d c.revise.ensures.number ∙ c.loop-place.invariant.0,
      (λ s.
          let v = c.loop-place.invariant.1 s in
          let here : get_or ys i d ≡ get_or xs i d = ap (λ zs. get_or zs i d) v ∙ next_kept change 0 xs i d c.loop-place-test.true in
          let sound : g.R.Numbered.sound (get_or ys i d) ≡ true = rw here (sound_here g.R.Numbered.sound xs i d s c.loop-place-test.true) in
          let a = c.revise.ensures.after sound in
          let more = revised_more change 0 xs i i d (omega arith) c.loop-place-test.true in
          let o = add-one i in
          cc),
    )
