use Rattle.std.proofs.Common.{[], ◌∷◌, ◌++◌}
use Rattle.packing.proofs.Joined.{group_more, packs}
use Rattle.pack.proofs.text.packed_text.Goals as goal

pub loop-before-init : goal.loop-before-init
loop-before-init c = ([], c.new-bytes.ensures.items)

pub loop-before-preserved-in_ok-append : goal.loop-before-preserved-in_ok-append
loop-before-preserved-in_ok-append c =
    let gs = c.loop-before.invariant.0 in
    let g = c.in-Some-read.group in
    (gs ++ (g ∷ []), group_more gs g _ _ c.loop-before.invariant.1 c.in_ok-append.ensures.appended)

pub loop-before-preserved : goal.loop-before-preserved
loop-before-preserved c = c.loop-before.invariant

pub returns : goal.returns
returns c = record { whole = (c.loop-before.invariant.0, packs c.loop-before.invariant.0 _ c.loop-before.invariant.1) }
