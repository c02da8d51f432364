-- What each turn leaves open.
use Rattle.table.proofs.Halving.{Narrowed}
use Rattle.table.proofs.slots.locate.Given as goal

abbrev pub invariant-loop-left : goal.invariant-loop-left
invariant-loop-left g l = Narrowed g.R.Numbered.number l.number l.held l.base l.left

abbrev pub decreases-loop-left : goal.decreases-loop-left
decreases-loop-left g l = l.left
