use Rattle.std.proofs.Common.{◌≡◌, ◌++◌, map, take, drop}
use Rattle.table.specs.Rows.{AllSound, revised}
use Rattle.table.proofs.slots.revise_each.Given as goal

-- every row has its number, and of sound rows those before the place are changed
abbrev pub invariant-loop-place : goal.invariant-loop-place
invariant-loop-place g l =
    (map g.R.Numbered.number l.rows ≡ map g.R.Numbered.number l.initial.rows)
    × (AllSound g.R.Numbered.sound l.initial.rows → l.rows ≡ revised (g.V.Revision.revised l.revision) 0 (take l.place l.initial.rows) ++ drop l.place l.initial.rows)
