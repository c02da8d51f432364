-- A table as the list of its rows.
use Rattle.std.specs.Prelude.{ℕ, ◌≤◌, Bool, List, length, take}
use Rattle.table.specs.Rows.{Rising, AllSound}
use Rattle.table.specs.declared.table.Absent.{Absent}
use Rattle.table.specs.declared.table.Full.{Full}
use Rattle.table.specs.declared.table.Misplaced.{Misplaced}
use Rattle.table.specs.declared.table.Table.{Table}

-- the rows in use
abbrev pub rows : {R : Type 0} → Table R → List R
rows t = take t.len t.slots.now

-- how many rows fit
abbrev pub capacity : {R : Type 0} → Table R → ℕ
capacity t = length t.slots.now

-- the part in use lies within the slots
abbrev pub Within : {R : Type 0} → Table R → Type 0
Within t = t.len ≤ capacity t

-- what a table keeps whatever the figures of its rows: the rows lie within its slots, and their numbers rise
abbrev pub InOrder : {R : Type 0} → (R → ℕ) → Table R → Type 0
InOrder num t = Within t × Rising num (rows t)

-- what a table of sound rows keeps: its rows lie within its slots, their numbers rise, and each is sound
abbrev pub Sound : {R : Type 0} → (R → ℕ) → (R → Bool) → Table R → Type 0
Sound num sound t = Within t × Rising num (rows t) × AllSound sound (rows t)

-- what a refused call answers
abbrev pub full : Full
full = record {}

abbrev pub absent : Absent
absent = record {}

abbrev pub misplaced : Misplaced
misplaced = record {}
