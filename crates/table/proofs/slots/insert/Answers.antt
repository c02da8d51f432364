-- The gap that the copy leaves takes the row.
use Rattle.std.proofs.Common.{◌+◌, take, set, ap, ◌∙◌}
use Rattle.table.proofs.Shift.{shifted_up}
use Rattle.table.proofs.slots.insert.Goals as goal

pub returns : goal.returns
returns g c =
    record { after = ap (λ ys. take (c.args.used + 1) (set ys c.args.place c.args.row)) c.copy_within.ensures.after ∙ shifted_up c.args.slots.now c.args.place c.args.used c.args.row c.requires.place c.requires.free }
