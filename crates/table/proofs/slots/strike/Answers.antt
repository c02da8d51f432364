-- The copy closes the gap.
use Rattle.std.proofs.Common.{◌-◌, take, ap, ◌∙◌}
use Rattle.table.proofs.Shift.{shifted_down}
use Rattle.table.proofs.slots.strike.Goals as goal

pub returns : goal.returns
returns g c =
    record { after = ap (take (c.args.used - 1)) c.copy_within.ensures.after ∙ shifted_down c.args.slots.now c.args.place c.args.used c.requires.place c.requires.within }
