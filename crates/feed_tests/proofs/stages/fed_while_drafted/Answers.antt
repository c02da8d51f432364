-- A feed leaves the draft open and the book its number.
use Rattle.std.proofs.Common.{sym, ◌∙◌}
use Rattle.feed_tests.proofs.stages.fed_while_drafted.Goals as goal

pub drop_open-requires : goal.drop_open-requires
drop_open-requires c =
    let rests = c.feed-answer.ensures.rests in
    let taken = c.in_ok-draft.ensures.takes in
    record { takes = (rests.1 ∙ taken.0, taken.1 ∙ sym rests.0) }
