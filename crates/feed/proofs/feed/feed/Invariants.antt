use Rattle.std.proofs.Common.{◌≡◌, ◌+◌, ◌-◌, ◌≤◌, length}
use Rattle.history.specs.Histories.{History}
use Rattle.book.specs.View.{view}
use Rattle.feed.specs.Feeding.{fed, feeding}
use Rattle.feed.proofs.feed.feed.Given as goal

-- what remains gives the whole feed, with some calls made so far
abbrev pub invariant-loop-left : goal.invariant-loop-left
invariant-loop-left l = record {
  within : l.groups + length l.left ≤ length l.words;
  whole : (made : History) × (feeding l.words (view l.initial.book) ≡ fed l.left 0 (length l.words - length l.left) l.groups (view l.book) made);
}

abbrev pub decreases-loop-left : goal.decreases-loop-left
decreases-loop-left l = length l.left
