use Rattle.std.proofs.Common.{◌≡◌, ℕ, ◌+◌, ◌-◌, ◌≤◌, length, get_or, take, drop, ap, ◌∙◌, arith, rules}
use Rattle.std.proofs.lemmas.Result.{err_from_is_err_and}
use Rattle.std.proofs.lemmas.List.{take_rest, length-drop}
use Rattle.book.specs.View.{view}
use Rattle.feed.specs.Feeding.{fed, feeding}
use Rattle.feed.specs.Reading.{group_call}
use Rattle.feed.proofs.Fed.{head_rest, fed_more, fed_ends, fed_all, feeding_lived}
use Rattle.feed.proofs.Made.{group_made, group_unread}
use Rattle.feed.proofs.Rests.{feeding_rests}
use Rattle.feed.proofs.feed.feed.Goals as goal

pub returns-in_err-read : goal.returns-in_err-read
returns-in_err-read c =
    let p = err_from_is_err_and c.from_residual.result c.from_residual.ensures.1 in
    let ws = c.loop-left.left.now in
    let rest = take (length ws - 1) (drop 1 ws) in
    let i = length c.args.words.now - length ws in
    let f = c.in_err-read.field-0.0 in
    let s = view c.args.book.now in
    let t = view c.loop-left.book in
    let so = c.loop-left.invariant.whole in
    let some : 1 ≤ length ws = search rules in
    let g = group_unread i (get_or ws 0 0) rest f t c.in_err-read.ensures.read in
    let e = fed_ends ws (get_or ws 0 0) rest f i c.loop-left.groups t t so.0 (feeding c.args.words.now s) (head_rest ws some) g.0 g.1 so.1 in
    rw (p.1, p.2) (record { answer = e.0; after = e.1; history = feeding_lived c.args.words.now s t e.1; rests = feeding_rests c.args.words.now s t e.1 })

pub returns-in_err-count : goal.returns-in_err-count
returns-in_err-count c =
    let p = err_from_is_err_and c.from_residual-in_err-count.result c.from_residual-in_err-count.ensures.1 in
    let ws = c.loop-left.left.now in
    let rest = take (length ws - 1) (drop 1 ws) in
    let i = length c.args.words.now - length ws in
    let f = c.in_err-count.field-0.0 in
    let s = view c.args.book.now in
    let m = view c.loop-left.book in
    let t = view c.make.new.book in
    let so = c.loop-left.invariant.whole in
    let some : 1 ≤ length ws = search rules in
    let read = c.in_ok-read.ensures.read in
    let g = group_made i _ _ (get_or ws 0 0) rest _ m t (group_call c.in_ok-read.field-0) read.0 read.1.0 read.2 c.in_err-count.ensures.answer c.in_err-count.ensures.after in
    let e = fed_ends ws (get_or ws 0 0) rest f i c.loop-left.groups m t so.0 (feeding c.args.words.now s) (head_rest ws some) g.0 g.1 so.1 in
    rw (p.1, p.2) (record { answer = e.0; after = e.1; history = feeding_lived c.args.words.now s t e.1; rests = feeding_rests c.args.words.now s t e.1 })

pub loop-left-preserved : goal.loop-left-preserved
loop-left-preserved c =
    let ws = c.loop-left.left.now in
    let rest = take (length ws - 1) (drop 1 ws) in
    let i = length c.args.words.now - length ws in
    let count = c.in_ok-count.count in
    let left = take (length rest - count) (drop count rest) in
    let m = view c.loop-left.book in
    let t = view c.make.new.book in
    let so = c.loop-left.invariant.whole in
    let some : 1 ≤ length ws = search rules in
    let split = head_rest ws some in
    let read = c.in_ok-read.ensures.read in
    let within : count ≤ length rest = omega (arith, read.1.0, read.1.1, c.in_ok-count.ensures.count) in
    let size : length left ≡ length rest - count = ap length (take_rest rest count) ∙ length-drop count rest in
    let index : i + (1 + count) ≡ length c.args.words.now - length left = omega (arith, ap length split, size, within, c.loop-left.invariant.within) in
    let g = group_made i _ _ (get_or ws 0 0) rest _ m t (group_call c.in_ok-read.field-0) read.0 read.1.0 read.2 c.in_ok-count.ensures.answer c.in_ok-count.ensures.after in
    let more = fed_more ws (get_or ws 0 0) rest left count i c.loop-left.groups m t so.0 (feeding c.args.words.now (view c.args.book.now)) split (take_rest rest count) g.0 g.1 so.1 in
    record {
      within = omega (arith, ap length split, size, within, c.loop-left.invariant.within);
      whole = (more.0, more.1 ∙ ap (λ (j : ℕ). fed left 0 j (c.loop-left.groups + 1) t more.0) index);
    }

pub returns : goal.returns
returns c =
    let ws = c.loop-left.left.now in
    let s = view c.args.book.now in
    let t = view c.loop-left.book in
    let so = c.loop-left.invariant.whole in
    let none : length ws ≤ 0 = search rules in
    let e = fed_all ws _ c.loop-left.groups t so.0 (feeding c.args.words.now s) none so.1 in
    record { answer = e.0; after = e.1; history = feeding_lived c.args.words.now s t e.1; rests = feeding_rests c.args.words.now s t e.1 }
