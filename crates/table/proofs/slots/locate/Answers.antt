-- Each turn leaves a narrower part, and the row that is left says where the number stands.
use Rattle.std.proofs.Common.{◌≡◌, ◌+◌, ◌-◌, ◌/◌, ◌<◌, map, get_or, sym, arith}
use Rattle.table.proofs.Halving.{narrowed_up, narrowed_down, number_read, located_at, located_between}
use Rattle.table.proofs.slots.locate.Goals as goal
use Rattle.table.proofs.slots.locate.Goals.{then-key-number, else-key-number}

pub loop-left-preserved : goal.loop-left-preserved
loop-left-preserved g c =
    let num = g.R.Numbered.number in
    let rows = c.args.held.now in
    let base = c.loop-left.base in
    let left = c.loop-left.left in
    let read = number_read num rows (base + left / 2) c.index-held-base.result (omega arith) c.index-held-base.is in
    elim c.if-key-number.branch [
      | then-key-number w ↦ narrowed_up num c.args.number rows base left c.if-key-number.base c.loop-left.invariant c.loop-left-test.true w.base-is (omega (arith, w.if-key-number.true, c.key.ensures.answer))
      | else-key-number w ↦ narrowed_down num c.args.number rows base left c.if-key-number.base c.loop-left.invariant c.loop-left-test.true w.base-is (omega (arith, w.if-key-number.false, c.key.ensures.answer))
    ]

pub returns-then-key-number-2-clause-answer : goal.returns-then-key-number-2-clause-answer
returns-then-key-number-2-clause-answer g c =
    let num = g.R.Numbered.number in
    let rows = c.args.held.now in
    let base = c.loop-left.base in
    let read = number_read num rows base c.index-held-base-2.result (omega arith) c.index-held-base-2.is in
    λ up. sym (located_at num c.args.number rows base up (omega arith) (omega (arith, c.key-key.ensures.answer)))

pub returns-then-key-number-3-clause-answer : goal.returns-then-key-number-3-clause-answer
returns-then-key-number-3-clause-answer g c =
    let num = g.R.Numbered.number in
    let rows = c.args.held.now in
    let base = c.loop-left.base in
    let read = number_read num rows base c.index-held-base-2.result (omega arith) c.index-held-base-2.is in
    let last : base + 1 - 1 ≡ base = omega arith in
    let one : base + 1 ≡ base + c.loop-left.left = omega arith in
    λ up. sym (located_between num c.args.number rows (base + 1) up (omega arith) (λ _. rw last (omega (arith, c.key-key.ensures.answer))) (λ l. rw one (c.loop-left.invariant.3 up (omega arith))))

pub returns-else-key-number-3-clause-answer : goal.returns-else-key-number-3-clause-answer
returns-else-key-number-3-clause-answer g c =
    let num = g.R.Numbered.number in
    let rows = c.args.held.now in
    let base = c.loop-left.base in
    let read = number_read num rows base c.index-held-base-2.result (omega arith) c.index-held-base-2.is in
    let above : c.args.number < get_or (map num rows) base 0 = omega (arith, c.key-key.ensures.answer, c.if-key-number-2.false) in
    λ up. sym (located_between num c.args.number rows base up (omega arith) (λ p. absurd (omega (arith, c.loop-left.invariant.2 p))) (λ l. above))
