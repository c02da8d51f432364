-- A row of the number at its place is overwritten.
use Rattle.std.proofs.Common.{◌≡◌, ◌<◌, true, false, length, take, set, sym, refl, ap, ◌∙◌, arith, length-set}
use Rattle.std.proofs.lemmas.Option.{slice_get_past}
use Rattle.std.proofs.lemmas.Bool.{cond-true, cond-false}
use Rattle.std.specs.List.{slice_get}
use Rattle.table.specs.Rows.{Rising, holds, put}
use Rattle.table.specs.Tables.{rows, capacity}
use Rattle.table.proofs.Calls.{overwritten, in_use, in_use_located, holds_same, holds_other, holds_none, rising_from_put, sound_from_put}
use Rattle.table.proofs.table.Table.update.Goals as goal
use Rattle.table.proofs.table.Table.update.Goals.{else-place-len-via-then-place-len+else-key, else-place-len-via-else-place-len}

pub returns-then-key : goal.returns-then-key
returns-then-key g c =
    let num = g.R.Numbered.number in
    let x = c.args.row in
    let t = c.args.self.now in
    let i = c.args.place in
    let old = c.index-self-place.result in
    let same : num old ≡ num x = omega (arith, ap num c.index-self-place.is, c.key.ensures.answer, c.key-then-place-len.ensures.answer, c.if-key.true) in
    let l : i < length (rows t) = omega (arith, c.if-place-len.true, c.len.ensures.answer) in
    let stands : holds num (num x) (slice_get (rows t) i) ≡ true = holds_same num (num x) (slice_get (rows t) i) old (in_use num t.slots.now t.len i old l c.index-self-place.is) same in
    let on : Rising num (rows t) → take t.len (set t.slots.now i x) ≡ put num x (rows t) = λ up. overwritten num t.slots.now t.len i x up (in_use_located num t.slots.now t.len i old x l c.index-self-place.is same up) in
    let kept : length (set t.slots.now i x) ≡ capacity t = length-set t.slots.now i x in
    record {
      answer = sym (cond-true _ _ _ stands);
      after = λ up. on up ∙ sym (cond-true _ _ _ stands);
      order = λ o. (omega (arith, o.0, kept), rising_from_put num (rows t) _ x (on o.1) o.1);
      sound = λ s p. let q = sound_from_put num g.R.Numbered.sound (rows t) _ x (on s.1) s.1 s.2 p in (omega arith, q.0, q.1);
      capacity = kept;
    }

pub returns-else-place-len : goal.returns-else-place-len
returns-else-place-len g c =
    let num = g.R.Numbered.number in
    let x = c.args.row in
    let t = c.args.self.now in
    let i = c.args.place in
    let fails : holds num (num x) (slice_get (rows t) i) ≡ false =
    elim c.else-place-len.branch [
      | else-place-len-via-then-place-len+else-key w ↦ holds_other num (num x) (slice_get (rows t) i) w.index-self-place.result (in_use num t.slots.now t.len i w.index-self-place.result (omega (arith, w.if-place-len.true, c.len.ensures.answer)) w.index-self-place.is) (λ e. w.if-key.false (w.key.ensures.answer ∙ sym (ap num w.index-self-place.is) ∙ e ∙ sym w.key-then-place-len.ensures.answer))
      | else-place-len-via-else-place-len w ↦ holds_none num (num x) (slice_get (rows t) i) (slice_get_past (rows t) i (omega (arith, w.if-place-len.false, c.len.ensures.answer)))
    ] in
    record {
      answer = sym (cond-false _ _ _ fails);
      after = λ _. sym (cond-false _ _ _ fails);
      order = λ o. o;
      sound = λ s _. s;
      capacity = refl;
    }
