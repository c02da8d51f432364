-- A known number is overwritten, a new one entered where it belongs, or refused where no slot is free.
use Rattle.std.proofs.Common.{◌≡◌, ◌+◌, ◌<◌, true, false, length, take, set, Ok, Err, sym, refl, ◌∙◌, arith, length-set}
use Rattle.std.proofs.lemmas.Bool.{cond-true, cond-false}
use Rattle.table.specs.Rows.{Rising, located, fits, put}
use Rattle.table.specs.Tables.{rows, capacity}
use Rattle.table.proofs.Calls.{placed, fits_known, fits_free, fits_full, overwritten, entered, rising_from_put, sound_from_put}
use Rattle.table.proofs.table.Table.put.Goals as goal

pub returns-in-Ok : goal.returns-in-Ok
returns-in-Ok g c =
    let num = g.R.Numbered.number in
    let x = c.args.row in
    let t = c.args.self.now in
    let i = c.in-Ok.old in
    let at : Rising num (rows t) → located num (num x) (rows t) ≡ Ok i = placed num c.as_slice.result.now (rows t) c.key.result (num x) (Ok i) c.as_slice.ensures.answer c.key.ensures.answer c.in-Ok.ensures.answer in
    let fit : Rising num (rows t) → fits num (capacity t) (num x) (rows t) ≡ true = λ up. fits_known num (capacity t) x (rows t) i (at up) in
    let on : Rising num (rows t) → take t.len (set t.slots.now i x) ≡ put num x (rows t) = λ up. overwritten num t.slots.now t.len i x up (at up) in
    let kept : length (set t.slots.now i x) ≡ capacity t = length-set t.slots.now i x in
    record {
      answer = λ up. sym (cond-true _ _ _ (fit up));
      after = λ up. on up ∙ sym (cond-true _ _ _ (fit up));
      order = λ o. (omega (arith, o.0, kept), rising_from_put num (rows t) _ x (on o.1) o.1);
      sound = λ s p. let q = sound_from_put num g.R.Numbered.sound (rows t) _ x (on s.1) s.1 s.2 p in (omega arith, q.0, q.1);
      capacity = kept;
    }

pub returns-then-used-most : goal.returns-then-used-most
returns-then-used-most g c =
    let num = g.R.Numbered.number in
    let x = c.args.row in
    let t = c.args.self.now in
    let i = c.in-Err.place in
    let at : Rising num (rows t) → located num (num x) (rows t) ≡ Err i = placed num c.as_slice.result.now (rows t) c.key.result (num x) (Err i) c.as_slice.ensures.answer c.key.ensures.answer c.in-Err.ensures.answer in
    let unfit : Rising num (rows t) → fits num (capacity t) (num x) (rows t) ≡ false = λ up. fits_full num (capacity t) x (rows t) i (omega arith) (at up) in
    record {
      answer = λ up. sym (cond-false _ _ _ (unfit up));
      after = λ up. sym (cond-false _ _ _ (unfit up));
      order = λ o. o;
      sound = λ s _. s;
      capacity = refl;
    }

pub returns-else-used-most : goal.returns-else-used-most
returns-else-used-most g c =
    let num = g.R.Numbered.number in
    let x = c.args.row in
    let t = c.args.self.now in
    let i = c.in-Err.place in
    let used = c.len-used.result in
    let at : Rising num (rows t) → located num (num x) (rows t) ≡ Err i = placed num c.as_slice.result.now (rows t) c.key.result (num x) (Err i) c.as_slice.ensures.answer c.key.ensures.answer c.in-Err.ensures.answer in
    let room : used < capacity t = omega (arith, c.if-used-most.false) in
    let fit : fits num (capacity t) (num x) (rows t) ≡ true = fits_free num (capacity t) x (rows t) (omega arith) in
    let on : Rising num (rows t) → take (used + 1) c.insert.new.slots ≡ put num x (rows t) = λ up. entered num t.slots.now c.insert.new.slots t.len used i x c.len-used.ensures.answer c.insert.ensures.after (at up) in
    let kept : length c.insert.new.slots ≡ capacity t = c.insert.auto.slots in
    record {
      answer = λ _. sym (cond-true _ _ _ fit);
      after = λ up. on up ∙ sym (cond-true _ _ _ fit);
      order = λ o. (omega (arith, o.0, kept), rising_from_put num (rows t) _ x (on o.1) o.1);
      sound = λ s p. let q = sound_from_put num g.R.Numbered.sound (rows t) _ x (on s.1) s.1 s.2 p in (omega arith, q.0, q.1);
      capacity = kept;
    }
