-- The row at the place of the number is struck.
use Rattle.std.proofs.Common.{◌≡◌, ◌-◌, length, take, Ok, Err, sym, refl, arith}
use Rattle.std.proofs.lemmas.Bool.{cond-true, cond-false}
use Rattle.table.specs.Rows.{Rising, located, removed}
use Rattle.table.specs.Tables.{rows, capacity}
use Rattle.table.proofs.Calls.{placed, struck, rising_from_removed, sound_from_removed}
use Rattle.table.proofs.Laws.{removed_absent}
use Rattle.table.proofs.Places.{known_from_ok, new_from_err}
use Rattle.table.proofs.table.Table.remove.Goals as goal

pub returns : goal.returns
returns g c =
    let num = g.R.Numbered.number in
    let n = c.args.number in
    let t = c.args.self.now in
    let i = c.in-Ok.place in
    let used = c.len-used.result in
    let at : Rising num (rows t) → located num n (rows t) ≡ Ok i = placed num c.as_slice.result.now (rows t) n n (Ok i) c.as_slice.ensures.answer refl c.in-Ok.ensures.answer in
    let on : Rising num (rows t) → take (used - 1) c.strike.new.slots ≡ removed num n (rows t) = λ up. struck num t.slots.now c.strike.new.slots t.len used i n c.len-used.ensures.answer c.strike.ensures.after up (at up) in
    let kept : length c.strike.new.slots ≡ capacity t = c.strike.auto.slots in
    record {
      answer = λ up. sym (cond-true _ _ _ (known_from_ok num n (rows t) i (at up)).0);
      after = on;
      order = λ o. (omega (arith, o.0, kept), rising_from_removed num (rows t) _ n (on o.1) o.1);
      sound = λ s. let q = sound_from_removed num g.R.Numbered.sound (rows t) _ n (on s.1) s.1 s.2 in (omega arith, q.0, q.1);
      capacity = kept;
    }

pub returns-in_default : goal.returns-in_default
returns-in_default g c =
    let num = g.R.Numbered.number in
    let n = c.args.number in
    let t = c.args.self.now in
    let i = c.in_default.field-0 in
    let at : Rising num (rows t) → located num n (rows t) ≡ Err i = placed num c.as_slice.result.now (rows t) n n (Err i) c.as_slice.ensures.answer refl c.in_default.ensures.answer in
    record {
      answer = λ up. sym (cond-false _ _ _ (new_from_err num n (rows t) i (at up)).0);
      after = λ up. sym (removed_absent num n (rows t) (new_from_err num n (rows t) i (at up)).0);
      order = λ o. o;
      sound = λ s. s;
      capacity = refl;
    }
