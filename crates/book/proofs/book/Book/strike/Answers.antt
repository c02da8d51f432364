use Rattle.std.proofs.Common.{refl, ◌∙◌}
use Rattle.std.proofs.lemmas.Result.{err_from_is_err_and}
use Rattle.terms.specs.declared.refusal.Refusal.TheVariants.{NoSuchResource}
use Rattle.table.proofs.Laws.{removed_absent}
use Rattle.history.specs.Calls.{strike, resource_of, done}
use Rattle.history.proofs.Calling.{called_refused, called_granted}
use Rattle.book.specs.View.{view}
use Rattle.book.proofs.Entering.{with_table_lem, strike_refused, strike_granted, strike_absent}
use Rattle.admission.proofs.Passing.{went_ok, went_err}
use Rattle.book.proofs.book.Book.strike.Goals as goal

pub returns-in_err-tested_strike : goal.returns-in_err-tested_strike
returns-in_err-tested_strike c =
    let p = err_from_is_err_and c.from_residual.result c.from_residual.ensures.1 in
    let s = view c.args.self.now in
    rw (p.1, p.2) (record { called = called_refused s _ (strike c.args.resource) _ (strike_refused s c.args.resource _ c.in_err-tested_strike.ensures.tested) refl })

pub returns-in-Ok : goal.returns-in-Ok
returns-in-Ok c =
    let b = c.args.self.now in
    let n = c.args.resource in
    let s = view b in
    let k = went_ok _ _ _ _ (c.in-Ok.ensures.answer b.resourcing.1) in
    record { called = called_granted s _ (strike n) done (strike_granted s n c.in_ok-tested_strike.ensures.tested.0 k) refl (with_table_lem s _ _ _ c.remove.ensures.capacity (c.remove.ensures.after b.resourcing.1)) }

pub returns-in-Err : goal.returns-in-Err
returns-in-Err c =
    let b = c.args.self.now in
    let n = c.args.resource in
    let s = view b in
    let k = went_err _ _ _ _ (c.in-Err.ensures.answer b.resourcing.1) in
    record { called = called_refused s _ (strike n) NoSuchResource (strike_absent s n c.in_ok-tested_strike.ensures.tested.0 k) (with_table_lem s _ _ s.resources c.remove.ensures.capacity (c.remove.ensures.after b.resourcing.1 ∙ removed_absent resource_of n s.resources k)) }
