use Rattle.std.proofs.Common.{◌≡◌, true, false, is_some, sym, refl, ap, ◌∙◌}
use Rattle.std.proofs.lemmas.Result.{err_from_is_err_and}
use Rattle.std.proofs.lemmas.Bool.{cond-true, cond-false}
use Rattle.terms.specs.declared.refusal.Refusal.TheVariants.{NotEnrolled, NoFreeSlot}
use Rattle.table.specs.Rows.{known}
use Rattle.history.specs.Calls.{enter, qse_of, done}
use Rattle.history.proofs.Calling.{called_refused, called_granted}
use Rattle.book.specs.View.{view}
use Rattle.book.proofs.Entering.{with_table_lem, enter_refused, enter_not_enrolled, enter_no_slot, enter_granted, entered_sound, enter_carried}
use Rattle.admission.proofs.Passing.{went_ok, went_err}
use Rattle.book.proofs.book.Book.enter.Goals as goal

pub returns-in_err-class : goal.returns-in_err-class
returns-in_err-class c =
    let p = err_from_is_err_and c.from_residual.result c.from_residual.ensures.1 in
    let s = view c.args.self.now in
    rw (p.1, p.2) (record { called = called_refused s _ (enter c.args.resource c.args.qse c.args.class c.args.figures) _ (enter_refused s c.args.resource c.args.qse c.args.class c.args.figures _ c.in_err-class.ensures.tested) refl })

pub returns-then-is_none : goal.returns-then-is_none
returns-then-is_none c =
    let b = c.args.self.now in
    let s = view b in
    let k : known qse_of c.args.qse s.qses ≡ false = sym (ap is_some (c.get.ensures.answer b.accounting.1)) ∙ c.if-is_none.ensures in
    record { called = called_refused s _ (enter c.args.resource c.args.qse c.args.class c.args.figures) NotEnrolled (enter_not_enrolled s c.args.resource c.args.qse c.args.class c.args.figures c.in_ok-class.ensures.tested.0 k) refl }

-- the row that is put is sound, so the table of resources stays so, as large as it was
pub invariant_of-self : goal.invariant_of-self
invariant_of-self c =
    let b = c.args.self.now in
    let r = entered_sound (view b) c.args.resource c.args.qse c.args.class c.args.figures c.in_ok-class.class c.in_ok-class.ensures.tested.0 in
    record { accounting = b.accounting; resourcing = c.put.ensures.sound b.resourcing r; keeping = b.keeping; few_qses = b.few_qses; few_resources = rw c.put.ensures.capacity b.few_resources }

pub returns-in-Ok : goal.returns-in-Ok
returns-in-Ok c =
    let b = c.args.self.now in
    let s = view b in
    let t = c.in_ok-class.ensures.tested in
    let k : known qse_of c.args.qse s.qses ≡ true = sym (ap is_some (c.get.ensures.answer b.accounting.1)) ∙ c.if-is_none.ensures in
    let o = went_ok _ _ _ _ (c.in-Ok.ensures.answer b.resourcing.1) in
    record { called = called_granted s _ (enter c.args.resource c.args.qse c.args.class c.args.figures) done (enter_granted s c.args.resource c.args.qse c.args.class c.args.figures t.0 k o) refl (with_table_lem s _ _ _ c.put.ensures.capacity (c.put.ensures.after b.resourcing.1 ∙ cond-true _ _ _ o) ∙ enter_carried s c.args.resource c.args.qse c.args.class c.args.figures c.in_ok-class.class t.1) }

pub returns-in-Err : goal.returns-in-Err
returns-in-Err c =
    let b = c.args.self.now in
    let s = view b in
    let t = c.in_ok-class.ensures.tested in
    let k : known qse_of c.args.qse s.qses ≡ true = sym (ap is_some (c.get.ensures.answer b.accounting.1)) ∙ c.if-is_none.ensures in
    let o = went_err _ _ _ _ (c.in-Err.ensures.answer b.resourcing.1) in
    record { called = called_refused s _ (enter c.args.resource c.args.qse c.args.class c.args.figures) NoFreeSlot (enter_no_slot s c.args.resource c.args.qse c.args.class c.args.figures t.0 k o) (with_table_lem s _ _ s.resources c.put.ensures.capacity (c.put.ensures.after b.resourcing.1 ∙ cond-false _ _ _ o)) }
