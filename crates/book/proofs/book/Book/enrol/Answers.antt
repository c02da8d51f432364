use Rattle.std.proofs.Common.{not, None, refl, ap, ◌∙◌, arith}
use Rattle.std.proofs.lemmas.Result.{err_from_is_err_and}
use Rattle.terms.specs.declared.refusal.Refusal.TheVariants.{DraftOpen, NumberOutOfRange, FigureOutOfRange, NoFreeSlot}
use Rattle.market.specs.Limits.{numbered, load_within}
use Rattle.table.specs.Rows.{fits}
use Rattle.table.specs.Tables.{rows, capacity}
use Rattle.history.specs.Accounts.{account_sound, account_kept}
use Rattle.history.specs.Calls.{enrol, qse_of, unless}
use Rattle.history.proofs.Calling.{called_refused}
use Rattle.book.specs.View.{view}
use Rattle.admission.proofs.Passing.{three_refuse}
use Rattle.book.proofs.Accounts.{enrolled_sound, enrolled_kept, put_kept, enrol_put, enrol_full}
use Rattle.book.proofs.book.Book.enrol.Goals as goal

pub returns-in_err-tested_enrol : goal.returns-in_err-tested_enrol
returns-in_err-tested_enrol c =
    let p = err_from_is_err_and c.from_residual.result c.from_residual.ensures.1 in
    let s = view c.args.self.now in
    rw (p.1, p.2) (record { called = called_refused s _ (enrol c.args.qse c.args.load) _ (three_refuse (not s.drafted) (numbered c.args.qse) (load_within c.args.load) DraftOpen NumberOutOfRange FigureOutOfRange _ (unless (fits qse_of s.qse_slots c.args.qse s.qses) NoFreeSlot None) c.in_err-tested_enrol.ensures.tested) refl })

pub invariant_of-self : goal.invariant_of-self
invariant_of-self c =
    let b = c.args.self.now in
    let t = c.in_ok-tested_enrol.ensures.tested in
    let found = c.get.ensures.answer b.accounting.1 in
    let made = c.enrolled-account.ensures.answer in
    let sound = enrolled_sound c.args.qse c.args.load (rows b.accounts) c.get.result found b.accounting.2 t.1.0 t.1.1 in
    let kept = enrolled_kept c.args.qse c.args.load (rows b.accounts) c.get.result found b.keeping sound in
    record { accounting = c.put.ensures.sound b.accounting (ap account_sound made ∙ sound); resourcing = b.resourcing; keeping = put_kept c.enrolled-account.result _ (rows b.accounts) _ (c.put.ensures.after b.accounting.1) b.keeping (ap account_kept made ∙ kept); few_qses = omega (arith, c.put.ensures.capacity, b.few_qses); few_resources = b.few_resources }

pub returns-in-Ok : goal.returns-in-Ok
returns-in-Ok c =
    let b = c.args.self.now in
    let t = c.in_ok-tested_enrol.ensures.tested in
    record { called = enrol_put (view b) c.args.qse c.args.load (capacity c.put.new.self) c.get.result c.enrolled-account.result (rows c.put.new.self) c.put.result t.0 (c.get.ensures.answer b.accounting.1) c.enrolled-account.ensures.answer c.in-Ok.is (c.put.ensures.answer b.accounting.1) (c.put.ensures.after b.accounting.1) c.put.ensures.capacity }

pub returns-in-Err : goal.returns-in-Err
returns-in-Err c =
    let b = c.args.self.now in
    let t = c.in_ok-tested_enrol.ensures.tested in
    record { called = enrol_full (view b) c.args.qse c.args.load (capacity c.put.new.self) c.get.result c.enrolled-account.result (rows c.put.new.self) c.put.result _ t.0 (c.get.ensures.answer b.accounting.1) c.enrolled-account.ensures.answer c.in-Err.is (c.put.ensures.answer b.accounting.1) (c.put.ensures.after b.accounting.1) c.put.ensures.capacity }
