use Rattle.std.proofs.Common.{◌≡◌, not, ◌&&◌, is_ok, None, refl, ap, ◌∙◌, arith}
use Rattle.std.proofs.lemmas.Result.{err_from_is_err_and}
use Rattle.terms.specs.declared.refusal.Refusal.TheVariants.{DraftOpen, NumberOutOfRange, FigureOutOfRange, NotEnrolled}
use Rattle.terms.specs.declared.service.Service.{Service}
use Rattle.terms.specs.declared.service.ByService.{ByService}
use Rattle.market.specs.Shapes.{BareQuantities}
use Rattle.market.specs.Limits.{numbered, quantities_within}
use Rattle.terms.specs.Services.{service_of, with_service}
use Rattle.table.specs.Rows.{known}
use Rattle.table.specs.Tables.{rows, capacity}
use Rattle.history.specs.declared.account.Account.{Account}
use Rattle.history.specs.Accounts.{account_sound, account_kept}
use Rattle.history.specs.Calls.{quantities, qse_of, unless, with_quantities}
use Rattle.history.proofs.Calling.{called_refused}
use Rattle.book.specs.View.{view}
use Rattle.admission.proofs.Passing.{three_refuse}
use Rattle.book.proofs.Accounts.{supplied_sound, supplied_kept, put_kept, quantities_unknown, quantities_put}
use Rattle.book.proofs.book.Book.quantities.Goals as goal

pub returns-in_err-service : goal.returns-in_err-service
returns-in_err-service c =
    let p = err_from_is_err_and c.from_residual.result c.from_residual.ensures.1 in
    let s = view c.args.self.now in
    rw (p.1, p.2) (record { called = called_refused s _ (quantities c.args.qse c.args.service c.args.bare) _ (three_refuse (not s.drafted) (numbered c.args.qse) (is_ok (service_of c.args.service) && quantities_within c.args.bare) DraftOpen NumberOutOfRange FigureOutOfRange _ (unless (known qse_of c.args.qse s.qses) NotEnrolled None) c.in_err-service.ensures.tested) refl })

pub returns-in_default : goal.returns-in_default
returns-in_default c =
    let b = c.args.self.now in
    let t = c.in_ok-service.ensures.tested in
    record { called = called_refused (view b) _ (quantities c.args.qse c.args.service c.args.bare) NotEnrolled (quantities_unknown (view b) c.args.qse c.args.service c.args.bare c.get.result t.0 (c.get.ensures.answer b.accounting.1) c.in_default.is) refl }

-- the account that is put
given : (v : Service) (ten : BareQuantities) (q : ByService BareQuantities) (a : Account) → q ≡ with_service v ten a.row.quantities → record { row = record { number = a.row.number; load = a.row.load; quantities = q }; settled = a.settled; billed = a.billed; line = a.line } ≡ with_quantities v ten a
given v ten q a e = ap (λ (x : ByService BareQuantities). record { row = record { number = a.row.number; load = a.row.load; quantities = x }; settled = a.settled; billed = a.billed; line = a.line }) e

pub invariant_of-self : goal.invariant_of-self
invariant_of-self c =
    let b = c.args.self.now in
    let t = c.in_ok-service.ensures.tested in
    let a = c.in-Some.account in
    let v = c.in_ok-service.service in
    let found = c.get.ensures.answer b.accounting.1 in
    let made = given v c.args.bare c.set.new.self a c.set.ensures.after in
    let sound = supplied_sound c.args.qse v c.args.bare (rows b.accounts) c.get.result a found c.in-Some.is b.accounting.2 t.1.1 in
    let kept = supplied_kept c.args.qse v c.args.bare (rows b.accounts) c.get.result a found c.in-Some.is b.keeping sound in
    record { accounting = c.put.ensures.sound b.accounting (ap account_sound made ∙ sound); resourcing = b.resourcing; keeping = put_kept _ _ (rows b.accounts) _ (c.put.ensures.after b.accounting.1) b.keeping (ap account_kept made ∙ kept); few_qses = omega (arith, c.put.ensures.capacity, b.few_qses); few_resources = b.few_resources }

pub returns : goal.returns
returns c =
    let b = c.args.self.now in
    let t = c.in_ok-service.ensures.tested in
    let a = c.in-Some.account in
    let v = c.in_ok-service.service in
    record { called = quantities_put (view b) c.args.qse c.args.service (capacity c.put.new.self) v c.args.bare c.get.result a _ (rows c.put.new.self) t.0 t.1.0 (c.get.ensures.answer b.accounting.1) c.in-Some.is (given v c.args.bare c.set.new.self a c.set.ensures.after) (c.put.ensures.after b.accounting.1) c.put.ensures.capacity }
