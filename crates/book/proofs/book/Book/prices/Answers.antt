use Rattle.std.proofs.Common.{◌≡◌, refl, ap, ◌∙◌}
use Rattle.std.proofs.lemmas.Result.{err_from_is_err_and}
use Rattle.terms.specs.declared.service.ByService.{ByService}
use Rattle.market.specs.Shapes.{BareServicePrices}
use Rattle.market.specs.Bare.{bare_service_prices}
use Rattle.terms.specs.Services.{each, with_service}
use Rattle.terms.proofs.Settings.{each_with}
use Rattle.history.specs.Calls.{prices, with_prices}
use Rattle.history.proofs.Calling.{called_refused, called_granted}
use Rattle.book.specs.View.{view}
use Rattle.book.proofs.Carried.{prices_carried}
use Rattle.book.proofs.book.Book.prices.Goals as goal

pub returns-in_err-service : goal.returns-in_err-service
returns-in_err-service c =
    let p = err_from_is_err_and c.from_residual.result c.from_residual.ensures.1 in
    rw (p.1, p.2) (record { called = called_refused (view c.args.self.now) _ (prices c.args.service c.args.bare) _ c.in_err-service.ensures.tested refl })

pub returns : goal.returns
returns c =
    let t = c.in_ok-service.ensures.tested in
    let s = view c.args.self.now in
    let v = c.in_ok-service.service in
    let set : each bare_service_prices c.set.new.self ≡ with_service v c.args.bare s.prices.services = ap (each bare_service_prices) c.set.ensures.after ∙ each_with bare_service_prices v c.in_ok-service.prices c.args.self.now.prices.services ∙ ap (λ b. with_service v b s.prices.services) t.1.1 in
    record { called = called_granted s _ (prices c.args.service c.args.bare) _ t.0 refl (ap (λ (x : ByService BareServicePrices). with_prices (record { services = x; intervals = s.prices.intervals }) s) set ∙ prices_carried s c.args.service v c.args.bare t.1.0) }
