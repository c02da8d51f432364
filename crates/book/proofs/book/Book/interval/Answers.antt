use Rattle.std.proofs.Common.{◌≡◌, refl, ap, ◌∙◌}
use Rattle.std.proofs.lemmas.Result.{err_from_is_err_and}
use Rattle.terms.specs.declared.interval.ByInterval.{ByInterval}
use Rattle.market.specs.Shapes.{BareIntervalPrices}
use Rattle.market.specs.Bare.{bare_interval_prices}
use Rattle.terms.specs.Intervals.{each_interval, with_interval}
use Rattle.terms.proofs.Settings.{each_with_interval}
use Rattle.history.specs.Calls.{interval, with_prices}
use Rattle.history.proofs.Calling.{called_refused, called_granted}
use Rattle.book.specs.View.{view}
use Rattle.book.proofs.Carried.{interval_carried}
use Rattle.book.proofs.book.Book.interval.Goals as goal

pub returns-in_err-interval : goal.returns-in_err-interval
returns-in_err-interval c =
    let p = err_from_is_err_and c.from_residual.result c.from_residual.ensures.1 in
    rw (p.1, p.2) (record { called = called_refused (view c.args.self.now) _ (interval c.args.interval c.args.bare) _ c.in_err-interval.ensures.tested refl })

pub returns : goal.returns
returns c =
    let t = c.in_ok-interval.ensures.tested in
    let s = view c.args.self.now in
    let v = c.in_ok-interval.interval in
    let set : each_interval bare_interval_prices c.set.new.self ≡ with_interval v c.args.bare s.prices.intervals = ap (each_interval bare_interval_prices) c.set.ensures.after ∙ each_with_interval bare_interval_prices v c.in_ok-interval.prices c.args.self.now.prices.intervals ∙ ap (λ b. with_interval v b s.prices.intervals) t.1.1 in
    record { called = called_granted s _ (interval c.args.interval c.args.bare) _ t.0 refl (ap (λ (x : ByInterval BareIntervalPrices). with_prices (record { services = s.prices.services; intervals = x }) s) set ∙ interval_carried s c.args.interval v c.args.bare t.1.0) }
