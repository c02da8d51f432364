-- What a call carries out once its figures were read.
use Rattle.std.proofs.Common.{◌≡◌, ℕ, Ok, sym, ap}
use Rattle.terms.specs.declared.service.Service.{Service}
use Rattle.terms.specs.declared.interval.Interval.{Interval}
use Rattle.market.specs.Shapes.{BareServicePrices}
use Rattle.market.specs.Shapes.{BareIntervalPrices}
use Rattle.terms.specs.Services.{service_of, with_service}
use Rattle.terms.specs.Intervals.{interval_of, with_interval}
use Rattle.history.specs.Calls.{State, prices, interval, carried_out, with_read, with_prices}

pub prices_carried : (s : State) (n : ℕ) (v : Service) (p : BareServicePrices) → service_of n ≡ Ok v → with_prices (record { services = with_service v p s.prices.services; intervals = s.prices.intervals }) s ≡ carried_out s (prices n p)
prices_carried s n v p e = sym (ap (λ r. with_read r (λ w. with_prices (record { services = with_service w p s.prices.services; intervals = s.prices.intervals }) s) s) e)

pub interval_carried : (s : State) (n : ℕ) (v : Interval) (p : BareIntervalPrices) → interval_of n ≡ Ok v → with_prices (record { services = s.prices.services; intervals = with_interval v p s.prices.intervals }) s ≡ carried_out s (interval n p)
interval_carried s n v p e = sym (ap (λ r. with_read r (λ w. with_prices (record { services = s.prices.services; intervals = with_interval w p s.prices.intervals }) s) s) e)
