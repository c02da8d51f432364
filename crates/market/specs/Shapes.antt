-- The figures as they are given: plain numbers.
use Rattle.std.specs.Prelude.{ℕ}
use Rattle.market.specs.declared.quantities.Quantities.{Quantities}
use Rattle.market.specs.declared.figures.Figures.{Figures}
use Rattle.market.specs.declared.prices.ServicePrices.{ServicePrices}
use Rattle.market.specs.declared.prices.IntervalPrices.{IntervalPrices}
use Rattle.market.specs.declared.prices.Prices.{Prices}

abbrev pub BareQuantities : Type 0
BareQuantities = Quantities ℕ

abbrev pub BareFigures : Type 0
BareFigures = Figures ℕ

abbrev pub BareServicePrices : Type 0
BareServicePrices = ServicePrices ℕ

abbrev pub BareIntervalPrices : Type 0
BareIntervalPrices = IntervalPrices ℕ

abbrev pub BarePrices : Type 0
BarePrices = Prices BareServicePrices BareIntervalPrices
