use Rattle.std.specs.Prelude.{ℕ, Bool, ◌&&◌, Ok, Result, nat_le}
use Rattle.terms.specs.declared.refusal.Refusal.{Refusal}
use Rattle.market.specs.Shapes.{BareQuantities}
use Rattle.market.specs.Shapes.{BareFigures}
use Rattle.market.specs.Shapes.{BareServicePrices}
use Rattle.market.specs.Shapes.{BareIntervalPrices}
use Rattle.market.specs.Shapes.{BarePrices}
use Rattle.market.specs.declared.qse.QseRow.{QseRow}
use Rattle.market.specs.declared.resource.ResourceRow.{ResourceRow}
use Rattle.market.specs.Answers.{if_numbered, if_within}
use Rattle.terms.specs.Services.{all_services}
use Rattle.terms.specs.Intervals.{all_intervals}

-- the number of a QSE or a resource: 1 to 999,999
abbrev pub numbered : ℕ → Bool
numbered n = nat_le 1 n && nat_le n 999999

-- a load: 0 to 20,000 MWh
abbrev pub load_within : ℕ → Bool
load_within n = nat_le n 20000

-- a quantity: 0 to 20,000 tenths of a MW
abbrev pub quantity_within : ℕ → Bool
quantity_within n = nat_le n 20000

-- the ten quantities of a service
unfoldable pub quantities_within : BareQuantities → Bool
quantities_within q = quantity_within q.dasa && quantity_within q.rtsa && quantity_within q.trs && quantity_within q.rtpc && quantity_within q.pc && quantity_within q.ruc && quantity_within q.trp && quantity_within q.fq && quantity_within q.rfq && quantity_within q.inf

-- a figure of a resource: 0 to 3,000 tenths of a MW
abbrev pub figure_within : ℕ → Bool
figure_within n = nat_le n 3000

-- five telemetered responsibilities, NPF and LPC
abbrev pub figures_within : BareFigures → Bool
figures_within f = all_services figure_within f.telemetered && figure_within f.npf && figure_within f.lpc

-- a price of capacity: 0 to 1,000,000 cents per MW
abbrev pub price_within : ℕ → Bool
price_within n = nat_le n 1000000

-- DAM, SASM and RSASM price of a service
abbrev pub service_prices_within : BareServicePrices → Bool
service_prices_within p = price_within p.dam && price_within p.sasm && price_within p.rsasm

-- a Real-Time price of an interval: 0 to 500,000 cents per MWh
abbrev pub real_time_price_within : ℕ → Bool
real_time_price_within n = nat_le n 500000

-- RTRSVPOR and RTRDP of an interval
abbrev pub interval_prices_within : BareIntervalPrices → Bool
interval_prices_within p = real_time_price_within p.rtrsvpor && real_time_price_within p.rtrdp

-- all prices of the hour
abbrev pub prices_within : BarePrices → Bool
prices_within p = all_services service_prices_within p.services && all_intervals interval_prices_within p.intervals

-- what a number's check answers
abbrev pub number_of : ℕ → Result ℕ Refusal
number_of n = if_numbered (numbered n) (Ok n)

-- what the check of a QSE row answers: its number is looked at first
abbrev pub qse_of : QseRow → Result QseRow Refusal
qse_of q = if_numbered (numbered q.number) (if_within (load_within q.load && all_services quantities_within q.quantities) q)

-- what the check of a resource row answers: both numbers are looked at first
abbrev pub resource_of : ResourceRow → Result ResourceRow Refusal
resource_of r = if_numbered (numbered r.number && numbered r.qse) (if_within (figures_within r.figures) r)

-- whether a row of a resource lies within all its limits
abbrev pub resource_sound : ResourceRow → Bool
resource_sound r = numbered r.number && numbered r.qse && figures_within r.figures
