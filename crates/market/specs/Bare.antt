use Rattle.market.specs.declared.quantities.Quantities.{Quantities}
use Rattle.market.specs.Shapes.{BareQuantities}
use Rattle.market.specs.declared.figures.Figures.{Figures}
use Rattle.market.specs.Shapes.{BareFigures}
use Rattle.market.specs.declared.prices.ServicePrices.{ServicePrices}
use Rattle.market.specs.Shapes.{BareServicePrices}
use Rattle.market.specs.declared.prices.IntervalPrices.{IntervalPrices}
use Rattle.market.specs.Shapes.{BareIntervalPrices}
use Rattle.market.specs.declared.prices.Prices.{Prices}
use Rattle.market.specs.Shapes.{BarePrices}
use Rattle.terms.specs.declared.service.ByService.{ByService}
use Rattle.terms.specs.declared.interval.ByInterval.{ByInterval}
use Rattle.market.specs.declared.qse.Qse.{Qse}
use Rattle.market.specs.declared.qse.QseRow.{QseRow}
use Rattle.market.specs.declared.resource.Resource.{Resource}
use Rattle.market.specs.declared.resource.ResourceRow.{ResourceRow}
use Rattle.terms.specs.declared.class.Class.TheVariants.{Generation}
use Rattle.market.specs.declared.units.Tenths.{Tenths}
use Rattle.market.specs.declared.units.CentsPerMw.{CentsPerMw}
use Rattle.market.specs.declared.units.CentsPerMwh.{CentsPerMwh}
use Rattle.terms.specs.Services.{each, always}
use Rattle.terms.specs.Intervals.{each_interval, every_interval}

-- the figures of a value, without the proof that they lie within their limits

abbrev pub bare_quantities : Quantities (Tenths 20000) → BareQuantities
bare_quantities q = record { dasa = q.dasa.value; rtsa = q.rtsa.value; trs = q.trs.value; rtpc = q.rtpc.value; pc = q.pc.value; ruc = q.ruc.value; trp = q.trp.value; fq = q.fq.value; rfq = q.rfq.value; inf = q.inf.value }

abbrev pub bare_figures : Figures (Tenths 3000) → BareFigures
bare_figures f = record { telemetered = each (λ t. t.value) f.telemetered; npf = f.npf.value; lpc = f.lpc.value }

abbrev pub bare_service_prices : ServicePrices (CentsPerMw 1000000) → BareServicePrices
bare_service_prices p = record { dam = p.dam.value; sasm = p.sasm.value; rsasm = p.rsasm.value }

abbrev pub bare_interval_prices : IntervalPrices (CentsPerMwh 500000) → BareIntervalPrices
bare_interval_prices p = record { rtrsvpor = p.rtrsvpor.value; rtrdp = p.rtrdp.value }

abbrev pub bare_prices : Prices (ServicePrices (CentsPerMw 1000000)) (IntervalPrices (CentsPerMwh 500000)) → BarePrices
bare_prices p = record { services = each bare_service_prices p.services; intervals = each_interval bare_interval_prices p.intervals }

abbrev pub qse_row : Qse → QseRow
qse_row q = record { number = q.number.value; load = q.load.value; quantities = each bare_quantities q.quantities }

abbrev pub resource_row : Resource → ResourceRow
resource_row r = record { number = r.number.value; qse = r.qse.value; class = r.class; figures = bare_figures r.figures }

-- ten quantities of 0, and prices of 0
abbrev pub no_quantities : BareQuantities
no_quantities = record { dasa = 0; rtsa = 0; trs = 0; rtpc = 0; pc = 0; ruc = 0; trp = 0; fq = 0; rfq = 0; inf = 0 }

abbrev pub no_prices : BarePrices
no_prices = record { services = always (record { dam = 0; sasm = 0; rsasm = 0 }); intervals = every_interval (record { rtrsvpor = 0; rtrdp = 0 }) }

-- a row with every figure 0
abbrev pub empty_row : ResourceRow
empty_row = record { number = 0; qse = 0; class = Generation; figures = record { telemetered = always 0; npf = 0; lpc = 0 } }
