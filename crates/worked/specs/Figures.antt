use Rattle.std.specs.Prelude.{ℕ, List, [], ◌∷◌, map, ◌≡◌, ℤ, pos, negsuc}
use Rattle.terms.specs.declared.service.Service.{Service}
use Rattle.terms.specs.declared.service.Service.TheVariants.{RegUp, RegDown, Responsive}
use Rattle.terms.specs.declared.class.Class.{Class}
use Rattle.terms.specs.declared.class.Class.TheVariants.{ControllableLoad, OtherLoad}
use Rattle.terms.specs.declared.interval.Interval.TheVariants.{First}
use Rattle.market.specs.Shapes.{BareFigures}
use Rattle.market.specs.Shapes.{BareQuantities}
use Rattle.market.specs.Shapes.{BarePrices}
use Rattle.terms.specs.Services.{always, with_service}
use Rattle.terms.specs.Intervals.{with_interval}
use Rattle.market.specs.Bare.{no_prices}
use Rattle.editions.specs.Meaning.{Meaning}
use Rattle.editions.specs.Meanings.{before_nprr1149, nprr1149, nprr1196}
use Rattle.apportion.specs.Shares.{shares}

-- a question that was worked by hand
pub data Question : Type 0 where
  -- the cents charged under an edition: quantities, tenths that counted, prices
  charged : Meaning → Service → BareQuantities → ℤ → BarePrices → Question
  -- the tenths that count under an edition
  counts : Meaning → Service → Class → BareFigures → Question
  -- a total over loads
  credited : ℕ → List ℕ → Question

-- its answer by the definitions
abbrev pub answered : Question → List ℤ
answered (charged e s q z p) = pos (e.charge s q z p) ∷ []
answered (counts e s k f) = e.counted s k f ∷ []
answered (credited total loads) = map pos (shares total loads)

-- a question with the figures worked by hand
pub record Worked : Type 0 where
  pub question : Question
  pub figures : List ℤ

-- the sample hour's quantities and prices in Reg-Down
abbrev pub sample_quantities : BareQuantities
sample_quantities = record { dasa = 0; rtsa = 0; trs = 0; rtpc = 0; pc = 100; ruc = 0; trp = 0; fq = 36; rfq = 10; inf = 0 }

abbrev pub sample_prices : BarePrices
sample_prices = record { services = with_service RegDown (record { dam = 1250; sasm = 2000; rsasm = 500 }) no_prices.services; intervals = with_interval First (record { rtrsvpor = 6000; rtrdp = 3000 }) no_prices.intervals }

-- a load's figures: telemetered 50 in every service, LPC 45, and an NPF
abbrev pub load_figures : ℕ → BareFigures
load_figures npf = record { telemetered = always 50; npf = npf; lpc = 45 }

-- a failed quantity alone, and a DAM price of one cent
abbrev pub failed_only : ℕ → BareQuantities
failed_only fq = record { dasa = 0; rtsa = 0; trs = 0; rtpc = 0; pc = 0; ruc = 0; trp = 0; fq = fq; rfq = 0; inf = 0 }

abbrev pub one_cent : BarePrices
one_cent = record { services = with_service RegDown (record { dam = 1; sasm = 0; rsasm = 0 }) no_prices.services; intervals = no_prices.intervals }

-- the twelve figures that were worked by hand
abbrev pub table : List Worked
table =
    record { question = charged before_nprr1149 RegDown sample_quantities (pos 0) sample_prices; figures = pos 7700 ∷ [] }
    ∷ record { question = charged nprr1149 RegDown sample_quantities (pos 50) sample_prices; figures = pos 9500 ∷ [] }
    ∷ record { question = charged nprr1149 RegDown sample_quantities (pos 60) sample_prices; figures = pos 8600 ∷ [] }
    ∷ record { question = counts nprr1196 Responsive OtherLoad (load_figures 80); figures = pos 35 ∷ [] }
    ∷ record { question = counts nprr1196 Responsive OtherLoad (load_figures 40); figures = negsuc 4 ∷ [] }
    ∷ record { question = counts nprr1196 Responsive ControllableLoad (load_figures 80); figures = pos 50 ∷ [] }
    ∷ record { question = counts nprr1196 RegUp OtherLoad (load_figures 80); figures = pos 50 ∷ [] }
    ∷ record { question = charged before_nprr1149 RegDown (failed_only 4) (pos 0) one_cent; figures = pos 0 ∷ [] }
    ∷ record { question = charged before_nprr1149 RegDown (failed_only 5) (pos 0) one_cent; figures = pos 1 ∷ [] }
    ∷ record { question = credited 7700 (1 ∷ 2 ∷ []); figures = pos 2566 ∷ pos 5134 ∷ [] }
    ∷ record { question = credited 1 (1 ∷ 1 ∷ 1 ∷ []); figures = pos 0 ∷ pos 0 ∷ pos 1 ∷ [] }
    ∷ record { question = credited 5 (0 ∷ 0 ∷ []); figures = pos 0 ∷ pos 0 ∷ [] }
    ∷ []

-- every question of the table has the answer that was worked by hand
abbrev pub TableStands : Type 0
TableStands = map (λ w. answered w.question) table ≡ map (λ w. w.figures) table
