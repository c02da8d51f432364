use Rattle.std.proofs.Common.{◌≡◌, ◌≤◌, true, arith}
use Rattle.std.proofs.lemmas.Bool.Decides.{nat_tests}
use Rattle.terms.specs.declared.service.Service.{Service}
use Rattle.market.specs.Shapes.{BareQuantities}
use Rattle.market.specs.Shapes.{BareFigures}
use Rattle.market.specs.Shapes.{BarePrices}
use Rattle.terms.specs.Services.{of, all_services}
use Rattle.terms.proofs.Services.{all_services_of}
use Rattle.market.specs.Limits.{figures_within, figure_within, quantities_within, prices_within, service_prices_within}

-- figures within their limits
pub telemetered_at_most : (f : BareFigures) (s : Service) → figures_within f ≡ true → of s f.telemetered ≤ 3000
telemetered_at_most f s h =
    let a : all_services figure_within f.telemetered ≡ true = grind (arith, nat_tests) in
    let b = all_services_of figure_within f.telemetered s a in
    grind (arith, nat_tests)

pub npf_at_most : (f : BareFigures) → figures_within f ≡ true → f.npf ≤ 3000
npf_at_most f h = grind (arith, nat_tests)

pub lpc_at_most : (f : BareFigures) → figures_within f ≡ true → f.lpc ≤ 3000
lpc_at_most f h = grind (arith, nat_tests)

-- ten quantities within their limits
pub quantities_at_most : (q : BareQuantities) → quantities_within q ≡ true → (q.dasa ≤ 20000) × (q.rtsa ≤ 20000) × (q.trs ≤ 20000) × (q.rtpc ≤ 20000) × (q.pc ≤ 20000) × (q.ruc ≤ 20000) × (q.trp ≤ 20000) × (q.fq ≤ 20000) × (q.rfq ≤ 20000) × (q.inf ≤ 20000)
unfolding quantities_within
quantities_at_most q h = (grind (arith, nat_tests), grind (arith, nat_tests), grind (arith, nat_tests), grind (arith, nat_tests), grind (arith, nat_tests), grind (arith, nat_tests), grind (arith, nat_tests), grind (arith, nat_tests), grind (arith, nat_tests), grind (arith, nat_tests))

-- prices within their limits
pub capacity_prices_at_most : (p : BarePrices) (s : Service) → prices_within p ≡ true → ((of s p.services).dam ≤ 1000000) × ((of s p.services).sasm ≤ 1000000) × ((of s p.services).rsasm ≤ 1000000)
capacity_prices_at_most p s h =
    let a : all_services service_prices_within p.services ≡ true = grind (arith, nat_tests) in
    let b = all_services_of service_prices_within p.services s a in
    (grind (arith, nat_tests), grind (arith, nat_tests), grind (arith, nat_tests))
