-- All meters have four digits just where each has.
use Rattle.std.proofs.Common.{rules, ◌≡◌, ℕ, zero, suc, ◌<◌, true, List, [], ◌∷◌, map, length, get_or, sym, refl, ◌∙◌, arith}
use Rattle.std.proofs.lemmas.Bool.Decides.{nat_tests}
use Rattle.std.proofs.lemmas.Iterator.{YieldsList-from_slice}
use Rattle.std.proofs.lemmas.Iterator.Search.{all_from_yields_List}
use Rattle.std.specs.List.{list_all}
use borrow.Author.Tests.{tests}
use Rattle.table_tests.specs.declared.meter.Meter.{Meter}
use Rattle.table.specs.Rows.{AllSound}
use Rattle.table_tests.specs.Kinds.{meter_sound}
use Rattle.table_tests.proofs.roll.all_show.Goals as goal

each : (xs : List Meter) → list_all meter_sound xs ≡ true → (i : ℕ) → i < length xs → get_or (map meter_sound xs) i true ≡ true
each [] all i l = absurd (omega arith)
each (x ∷ xs) all zero l = grind (arith, nat_tests)
each (x ∷ xs) all (suc i) l = each xs (grind (arith, nat_tests)) i (omega arith)

every : (xs : List Meter) → AllSound meter_sound xs → list_all meter_sound xs ≡ true
every [] sound = refl
every (x ∷ xs) sound =
    let here : meter_sound x ≡ true = sound 0 (omega arith) in
    let later = every xs (λ i l. sound (suc i) (omega arith)) in
    grind (arith, nat_tests)

pub returns : goal.returns
returns c =
    let shown = all_from_yields_List meter_sound _ _ c.all.result c.all.ensures.ran (YieldsList-from_slice c.args.meters.now cc) (λ x b q k. search (rules, tests)) in
    record { answer = ((λ yes. each c.args.meters.now (sym shown ∙ yes)), (λ sound. shown ∙ every c.args.meters.now sound)) }
