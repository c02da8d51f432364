-- The words of a history and the state that it leads to agree: loads, quantities, prices.
use Rattle.std.proofs.Common.{◌≡◌, ℕ, Bool, true, false, cond, not, ◌&&◌, eqb, List, [], ◌∷◌, map, is_some as option_is_some, is_ok, Some, None, Ok, Err, Option, Result, unwrap_or, sym, refl, ap, ◌∙◌, arith}
use Rattle.std.specs.Option.{option_map}
use Rattle.std.proofs.lemmas.Bool.Decides.{nat_tests}
use Rattle.terms.specs.declared.service.Service.{Service}
use Rattle.terms.specs.declared.service.Service.TheVariants.{RegUp, RegDown, Responsive, NonSpin, Ecrs}
use Rattle.terms.specs.declared.interval.Interval.{Interval}
use Rattle.terms.specs.declared.interval.ByInterval.{ByInterval}
use Rattle.terms.specs.declared.service.ByService.{ByService}
use Rattle.terms.specs.declared.interval.Interval.TheVariants.{First, Second, Third, Fourth}
use Rattle.terms.specs.declared.refusal.Refusal.{Refusal}
use Rattle.terms.specs.declared.refusal.Refusal.TheVariants.{DraftOpen, FigureOutOfRange, NumberOutOfRange, NotEnrolled}
use Rattle.market.specs.declared.qse.QseRow.{QseRow}
use Rattle.market.specs.Shapes.{BareQuantities}
use Rattle.market.specs.Shapes.{BareServicePrices}
use Rattle.market.specs.Shapes.{BareIntervalPrices}
use Rattle.terms.specs.Services.{service_of, service_number, always, of, with_service}
use Rattle.terms.specs.Intervals.{interval_of, interval_number, every_interval, of_interval, with_interval}
use Rattle.terms.specs.Classes.{class_of}
use Rattle.market.specs.Limits.{numbered, quantities_within, service_prices_within, interval_prices_within}
use Rattle.market.specs.Bare.{no_quantities}
use Rattle.terms.proofs.Settings.{of_with, service_number_lem, of_with_interval, interval_number_lem}
use Rattle.table.specs.Rows.{found, known, put}
use Rattle.table.proofs.Laws.{found_number, found_put_same, found_put_other}
use Rattle.history.specs.declared.account.Account.{Account}
use Rattle.history.specs.Settlement.{by_service}
use Rattle.history.specs.Calls.{State, Call, enrol, quantities, enter, strike, prices, interval, draft, issue, drop, Answer, qse_of, refusal, carried_out, granted, answer_by, state_by, opened, with_read, supplied, enrolled, with_quantities, unless}
use Rattle.history.specs.Histories.{History, Lived, opening, then, taken, or_else, newest, when, sets_load, sets_quantities, sets_prices, sets_interval, load_of, quantities_of, service_prices_of, interval_prices_of, prices_of}
use Rattle.history.proofs.Living.{Kept, read_keep, lived_keep, settled_keep_rows, billed_keep_rows}

-- a call that is carried out is taken
pub granted_taken : (s : State) (c : Call) → taken (granted s c) ≡ true
granted_taken s (enrol n l) = refl
granted_taken s (quantities n v ten) = refl
granted_taken s (enter n q k f) = refl
granted_taken s (strike n) = refl
granted_taken s (prices v p) = refl
granted_taken s (interval v p) = refl
granted_taken s (draft e) = refl
granted_taken s (issue n) = refl
granted_taken s (drop n) = refl

-- a word that changes only with calls that are taken goes on with the state
pub by_answer : {X : Type 0} (R : X → State → Type 0) (o : Option Refusal) (a : Answer) (x y : X) (s t : State) → taken a ≡ true → R y s → (o ≡ None → R x t) → R (cond (taken (answer_by o a)) x y) (state_by o t s)
by_answer R None a x y s t ta p q = rw ta (q refl)
by_answer R (Some r) a x y s t ta p q = p

pub newest_holds : {A : Type 0} (sets : Call → Option A) (R : Option A → State → Type 0) → ((n q r : ℕ) → R None (opened n q r)) → ((s : State) (c : Call) (x : Option A) → Kept s → refusal s c ≡ None → R x s → R (or_else (sets c) x) (carried_out s c)) → {h : History} {s : State} → Lived h s → R (newest sets h) s
newest_holds sets R start step (opening n q r) = start n q r
newest_holds sets R start step (then {h} {s} c l) =
    let p = newest_holds sets R start step l in
    by_answer R (refusal s c) (granted s c) (or_else (sets c) (newest sets h)) (newest sets h) s (carried_out s c) (granted_taken s c) p (λ e. step s c (newest sets h) (lived_keep l) e p)

-- the row of a QSE
abbrev pub row_in : ℕ → List Account → Option QseRow
row_in q xs = option_map (λ a. a.row) (found qse_of q xs)

pub row_found : (q : ℕ) (xs : List Account) → row_in q xs ≡ found (λ r. r.number) q (map (λ a. a.row) xs)
row_found q [] = refl
row_found q (x ∷ xs) = let ih = row_found q xs in grind (arith, nat_tests)

-- accounts with the same rows have the same row of a QSE
pub row_by_rows : (q : ℕ) (xs ys : List Account) → map (λ a. a.row) xs ≡ map (λ a. a.row) ys → row_in q xs ≡ row_in q ys
row_by_rows q xs ys e = row_found q xs ∙ ap (found (λ r. r.number) q) e ∙ sym (row_found q ys)

-- an account that is put is found under its number, and leaves the others
pub row_put : (q : ℕ) (a : Account) (xs : List Account) → row_in q (put qse_of a xs) ≡ cond (eqb (qse_of a) q) (Some a.row) (row_in q xs)
row_put q a xs =
    let same = found_put_same qse_of a xs in
    let other = found_put_other qse_of a xs q in
    grind (arith, nat_tests)

pub enrolled_number : (n l : ℕ) (xs : List Account) (o : Option Account) → found qse_of n xs ≡ o → qse_of (enrolled n l o) ≡ n
enrolled_number n l xs None e = refl
enrolled_number n l xs (Some a) e = found_number qse_of n xs a e

-- the quantities of a row in a service, 0 where there is none
abbrev pub quantities_in : Option QseRow → Service → BareQuantities
quantities_in None v = no_quantities
quantities_in (Some r) v = of v r.quantities

LoadAgrees : ℕ → Option ℕ → State → Type 0
LoadAgrees q x s = x ≡ option_map (λ r. r.load) (row_in q s.qses)

enrolled_load : (n l : ℕ) (o : Option Account) → (enrolled n l o).row.load ≡ l
enrolled_load n l None = refl
enrolled_load n l (Some a) = refl

load_enrol : (q n l : ℕ) (x : Option ℕ) (xs : List Account) → x ≡ option_map (λ r. r.load) (row_in q xs) → or_else (when (eqb n q) l) x ≡ option_map (λ r. r.load) (row_in q (put qse_of (enrolled n l (found qse_of n xs)) xs))
load_enrol q n l x xs e =
    let a = enrolled n l (found qse_of n xs) in
    let p = row_put q a xs in
    let m = enrolled_number n l xs (found qse_of n xs) refl in
    let k = enrolled_load n l (found qse_of n xs) in
    grind (arith, nat_tests)

-- other quantities leave the loads
load_supplied : (q n : ℕ) (v : Service) (ten : BareQuantities) (xs : List Account) (o : Option Account) → found qse_of n xs ≡ o → option_map (λ r. r.load) (row_in q xs) ≡ option_map (λ r. r.load) (row_in q (supplied v ten o xs))
load_supplied q n v ten xs None e = refl
load_supplied q n v ten xs (Some a) e =
    let p = row_put q (with_quantities v ten a) xs in
    let m = found_number qse_of n xs a e in
    grind (arith, nat_tests)

load_step : (q : ℕ) (s : State) (c : Call) (x : Option ℕ) → Kept s → refusal s c ≡ None → LoadAgrees q x s → LoadAgrees q (or_else (sets_load q c) x) (carried_out s c)
unfolding LoadAgrees
load_step q s (enrol n l) x k r e = load_enrol q n l x s.qses e
load_step q s (quantities n v ten) x k r e = read_keep (LoadAgrees q x) (service_of v) _ s e (λ w _. e ∙ load_supplied q n w ten s.qses (found qse_of n s.qses) refl)
load_step q s (enter n o w f) x k r e = read_keep (LoadAgrees q x) (class_of w) _ s e (λ w _. e)
load_step q s (strike n) x k r e = e
load_step q s (prices v p) x k r e = read_keep (LoadAgrees q x) (service_of v) _ s e (λ w _. e)
load_step q s (interval v p) x k r e = read_keep (LoadAgrees q x) (interval_of v) _ s e (λ w _. e)
load_step q s (draft m) x k r e = e ∙ ap (option_map (λ r. r.load)) (row_by_rows q s.qses _ (sym (settled_keep_rows m s.prices s.resources s.qses 0 s.qses)))
load_step q s (issue n) x k r e = e ∙ ap (option_map (λ r. r.load)) (row_by_rows q s.qses _ (sym (billed_keep_rows s.qses)))
load_step q s (drop n) x k r e = e

-- the newest load of a QSE is its account's
pub load_agrees : {h : History} {s : State} → Lived h s → (q : ℕ) → load_of h q ≡ option_map (λ r. r.load) (row_in q s.qses)
unfolding LoadAgrees
load_agrees l q = newest_holds (sets_load q) (LoadAgrees q) (λ n a b. refl) (load_step q) l

QuantitiesAgree : ℕ → Service → Option BareQuantities → State → Type 0
QuantitiesAgree q v x s = unwrap_or x no_quantities ≡ quantities_in (row_in q s.qses) v

pub of_always : {A : Type 0} (v : Service) (a : A) → of v (always a) ≡ a
of_always RegUp a = refl
of_always RegDown a = refl
of_always Responsive a = refl
of_always NonSpin a = refl
of_always Ecrs a = refl

enrolled_quantities : (n l : ℕ) (v : Service) (o : Option Account) → of v (enrolled n l o).row.quantities ≡ quantities_in (option_map (λ a. a.row) o) v
enrolled_quantities n l v None = of_always v no_quantities
enrolled_quantities n l v (Some a) = refl

quantities_enrol : (q n l : ℕ) (v : Service) (xs : List Account) → quantities_in (row_in q xs) v ≡ quantities_in (row_in q (put qse_of (enrolled n l (found qse_of n xs)) xs)) v
quantities_enrol q n l v xs =
    let a = enrolled n l (found qse_of n xs) in
    let p = row_put q a xs in
    let m = enrolled_number n l xs (found qse_of n xs) refl in
    let k = enrolled_quantities n l v (found qse_of n xs) in
    grind (arith, nat_tests)

quantities_supplied : (q n : ℕ) (v w : Service) (ten : BareQuantities) (x : Option BareQuantities) (xs : List Account) (o : Option Account) (a : Account) → o ≡ Some a → found qse_of n xs ≡ o → unwrap_or x no_quantities ≡ quantities_in (row_in q xs) v → unwrap_or (or_else (when (eqb n q && eqb (service_number w) (service_number v)) ten) x) no_quantities ≡ quantities_in (row_in q (supplied w ten o xs)) v
quantities_supplied q n v w ten x xs None a z e h = grind arith
quantities_supplied q n v w ten x xs (Some b) a z e h =
    let p = row_put q (with_quantities w ten b) xs in
    let m = found_number qse_of n xs b e in
    let k = of_with v w ten b.row.quantities in
    grind (arith, nat_tests)

-- what is there is found
pub is_some : {A : Type 0} (o : Option A) → option_is_some o ≡ true → (a : A) × (o ≡ Some a)
is_some None e = absurd (let z : ◌≡◌ {A = ℕ} 0 1 = cc in omega arith)
is_some (Some a) e = (a, refl)

-- where no test refuses, each of them holds
pub unless_none : (b : Bool) (r : Refusal) (rest : Option Refusal) → unless b r rest ≡ None → (b ≡ true) × (rest ≡ None)
unless_none true r rest e = (refl, e)
unless_none false r rest e = absurd (let z : ◌≡◌ {A = ℕ} 0 1 = cc in omega arith)

pub through_ok : {A : Type 0} (P : State → Type 0) (r : Result A Refusal) (f : A → State) (s : State) → is_ok r ≡ true → ((x : A) → r ≡ Ok x → P (f x)) → P (with_read r f s)
through_ok P (Ok x) f s e q = q x refl
through_ok P (Err y) f s e q = absurd (let z : ◌≡◌ {A = ℕ} 0 1 = cc in omega arith)

-- tests that all hold
pub two_tests : (d b c : Bool) (r q : Refusal) → unless (not d) r (unless (b && c) q None) ≡ None → (d ≡ false) × (b ≡ true)
two_tests d b c r q e = (grind (arith, nat_tests), grind (arith, nat_tests))

pub four_tests : (d n b c k : Bool) (r q p o : Refusal) → unless (not d) r (unless n q (unless (b && c) p (unless k o None))) ≡ None → (d ≡ false) × (b ≡ true) × (k ≡ true)
four_tests d n b c k r q p o e = (grind (arith, nat_tests), grind (arith, nat_tests), grind (arith, nat_tests))

-- what a call that sets quantities was tested for
quantities_tests : (s : State) (n v : ℕ) (ten : BareQuantities) → refusal s (quantities n v ten) ≡ None → (s.drafted ≡ false) × (is_ok (service_of v) ≡ true) × (known qse_of n s.qses ≡ true)
quantities_tests s n v ten e = four_tests s.drafted (numbered n) (is_ok (service_of v)) (quantities_within ten) (known qse_of n s.qses) DraftOpen NumberOutOfRange FigureOutOfRange NotEnrolled e

quantities_step : (q : ℕ) (v : Service) (s : State) (c : Call) (x : Option BareQuantities) → Kept s → refusal s c ≡ None → QuantitiesAgree q v x s → QuantitiesAgree q v (or_else (sets_quantities q v c) x) (carried_out s c)
unfolding QuantitiesAgree
quantities_step q v s (enrol n l) x k r e = e ∙ quantities_enrol q n l v s.qses
quantities_step q v s (quantities n w ten) x k r e =
    let t = quantities_tests s n w ten r in
    let a = is_some (found qse_of n s.qses) t.2 in
    through_ok (QuantitiesAgree q v (or_else (sets_quantities q v (quantities n w ten)) x)) (service_of w) _ s t.1
    (λ u o. rw (service_number_lem w u o) (quantities_supplied q n v u ten x s.qses (found qse_of n s.qses) a.0 a.1 refl e))
quantities_step q v s (enter n o w f) x k r e = read_keep (QuantitiesAgree q v x) (class_of w) _ s e (λ w _. e)
quantities_step q v s (strike n) x k r e = e
quantities_step q v s (prices w p) x k r e = read_keep (QuantitiesAgree q v x) (service_of w) _ s e (λ w _. e)
quantities_step q v s (interval w p) x k r e = read_keep (QuantitiesAgree q v x) (interval_of w) _ s e (λ w _. e)
quantities_step q v s (draft m) x k r e = e ∙ ap (λ o. quantities_in o v) (row_by_rows q s.qses _ (sym (settled_keep_rows m s.prices s.resources s.qses 0 s.qses)))
quantities_step q v s (issue n) x k r e = e ∙ ap (λ o. quantities_in o v) (row_by_rows q s.qses _ (sym (billed_keep_rows s.qses)))
quantities_step q v s (drop n) x k r e = e

-- the newest quantities of a QSE in a service are its account's
pub quantities_agree : {h : History} {s : State} → Lived h s → (q : ℕ) (v : Service) → quantities_of h q v ≡ quantities_in (row_in q s.qses) v
unfolding QuantitiesAgree
quantities_agree l q v = newest_holds (sets_quantities q v) (QuantitiesAgree q v) (λ n a b. refl) (quantities_step q v) l

abbrev no_service_prices : BareServicePrices
no_service_prices = record { dam = 0; sasm = 0; rsasm = 0 }

abbrev no_interval_prices : BareIntervalPrices
no_interval_prices = record { rtrsvpor = 0; rtrdp = 0 }

PricesAgree : Service → Option BareServicePrices → State → Type 0
PricesAgree v x s = unwrap_or x no_service_prices ≡ of v s.prices.services

price_set : (v w : Service) (p : BareServicePrices) (x : Option BareServicePrices) (ps : ByService BareServicePrices) → unwrap_or x no_service_prices ≡ of v ps → unwrap_or (or_else (when (eqb (service_number w) (service_number v)) p) x) no_service_prices ≡ of v (with_service w p ps)
price_set v w p x ps e = let k = of_with v w p ps in grind (arith, nat_tests)

prices_step : (v : Service) (s : State) (c : Call) (x : Option BareServicePrices) → Kept s → refusal s c ≡ None → PricesAgree v x s → PricesAgree v (or_else (sets_prices v c) x) (carried_out s c)
unfolding PricesAgree
prices_step v s (enrol n l) x k r e = e
prices_step v s (quantities n w ten) x k r e = read_keep (PricesAgree v x) (service_of w) _ s e (λ w _. e)
prices_step v s (enter n o w f) x k r e = read_keep (PricesAgree v x) (class_of w) _ s e (λ w _. e)
prices_step v s (strike n) x k r e = e
prices_step v s (prices w p) x k r e =
    let t = (two_tests s.drafted (is_ok (service_of w)) (service_prices_within p) DraftOpen FigureOutOfRange r).1 in
    through_ok (PricesAgree v (or_else (sets_prices v (prices w p)) x)) (service_of w) _ s t (λ u o. rw (service_number_lem w u o) (price_set v u p x s.prices.services e))
prices_step v s (interval w p) x k r e = read_keep (PricesAgree v x) (interval_of w) _ s e (λ w _. e)
prices_step v s (draft m) x k r e = e
prices_step v s (issue n) x k r e = e
prices_step v s (drop n) x k r e = e

service_prices_agree : {h : History} {s : State} → Lived h s → (v : Service) → service_prices_of h v ≡ of v s.prices.services
unfolding PricesAgree
service_prices_agree l v = newest_holds (sets_prices v) (PricesAgree v) (λ n a b. sym (of_always v no_service_prices)) (prices_step v) l

IntervalAgrees : Interval → Option BareIntervalPrices → State → Type 0
IntervalAgrees v x s = unwrap_or x no_interval_prices ≡ of_interval v s.prices.intervals

interval_set : (v w : Interval) (p : BareIntervalPrices) (x : Option BareIntervalPrices) (ps : ByInterval BareIntervalPrices) → unwrap_or x no_interval_prices ≡ of_interval v ps → unwrap_or (or_else (when (eqb (interval_number w) (interval_number v)) p) x) no_interval_prices ≡ of_interval v (with_interval w p ps)
interval_set v w p x ps e = let k = of_with_interval v w p ps in grind (arith, nat_tests)

interval_step : (v : Interval) (s : State) (c : Call) (x : Option BareIntervalPrices) → Kept s → refusal s c ≡ None → IntervalAgrees v x s → IntervalAgrees v (or_else (sets_interval v c) x) (carried_out s c)
unfolding IntervalAgrees
interval_step v s (enrol n l) x k r e = e
interval_step v s (quantities n w ten) x k r e = read_keep (IntervalAgrees v x) (service_of w) _ s e (λ w _. e)
interval_step v s (enter n o w f) x k r e = read_keep (IntervalAgrees v x) (class_of w) _ s e (λ w _. e)
interval_step v s (strike n) x k r e = e
interval_step v s (prices w p) x k r e = read_keep (IntervalAgrees v x) (service_of w) _ s e (λ w _. e)
interval_step v s (interval w p) x k r e =
    let t = (two_tests s.drafted (is_ok (interval_of w)) (interval_prices_within p) DraftOpen FigureOutOfRange r).1 in
    through_ok (IntervalAgrees v (or_else (sets_interval v (interval w p)) x)) (interval_of w) _ s t (λ u o. rw (interval_number_lem w u o) (interval_set v u p x s.prices.intervals e))
interval_step v s (draft m) x k r e = e
interval_step v s (issue n) x k r e = e
interval_step v s (drop n) x k r e = e

every_interval_lem : {A : Type 0} (v : Interval) (a : A) → of_interval v (every_interval a) ≡ a
every_interval_lem First a = refl
every_interval_lem Second a = refl
every_interval_lem Third a = refl
every_interval_lem Fourth a = refl

interval_prices_agree : {h : History} {s : State} → Lived h s → (v : Interval) → interval_prices_of h v ≡ of_interval v s.prices.intervals
unfolding IntervalAgrees
interval_prices_agree l v = newest_holds (sets_interval v) (IntervalAgrees v) (λ n a b. sym (every_interval_lem v no_interval_prices)) (interval_step v) l

-- the newest prices are the book's
pub prices_agree : {h : History} {s : State} → Lived h s → prices_of h ≡ s.prices
prices_agree l = λ i. record { services = by_service (λ v. service_prices_agree l v i); intervals = record { first = interval_prices_agree l First i; second = interval_prices_agree l Second i; third = interval_prices_agree l Third i; fourth = interval_prices_agree l Fourth i } }
