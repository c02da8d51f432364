-- What every lived book keeps, and how its state and the words of its history agree.
use Rattle.std.proofs.Common.{◌≡◌, ℕ, suc, ◌<◌, List, [], ◌∷◌, map, length, get_or, Some, None, Ok, Err, Option, Result, sym, refl, ap, ◌∙◌, subst, arith}
use Rattle.std.proofs.lemmas.List.{length-map}
use Rattle.terms.specs.declared.service.Service.{Service}
use Rattle.terms.specs.declared.refusal.Refusal.{Refusal}
use Rattle.market.specs.declared.resource.ResourceRow.{ResourceRow}
use Rattle.market.specs.Shapes.{BareQuantities}
use Rattle.market.specs.Shapes.{BarePrices}
use Rattle.terms.specs.Services.{service_of}
use Rattle.terms.specs.Intervals.{interval_of}
use Rattle.terms.specs.Classes.{class_of}
use Rattle.editions.specs.Meaning.{Meaning}
use Rattle.table.specs.Rows.{Rising, found}
use Rattle.table.proofs.Laws.{rising_put, rising_removed}
use Rattle.history.specs.declared.account.Account.{Account}
use Rattle.history.specs.Settlement.{settled_account, map_from, billed_account}
use Rattle.history.specs.Calls.{State, Call, enrol, quantities, enter, strike, prices, interval, draft, issue, drop, qse_of, resource_of, refusal, carried_out, state_by, with_read, supplied, enrolled, with_quantities}
use Rattle.history.specs.Histories.{History, Lived, opening, then}

-- a refused call leaves the book, so what holds before and after a call that is carried out holds after any
pub by_refusal : (P : State → Type 0) (o : Option Refusal) (s t : State) → P s → (o ≡ None → P t) → P (state_by o t s)
by_refusal P None s t p q = q refl
by_refusal P (Some r) s t p q = p

-- rows with the same numbers rise alike
pub rising_alike : {A B : Type 0} (num : A → ℕ) (num' : B → ℕ) (xs : List A) (ys : List B) → map num xs ≡ map num' ys → Rising num xs → Rising num' ys
rising_alike num num' xs ys e up =
    let n : length xs ≡ length ys = sym (length-map xs num) ∙ ap length e ∙ length-map ys num' in
    let P : List ℕ → Type 0 = λ ns. (i : ℕ) → suc i < length ys → get_or ns i 0 < get_or ns (suc i) 0 in
    subst P e (λ i l. up i (omega arith))

-- settling and billing keep the rows of the accounts
pub settled_keep_rows : (e : Meaning) (p : BarePrices) (rs : List ResourceRow) (all : List Account) (i : ℕ) (xs : List Account) → map (λ a. a.row) (map_from i (settled_account e p rs all) xs) ≡ map (λ a. a.row) xs
settled_keep_rows e p rs all i [] = refl
settled_keep_rows e p rs all i (x ∷ xs) = ap (λ r. x.row ∷ r) (settled_keep_rows e p rs all (suc i) xs)

pub billed_keep_rows : (xs : List Account) → map (λ a. a.row) (map billed_account xs) ≡ map (λ a. a.row) xs
billed_keep_rows [] = refl
billed_keep_rows (x ∷ xs) = ap (λ r. x.row ∷ r) (billed_keep_rows xs)

pub numbers_of_rows : (xs : List Account) → map qse_of xs ≡ map (λ r. r.number) (map (λ a. a.row) xs)
numbers_of_rows [] = refl
numbers_of_rows (x ∷ xs) = ap (λ r. x.row.number ∷ r) (numbers_of_rows xs)

pub rising_by_rows : (xs ys : List Account) → map (λ a. a.row) xs ≡ map (λ a. a.row) ys → Rising qse_of xs → Rising qse_of ys
rising_by_rows xs ys e up = rising_alike qse_of qse_of xs ys (numbers_of_rows xs ∙ ap (map (λ r. r.number)) e ∙ sym (numbers_of_rows ys)) up

-- the accounts and the resources of a book rise in number
unfoldable pub Kept : State → Type 0
Kept s = Rising qse_of s.qses × Rising resource_of s.resources

supplied_keep : (v : Service) (ten : BareQuantities) (o : Option Account) (xs : List Account) → Rising qse_of xs → Rising qse_of (supplied v ten o xs)
supplied_keep v ten None xs up = up
supplied_keep v ten (Some a) xs up = rising_put qse_of (with_quantities v ten a) xs up

-- what a call makes of a state is read through what it read
pub read_keep : {A : Type 0} (P : State → Type 0) (r : Result A Refusal) (f : A → State) (s : State) → P s → ((x : A) → r ≡ Ok x → P (f x)) → P (with_read r f s)
read_keep P (Ok x) f s p q = q x refl
read_keep P (Err e) f s p q = p

carried_keep : (s : State) (c : Call) → Kept s → Kept (carried_out s c)
unfolding Kept
carried_keep s (enrol n l) (q, r) = (rising_put qse_of (enrolled n l (found qse_of n s.qses)) s.qses q, r)
carried_keep s (quantities n v ten) k = read_keep Kept (service_of v) _ s k (λ w _. (supplied_keep w ten (found qse_of n s.qses) s.qses k.0, k.1))
carried_keep s (enter n q w f) k = read_keep Kept (class_of w) _ s k (λ w _. (k.0, rising_put resource_of _ s.resources k.1))
carried_keep s (strike n) (q, r) = (q, rising_removed resource_of n s.resources r)
carried_keep s (prices v p) k = read_keep Kept (service_of v) _ s k (λ w _. k)
carried_keep s (interval v p) k = read_keep Kept (interval_of v) _ s k (λ w _. k)
carried_keep s (draft e) (q, r) = (rising_by_rows s.qses _ (sym (settled_keep_rows e s.prices s.resources s.qses 0 s.qses)) q, r)
carried_keep s (issue n) (q, r) = (rising_by_rows s.qses _ (sym (billed_keep_rows s.qses)) q, r)
carried_keep s (drop n) k = k

-- every lived book keeps its rows rising
pub lived_keep : {h : History} {s : State} → Lived h s → Kept s
unfolding Kept
lived_keep (opening n q r) = (λ i l. absurd (omega arith), λ i l. absurd (omega arith))
lived_keep (then {h} {s} c l) = by_refusal Kept (refusal s c) s (carried_out s c) (lived_keep l) (λ _. carried_keep s c (lived_keep l))
