-- What lies behind an open draft and behind the last issue, and what the lines of all statements add up to.
use Rattle.std.proofs.Common.{◌≡◌, ℕ, suc, Bool, true, false, cond, not, ◌&&◌, eqb, List, [], ◌∷◌, map, ℤ, pos, ◌+ℤ◌, ◌-ℤ◌, is_ok, Some, None, Ok, Err, Option, Result, sym, refl, ap, ◌∙◌, subst, arith}
use Rattle.std.specs.Option.{option_map}
use Rattle.std.proofs.lemmas.Int.{ints}
use Rattle.std.proofs.lemmas.Bool.Decides.{nat_tests}
use Rattle.terms.specs.declared.service.Service.{Service}
use Rattle.terms.specs.declared.class.Class.{Class}
use Rattle.terms.specs.declared.service.ByService.{ByService}
use Rattle.terms.specs.declared.refusal.Refusal.{Refusal}
use Rattle.terms.specs.declared.refusal.Refusal.TheVariants.{DraftOpen, NumberOutOfRange, FigureOutOfRange, NotEnrolled, NoSuchResource, NoFreeSlot}
use Rattle.market.specs.declared.resource.ResourceRow.{ResourceRow}
use Rattle.market.specs.Shapes.{BareFigures}
use Rattle.market.specs.Shapes.{BareQuantities}
use Rattle.market.specs.Shapes.{BarePrices}
use Rattle.terms.specs.Services.{service_of, of}
use Rattle.terms.specs.Intervals.{interval_of}
use Rattle.terms.specs.Classes.{class_of}
use Rattle.market.specs.Limits.{numbered, load_within, quantities_within, figures_within, service_prices_within, interval_prices_within}
use Rattle.editions.specs.Meaning.{Meaning}
use Rattle.table.specs.Rows.{Rising, found, known, fits, put}
use Rattle.table.proofs.Laws.{found_number, found_put_same, found_put_other}
use Rattle.history.specs.declared.account.Account.{Account}
use Rattle.history.specs.Settlement.{sum_z, over_services, less, line_of, map_from, settled_account, billed_account}
use Rattle.history.specs.Calls.{State, Line, Call, enrol, quantities, enter, strike, prices, interval, draft, issue, drop, Answer, qse_of, resource_of, refusal, carried_out, granted, answer_by, state_by, with_read, supplied, enrolled, new_account, with_quantities, with_load, unless, settled_under, statement, with_resources}
use Rattle.history.specs.Histories.{History, Lived, opening, then, rows, rows_after, newer, without, is_draft, edition_of, or_older, last_draft, last_issue, is_statement, lines_of, line_figure, billed_figure, billed_of, total_figure, charge, credit}
use Rattle.history.proofs.Lists.{sum_z_others, sum_z_put_others, sum_z_removed_others, sum_z_found, value_z, sum_z_map, sum_z_put_new, sum_z_put_same}
use Rattle.history.proofs.Reissue.{drafted_before_issue}
use Rattle.history.proofs.Totals.{billed_charges, billed_credits, settled_charges, settled_credits, settled_billed_charges, settled_billed_credits, billed_charges_lem, billed_credits_lem, statement_charges, statement_credits, of_by_service}
use Rattle.history.proofs.Living.{Kept, read_keep, lived_keep}
use Rattle.history.proofs.Words.{by_answer, granted_taken, enrolled_number, of_always}

-- a book whose first test is that no draft is open has none where it goes on
pub first_test : (d : Bool) (r : Refusal) (rest : Option Refusal) → unless (not d) r rest ≡ None → d ≡ false
first_test d r rest e = grind (arith, nat_tests)

-- only a draft opens a draft
pub carried_closed : (s : State) (c : Call) → refusal s c ≡ None → is_draft c ≡ false → (carried_out s c).drafted ≡ false
carried_closed s (enrol n l) r d = first_test s.drafted DraftOpen (unless (numbered n) NumberOutOfRange (unless (load_within l) FigureOutOfRange (unless (fits qse_of s.qse_slots n s.qses) NoFreeSlot None))) r
carried_closed s (quantities n v ten) r d =
    let e = first_test s.drafted DraftOpen (unless (numbered n) NumberOutOfRange (unless (is_ok (service_of v) && quantities_within ten) FigureOutOfRange (unless (known qse_of n s.qses) NotEnrolled None))) r in
    read_keep (λ t. t.drafted ≡ false) (service_of v) _ s e (λ w _. e)
carried_closed s (enter n q k f) r d =
    let e = first_test s.drafted DraftOpen (unless (numbered n && numbered q) NumberOutOfRange (unless (is_ok (class_of k) && figures_within f) FigureOutOfRange (unless (known qse_of q s.qses) NotEnrolled (unless (fits resource_of s.resource_slots n s.resources) NoFreeSlot None)))) r in
    read_keep (λ t. t.drafted ≡ false) (class_of k) _ s e (λ w _. e)
carried_closed s (strike n) r d = first_test s.drafted DraftOpen (unless (numbered n) NumberOutOfRange (unless (known resource_of n s.resources) NoSuchResource None)) r
carried_closed s (prices v p) r d =
    let e = first_test s.drafted DraftOpen (unless (is_ok (service_of v) && service_prices_within p) FigureOutOfRange None) r in
    read_keep (λ t. t.drafted ≡ false) (service_of v) _ s e (λ w _. e)
carried_closed s (interval v p) r d =
    let e = first_test s.drafted DraftOpen (unless (is_ok (interval_of v) && interval_prices_within p) FigureOutOfRange None) r in
    read_keep (λ t. t.drafted ≡ false) (interval_of v) _ s e (λ w _. e)
carried_closed s (draft m) r d = absurd (let z : ◌≡◌ {A = ℕ} 0 1 = cc in omega arith)
carried_closed s (issue n) r d = refl
carried_closed s (drop n) r d = refl

-- the draft behind an open one: the book is the one at that draft, settled under its edition
unfoldable pub DraftOf : Option (Meaning × History) → State → Type 0
DraftOf x s = (e : Meaning) × (d : History) × (t : State) × (x ≡ Some (e, d)) × Lived d t × (s ≡ settled_under e t)

OpenDraft : Option (Meaning × History) → State → Type 0
OpenDraft x s = s.drafted ≡ true → DraftOf x s

not_draft : (c : Call) (h : History) (x : Option (Meaning × History)) → is_draft c ≡ false → or_older (edition_of c) h x ≡ x
not_draft (enrol n l) h x e = refl
not_draft (quantities n v ten) h x e = refl
not_draft (enter n q k f) h x e = refl
not_draft (strike n) h x e = refl
not_draft (prices v p) h x e = refl
not_draft (interval v p) h x e = refl
not_draft (draft m) h x e = absurd (let z : ◌≡◌ {A = ℕ} 0 1 = cc in omega arith)
not_draft (issue n) h x e = refl
not_draft (drop n) h x e = refl

open_step : (h : History) (s : State) (c : Call) → Lived h s → refusal s c ≡ None → OpenDraft (or_older (edition_of c) h (last_draft h)) (carried_out s c)
unfolding OpenDraft DraftOf
open_step h s (draft m) l r = λ _. (m, h, s, refl, l, refl)
open_step h s (enrol n a) l r = λ o. absurd (let e = carried_closed s (enrol n a) r refl in let z : ◌≡◌ {A = ℕ} 0 1 = cc in omega arith)
open_step h s (quantities n v ten) l r = λ o. absurd (let e = carried_closed s (quantities n v ten) r refl in let z : ◌≡◌ {A = ℕ} 0 1 = cc in omega arith)
open_step h s (enter n q k f) l r = λ o. absurd (let e = carried_closed s (enter n q k f) r refl in let z : ◌≡◌ {A = ℕ} 0 1 = cc in omega arith)
open_step h s (strike n) l r = λ o. absurd (let e = carried_closed s (strike n) r refl in let z : ◌≡◌ {A = ℕ} 0 1 = cc in omega arith)
open_step h s (prices v p) l r = λ o. absurd (let e = carried_closed s (prices v p) r refl in let z : ◌≡◌ {A = ℕ} 0 1 = cc in omega arith)
open_step h s (interval v p) l r = λ o. absurd (let e = carried_closed s (interval v p) r refl in let z : ◌≡◌ {A = ℕ} 0 1 = cc in omega arith)
open_step h s (issue n) l r = λ o. absurd (let z : ◌≡◌ {A = ℕ} 0 1 = cc in omega arith)
open_step h s (drop n) l r = λ o. absurd (let z : ◌≡◌ {A = ℕ} 0 1 = cc in omega arith)

open_draft : {h : History} {s : State} → Lived h s → OpenDraft (last_draft h) s
unfolding OpenDraft
open_draft (opening n q r) = λ o. absurd (let z : ◌≡◌ {A = ℕ} 0 1 = cc in omega arith)
open_draft (then {h} {s} c l) = by_answer OpenDraft (refusal s c) (granted s c) (or_older (edition_of c) h (last_draft h)) (last_draft h) s (carried_out s c) (granted_taken s c) (open_draft l) (λ e. open_step h s c l e)

-- an open draft has the last draft that was not refused behind it
pub draft_behind : {h : History} {s : State} → Lived h s → s.drafted ≡ true → DraftOf (last_draft h) s
unfolding OpenDraft
draft_behind l o = open_draft l o

-- the newest rows and the book's rows add up to the same, whatever is added
unfoldable pub RowsAgree : List ResourceRow → State → Type 0
RowsAgree rs s = (f : ResourceRow → ℤ) → sum_z f rs ≡ sum_z f s.resources

without_agree : (n : ℕ) (rs xs : List ResourceRow) → ((f : ResourceRow → ℤ) → sum_z f rs ≡ sum_z f xs) → (f : ResourceRow → ℤ) → sum_z f (without n rs) ≡ sum_z f (without n xs)
without_agree n rs xs e f = sum_z_others resource_of f n rs ∙ e (λ r. cond (eqb r.number n) (pos 0) (f r)) ∙ sym (sum_z_others resource_of f n xs)

rows_entered : (s : State) (n q : ℕ) (k : Result Class Refusal) (f : BareFigures) (rs : List ResourceRow) → Rising resource_of s.resources → RowsAgree rs s → RowsAgree (newer n q k f rs) (with_read k (λ k. with_resources (put resource_of (record { number = n; qse = q; class = k; figures = f }) s.resources) s) s)
unfolding RowsAgree
rows_entered s n q (Ok k) f rs up e = λ g.
    let row : ResourceRow = record { number = n; qse = q; class = k; figures = f } in
    ap (λ z. g row +ℤ z) (without_agree n rs s.resources e g) ∙ sym (sum_z_put_others resource_of g row s.resources up)
rows_entered s n q (Err x) f rs up e = e

rows_step : (s : State) (c : Call) (rs : List ResourceRow) → Kept s → RowsAgree rs s → RowsAgree (rows_after c rs) (carried_out s c)
unfolding RowsAgree Kept
rows_step s (enrol n l) rs k e = e
rows_step s (quantities n v ten) rs k e = read_keep (RowsAgree rs) (service_of v) _ s e (λ w _. e)
rows_step s (enter n q w f) rs k e = rows_entered s n q (class_of w) f rs k.1 e
rows_step s (strike n) rs k e = λ g. without_agree n rs s.resources e g ∙ sym (sum_z_removed_others resource_of g n s.resources k.1)
rows_step s (prices v p) rs k e = read_keep (RowsAgree rs) (service_of v) _ s e (λ w _. e)
rows_step s (interval v p) rs k e = read_keep (RowsAgree rs) (interval_of v) _ s e (λ w _. e)
rows_step s (draft m) rs k e = e
rows_step s (issue n) rs k e = e
rows_step s (drop n) rs k e = e

rows_agree_by : {h : History} {s : State} → Lived h s → RowsAgree (rows h) s
unfolding RowsAgree
rows_agree_by (opening n q r) = λ f. refl
rows_agree_by (then {h} {s} c l) = by_answer RowsAgree (refusal s c) (granted s c) (rows_after c (rows h)) (rows h) s (carried_out s c) (granted_taken s c) (rows_agree_by l) (λ e. rows_step s c (rows h) (lived_keep l) (rows_agree_by l))

pub rows_agree : {h : History} {s : State} → Lived h s → (f : ResourceRow → ℤ) → sum_z f (rows h) ≡ sum_z f s.resources
unfolding RowsAgree
rows_agree l = rows_agree_by l

-- a pair of an account, by a function of the account; (0, 0) where there is none
abbrev pub pair_in : Option (ByService (ℕ × ℕ)) → Service → ℕ × ℕ
pair_in None v = (0, 0)
pair_in (Some x) v = of v x

-- what a QSE was billed in a service, and what is settled for it
abbrev pub billed_in : ℕ → Service → List Account → ℕ × ℕ
billed_in q v xs = pair_in (option_map (λ a. a.billed) (found qse_of q xs)) v

abbrev pub settled_in : ℕ → Service → List Account → ℕ × ℕ
settled_in q v xs = pair_in (option_map (λ a. a.settled) (found qse_of q xs)) v

-- an account that is put
billed_put : (q : ℕ) (v : Service) (a : Account) (xs : List Account) → billed_in q v (put qse_of a xs) ≡ cond (eqb (qse_of a) q) (of v a.billed) (billed_in q v xs)
billed_put q v a xs =
    let same = found_put_same qse_of a xs in
    let other = found_put_other qse_of a xs q in
    grind (arith, nat_tests)

enrolled_billed : (n l : ℕ) (v : Service) (o : Option Account) → of v (enrolled n l o).billed ≡ pair_in (option_map (λ a. a.billed) o) v
enrolled_billed n l v None = of_always v (0, 0)
enrolled_billed n l v (Some a) = refl

billed_enrol : (q n l : ℕ) (v : Service) (xs : List Account) → billed_in q v (put qse_of (enrolled n l (found qse_of n xs)) xs) ≡ billed_in q v xs
billed_enrol q n l v xs =
    let p = billed_put q v (enrolled n l (found qse_of n xs)) xs in
    let m = enrolled_number n l xs (found qse_of n xs) refl in
    let k = enrolled_billed n l v (found qse_of n xs) in
    grind (arith, nat_tests)

billed_supplied : (q n : ℕ) (v w : Service) (ten : BareQuantities) (xs : List Account) (o : Option Account) → found qse_of n xs ≡ o → billed_in q v (supplied w ten o xs) ≡ billed_in q v xs
billed_supplied q n v w ten xs None e = refl
billed_supplied q n v w ten xs (Some a) e =
    let p = billed_put q v (with_quantities w ten a) xs in
    let m = found_number qse_of n xs a e in
    grind (arith, nat_tests)

-- a change of each account that keeps its number is seen in look-ups
pub found_changed : {A : Type 0} (f : ℕ → Account → Account) (g k : Account → A) → ((i : ℕ) (a : Account) → qse_of (f i a) ≡ qse_of a) → ((i : ℕ) (a : Account) → g (f i a) ≡ k a) → (q i : ℕ) (xs : List Account) → option_map g (found qse_of q (map_from i f xs)) ≡ option_map k (found qse_of q xs)
found_changed f g k n e q i [] = refl
found_changed f g k n e q i (x ∷ xs) =
    let ih = found_changed f g k n e q (suc i) xs in
    let a = n i x in
    let b = e i x in
    grind (arith, nat_tests)

map_as_from : (f : Account → Account) (i : ℕ) (xs : List Account) → map f xs ≡ map_from i (λ _ a. f a) xs
map_as_from f i [] = refl
map_as_from f i (x ∷ xs) = ap (λ r. f x ∷ r) (map_as_from f (suc i) xs)

billed_settled : (q : ℕ) (v : Service) (e : Meaning) (p : BarePrices) (rs : List ResourceRow) (all : List Account) (i : ℕ) (xs : List Account) → billed_in q v (map_from i (settled_account e p rs all) xs) ≡ billed_in q v xs
billed_settled q v e p rs all i xs = ap (λ o. pair_in o v) (found_changed (settled_account e p rs all) (λ a. a.billed) (λ a. a.billed) (λ i a. refl) (λ i a. refl) q i xs)

billed_issued : (q : ℕ) (v : Service) (xs : List Account) → billed_in q v (map billed_account xs) ≡ settled_in q v xs
billed_issued q v xs = ap (λ ys. billed_in q v ys) (map_as_from billed_account 0 xs) ∙ ap (λ o. pair_in o v) (found_changed (λ _ a. billed_account a) (λ a. a.billed) (λ a. a.settled) (λ i a. refl) (λ i a. refl) q 0 xs)

pub is_issue : Call → Bool
is_issue (enrol n l) = false
is_issue (quantities n v ten) = false
is_issue (enter n q k f) = false
is_issue (strike n) = false
is_issue (prices v p) = false
is_issue (interval v p) = false
is_issue (draft m) = false
is_issue (issue n) = true
is_issue (drop n) = false

-- an issue, or another call
by_issue : (P : Call → Type 0) → ((n : ℕ) → P (issue n)) → ((c : Call) → is_issue c ≡ false → P c) → (c : Call) → P c
unfolding is_issue
by_issue P p q (enrol n l) = q (enrol n l) refl
by_issue P p q (quantities n v ten) = q (quantities n v ten) refl
by_issue P p q (enter n o k f) = q (enter n o k f) refl
by_issue P p q (strike n) = q (strike n) refl
by_issue P p q (prices v x) = q (prices v x) refl
by_issue P p q (interval v x) = q (interval v x) refl
by_issue P p q (draft m) = q (draft m) refl
by_issue P p q (issue n) = p n
by_issue P p q (drop n) = q (drop n) refl

-- two books that billed the same: each QSE in each service, and in all
unfoldable pub SameBilled : State → State → Type 0
SameBilled s t = ((q : ℕ) (v : Service) → billed_in q v t.qses ≡ billed_in q v s.qses) × (billed_charges t.qses ≡ billed_charges s.qses) × (billed_credits t.qses ≡ billed_credits s.qses)

-- the sum of something that an enrolment keeps and a new account has none of
sum_enrolled : (f : Account → ℤ) → ((n l : ℕ) → f (new_account n l) ≡ pos 0) → ((l : ℕ) (a : Account) → f (with_load l a) ≡ f a) → (n l : ℕ) (xs : List Account) (o : Option Account) → found qse_of n xs ≡ o → Rising qse_of xs → sum_z f (put qse_of (enrolled n l o) xs) ≡ sum_z f xs
sum_enrolled f z w n l xs None e up =
    let p = sum_z_put_new qse_of f (new_account n l) xs e in
    let a = z n l in
    omega (arith, ints)
sum_enrolled f z w n l xs (Some a) e up =
    let m = found_number qse_of n xs a e in
    let here : found qse_of a.row.number xs ≡ Some a = subst (λ (k : ℕ). found qse_of k xs ≡ Some a) (sym m) e in
    sum_z_put_same qse_of f (with_load l a) xs a up here (w l a)

sum_supplied : (f : Account → ℤ) → ((v : Service) (ten : BareQuantities) (a : Account) → f (with_quantities v ten a) ≡ f a) → (n : ℕ) (v : Service) (ten : BareQuantities) (xs : List Account) (o : Option Account) → found qse_of n xs ≡ o → Rising qse_of xs → sum_z f (supplied v ten o xs) ≡ sum_z f xs
sum_supplied f w n v ten xs None e up = refl
sum_supplied f w n v ten xs (Some a) e up =
    let m = found_number qse_of n xs a e in
    let here : found qse_of a.row.number xs ≡ Some a = subst (λ (k : ℕ). found qse_of k xs ≡ Some a) (sym m) e in
    sum_z_put_same qse_of f (with_quantities v ten a) xs a up here (w v ten a)

charges_billed : Account → ℤ
charges_billed a = over_services (λ s. pos (of s a.billed).0)

credits_billed : Account → ℤ
credits_billed a = over_services (λ s. pos (of s a.billed).1)

same_billed : (s : State) → SameBilled s s
unfolding SameBilled
same_billed s = (λ q v. refl, refl, refl)

-- only an issue bills
pub carried_billed : (s : State) (c : Call) → Kept s → is_issue c ≡ false → SameBilled s (carried_out s c)
unfolding SameBilled Kept is_issue charges_billed credits_billed
carried_billed s (enrol n l) k i = (λ q v. billed_enrol q n l v s.qses, sum_enrolled charges_billed (λ n l. refl) (λ l a. refl) n l s.qses (found qse_of n s.qses) refl k.0, sum_enrolled credits_billed (λ n l. refl) (λ l a. refl) n l s.qses (found qse_of n s.qses) refl k.0)
carried_billed s (quantities n w ten) k i =
    read_keep (SameBilled s) (service_of w) _ s (same_billed s)
    (λ u _. (λ q v. billed_supplied q n v u ten s.qses (found qse_of n s.qses) refl, sum_supplied charges_billed (λ v t a. refl) n u ten s.qses (found qse_of n s.qses) refl k.0, sum_supplied credits_billed (λ v t a. refl) n u ten s.qses (found qse_of n s.qses) refl k.0))
carried_billed s (enter n q w f) k i = read_keep (SameBilled s) (class_of w) _ s (same_billed s) (λ u _. same_billed s)
carried_billed s (strike n) k i = same_billed s
carried_billed s (prices w p) k i = read_keep (SameBilled s) (service_of w) _ s (same_billed s) (λ u _. same_billed s)
carried_billed s (interval w p) k i = read_keep (SameBilled s) (interval_of w) _ s (same_billed s) (λ u _. same_billed s)
carried_billed s (draft m) k i = (λ q v. billed_settled q v m s.prices s.resources s.qses 0 s.qses, settled_billed_charges m s.prices s.resources s.qses, settled_billed_credits m s.prices s.resources s.qses)
carried_billed s (issue n) k i = absurd (let z : ◌≡◌ {A = ℕ} 0 1 = cc in omega arith)
carried_billed s (drop n) k i = same_billed s

-- where an answer states no lines a sum over lines stays
pub by_lines : (F : List Line → ℤ) → F [] ≡ pos 0 → (R : ℤ → State → Type 0) (o : Option Refusal) (a : Answer) (z : ℤ) (s t : State) → R z s → (o ≡ None → R (F (lines_of a) +ℤ z) t) → R (F (lines_of (answer_by o a)) +ℤ z) (state_by o t s)
by_lines F e R None a z s t p q = q refl
by_lines F e R (Some r) a z s t p q =
    let same : F [] +ℤ z ≡ z = omega (arith, ints) in
    subst (λ (y : ℤ). R y s) (sym same) p

-- calls other than an issue are answered without lines
done_unless_issue : (s : State) (c : Call) → is_issue c ≡ false → lines_of (granted s c) ≡ []
unfolding is_issue
done_unless_issue s (enrol n l) e = refl
done_unless_issue s (quantities n v ten) e = refl
done_unless_issue s (enter n q k f) e = refl
done_unless_issue s (strike n) e = refl
done_unless_issue s (prices v p) e = refl
done_unless_issue s (interval v p) e = refl
done_unless_issue s (draft m) e = refl
done_unless_issue s (issue n) e = absurd (let z : ◌≡◌ {A = ℕ} 0 1 = cc in omega arith)
done_unless_issue s (drop n) e = refl

-- one of the two figures of a pair, as a natural and as an integer
module _ (nat : ℕ × ℕ → ℕ) (int : ℤ × ℤ → ℤ) (differ : (x y : ℕ × ℕ) → int (less x y) ≡ pos (nat x) -ℤ pos (nat y)) (none : nat (0, 0) ≡ 0) where
  FigureAgrees : ℕ → Service → ℤ → State → Type 0
  FigureAgrees q v z s = z ≡ pos (nat (billed_in q v s.qses))

  -- a QSE's line is what is settled for it less what it was billed
  line_of_lem : (q : ℕ) (v : Service) (o : Option Account) → value_z (λ a. int (of v (line_of a))) o +ℤ pos (nat (pair_in (option_map (λ a. a.billed) o) v)) ≡ pos (nat (pair_in (option_map (λ a. a.settled) o) v))
  line_of_lem q v None = omega (arith, ints)
  line_of_lem q v (Some a) =
      let e : int (of v (line_of a)) ≡ pos (nat (of v a.settled)) -ℤ pos (nat (of v a.billed)) = ap int (of_by_service (λ s. less (of s a.settled) (of s a.billed)) v) ∙ differ (of v a.settled) (of v a.billed) in
      omega (arith, ints)

  stated_figure : (q : ℕ) (v : Service) (s : State) → Rising qse_of s.qses → sum_z (line_figure int q v) (statement s) ≡ value_z (λ a. int (of v (line_of a))) (found qse_of q s.qses)
  stated_figure q v s up = sum_z_map (line_figure int q v) _ s.qses ∙ sum_z_found qse_of (λ a. int (of v (line_of a))) q s.qses up

  figure_issued : (q : ℕ) (v : Service) (z : ℤ) (s : State) → Rising qse_of s.qses → z ≡ pos (nat (billed_in q v s.qses)) → sum_z (line_figure int q v) (statement s) +ℤ z ≡ pos (nat (billed_in q v (map billed_account s.qses)))
  figure_issued q v z s up e =
      let a = stated_figure q v s up in
      let b = line_of_lem q v (found qse_of q s.qses) in
      let c = billed_issued q v s.qses in
      let d : pos (nat (billed_in q v (map billed_account s.qses))) ≡ pos (nat (settled_in q v s.qses)) = ap (λ p. pos (nat p)) c in
      omega (arith, ints)

  figure_other : (q : ℕ) (v : Service) (z : ℤ) (s : State) (c : Call) → is_issue c ≡ false → Kept s → FigureAgrees q v z s → FigureAgrees q v (sum_z (line_figure int q v) (lines_of (granted s c)) +ℤ z) (carried_out s c)
  unfolding FigureAgrees SameBilled
  figure_other q v z s c i k e =
      let l : sum_z (line_figure int q v) (lines_of (granted s c)) ≡ pos 0 = ap (sum_z (line_figure int q v)) (done_unless_issue s c i) in
      let b : pos (nat (billed_in q v (carried_out s c).qses)) ≡ pos (nat (billed_in q v s.qses)) = ap (λ p. pos (nat p)) ((carried_billed s c k i).0 q v) in
      omega (arith, ints)

  figure_step : (q : ℕ) (v : Service) (z : ℤ) (s : State) (c : Call) → Kept s → FigureAgrees q v z s → FigureAgrees q v (sum_z (line_figure int q v) (lines_of (granted s c)) +ℤ z) (carried_out s c)
  unfolding FigureAgrees Kept
  figure_step q v z s c = by_issue (λ d. Kept s → FigureAgrees q v z s → FigureAgrees q v (sum_z (line_figure int q v) (lines_of (granted s d)) +ℤ z) (carried_out s d)) (λ n k e. figure_issued q v z s k.0 e) (λ d i k e. figure_other q v z s d i k e) c

  figure_agrees : (q : ℕ) (v : Service) {h : History} {s : State} → Lived h s → FigureAgrees q v (billed_figure int h q v) s
  unfolding FigureAgrees
  figure_agrees q v (opening n a b) = ap pos (sym none)
  figure_agrees q v (then {h} {s} c l) = by_lines (sum_z (line_figure int q v)) refl (FigureAgrees q v) (refusal s c) (granted s c) (billed_figure int h q v) s (carried_out s c) (figure_agrees q v l) (λ _. figure_step q v (billed_figure int h q v) s c (lived_keep l) (figure_agrees q v l))

  -- what the lines of a QSE add up to is what it was billed
  pub figure_is_billed : {h : History} {s : State} → Lived h s → (q : ℕ) (v : Service) → billed_figure int h q v ≡ pos (nat (billed_in q v s.qses))
  unfolding FigureAgrees
  figure_is_billed l q v = figure_agrees q v l

-- what a book billed a QSE in a service, by its lines, is what its account has
pub billed_is : {h : History} {s : State} → Lived h s → (q : ℕ) (v : Service) → billed_of h q v ≡ (pos (billed_in q v s.qses).0, pos (billed_in q v s.qses).1)
billed_is l q v = λ i. (figure_is_billed (λ p. p.0) charge (λ x y. refl) refl l q v i, figure_is_billed (λ p. p.1) credit (λ x y. refl) refl l q v i)

-- one of the two figures in all lines, and in all accounts settled and billed
module _ (int : ℤ × ℤ → ℤ) (settledAll billedAll : List Account → ℤ) (issuing : (s : State) → sum_z (λ (l : Line). over_services (λ s. int (of s l.figures))) (statement s) ≡ settledAll s.qses -ℤ billedAll s.qses) (billing : (xs : List Account) → billedAll (map billed_account xs) ≡ settledAll xs) (keeping : (s : State) (c : Call) → Kept s → is_issue c ≡ false → billedAll (carried_out s c).qses ≡ billedAll s.qses) (none : billedAll [] ≡ pos 0) where
  abbrev all_lines : List Line → ℤ
  all_lines ls = sum_z (λ (l : Line). over_services (λ s. int (of s l.figures))) ls

  TotalAgrees : ℤ → State → Type 0
  TotalAgrees z s = z ≡ billedAll s.qses

  total_issued : (z : ℤ) (s : State) → z ≡ billedAll s.qses → all_lines (statement s) +ℤ z ≡ billedAll (map billed_account s.qses)
  total_issued z s e = let a = issuing s in let b = billing s.qses in omega (arith, ints)

  total_other : (z : ℤ) (s : State) (c : Call) → is_issue c ≡ false → Kept s → TotalAgrees z s → TotalAgrees (all_lines (lines_of (granted s c)) +ℤ z) (carried_out s c)
  unfolding TotalAgrees
  total_other z s c i k e =
      let l : all_lines (lines_of (granted s c)) ≡ pos 0 = ap all_lines (done_unless_issue s c i) in
      let b = keeping s c k i in
      omega (arith, ints)

  total_step : (z : ℤ) (s : State) (c : Call) → Kept s → TotalAgrees z s → TotalAgrees (all_lines (lines_of (granted s c)) +ℤ z) (carried_out s c)
  unfolding TotalAgrees
  total_step z s c = by_issue (λ d. Kept s → TotalAgrees z s → TotalAgrees (all_lines (lines_of (granted s d)) +ℤ z) (carried_out s d)) (λ n k e. total_issued z s e) (λ d i k e. total_other z s d i k e) c

  total_agrees : {h : History} {s : State} → Lived h s → TotalAgrees (total_figure int h) s
  unfolding TotalAgrees
  total_agrees (opening n a b) = sym none
  total_agrees (then {h} {s} c l) = by_lines all_lines refl TotalAgrees (refusal s c) (granted s c) (total_figure int h) s (carried_out s c) (total_agrees l) (λ _. total_step (total_figure int h) s c (lived_keep l) (total_agrees l))

  pub total_is_billed : {h : History} {s : State} → Lived h s → total_figure int h ≡ billedAll s.qses
  unfolding TotalAgrees
  total_is_billed l = total_agrees l

charges_kept : (s : State) (c : Call) → Kept s → is_issue c ≡ false → billed_charges (carried_out s c).qses ≡ billed_charges s.qses
unfolding SameBilled
charges_kept s c k i = (carried_billed s c k i).1

credits_kept : (s : State) (c : Call) → Kept s → is_issue c ≡ false → billed_credits (carried_out s c).qses ≡ billed_credits s.qses
unfolding SameBilled
credits_kept s c k i = (carried_billed s c k i).2

-- the charges of all lines are the charges billed, and so for the credits
pub charges_total : {h : History} {s : State} → Lived h s → total_figure charge h ≡ billed_charges s.qses
charges_total l = total_is_billed charge settled_charges billed_charges (λ s. statement_charges s.qses) billed_charges_lem charges_kept refl l

pub credits_total : {h : History} {s : State} → Lived h s → total_figure credit h ≡ billed_credits s.qses
credits_total l = total_is_billed credit settled_credits billed_credits (λ s. statement_credits s.qses) billed_credits_lem credits_kept refl l

-- what lies behind the last issue: what was settled at it is what was billed since
pub record IssuedAt (b : History) (s : State) : Type 0 where
  pub book : State
  pub lived : Lived b book
  pub drafted : book.drafted ≡ true
  pub pairs : (q : ℕ) (v : Service) → billed_in q v s.qses ≡ settled_in q v book.qses
  pub charges : billed_charges s.qses ≡ settled_charges book.qses
  pub credits : billed_credits s.qses ≡ settled_credits book.qses

pub record Unissued (s : State) : Type 0 where
  pub charges : billed_charges s.qses ≡ pos 0
  pub credits : billed_credits s.qses ≡ pos 0

unfoldable pub IssueOf : Option History → State → Type 0
IssueOf None s = Unissued s
IssueOf (Some b) s = IssuedAt b s

issue_other : (x : Option History) (s t : State) → SameBilled s t → IssueOf x s → IssueOf x t
unfolding IssueOf SameBilled
issue_other None s t b u = record { charges = b.1 ∙ u.charges; credits = b.2 ∙ u.credits }
issue_other (Some h) s t b u = record { book = u.book; lived = u.lived; drafted = u.drafted; pairs = λ q v. b.0 q v ∙ u.pairs q v; charges = b.1 ∙ u.charges; credits = b.2 ∙ u.credits }

statement_by_issue : (s : State) (c : Call) → is_issue c ≡ false → is_statement (granted s c) ≡ false
unfolding is_issue
statement_by_issue s (enrol n l) e = refl
statement_by_issue s (quantities n v ten) e = refl
statement_by_issue s (enter n q k f) e = refl
statement_by_issue s (strike n) e = refl
statement_by_issue s (prices v p) e = refl
statement_by_issue s (interval v p) e = refl
statement_by_issue s (draft m) e = refl
statement_by_issue s (issue n) e = absurd (let z : ◌≡◌ {A = ℕ} 0 1 = cc in omega arith)
statement_by_issue s (drop n) e = refl

issue_step : (h : History) (s : State) (c : Call) → Lived h s → refusal s c ≡ None → IssueOf (last_issue h) s → IssueOf (cond (is_statement (granted s c)) (Some h) (last_issue h)) (carried_out s c)
unfolding IssueOf
issue_step h s c l = by_issue (λ d. refusal s d ≡ None → IssueOf (last_issue h) s → IssueOf (cond (is_statement (granted s d)) (Some h) (last_issue h)) (carried_out s d))
    (λ n r u. record { book = s; lived = l; drafted = drafted_before_issue s n r; pairs = λ q v. billed_issued q v s.qses; charges = billed_charges_lem s.qses; credits = billed_credits_lem s.qses })
    (λ d i r u. rw (statement_by_issue s d i) (issue_other (last_issue h) s (carried_out s d) (carried_billed s d (lived_keep l) i) u)) c

by_statement : (o : Option Refusal) (a : Answer) (h : History) (x : Option History) (s t : State) → IssueOf x s → (o ≡ None → IssueOf (cond (is_statement a) (Some h) x) t) → IssueOf (cond (is_statement (answer_by o a)) (Some h) x) (state_by o t s)
by_statement None a h x s t p q = q refl
by_statement (Some r) a h x s t p q = p

-- what lies behind the last issue of a lived book
pub issue_behind : {h : History} {s : State} → Lived h s → IssueOf (last_issue h) s
unfolding IssueOf
issue_behind (opening n q r) = record { charges = refl; credits = refl }
issue_behind (then {h} {s} c l) = by_statement (refusal s c) (granted s c) h (last_issue h) s (carried_out s c) (issue_behind l) (λ e. issue_step h s c l e (issue_behind l))
