-- Every resource of a lived book stands under a QSE that is enrolled.
use Rattle.std.proofs.Common.{◌≡◌, ℕ, Bool, true, false, cond, not, ◌&&◌, eqb, List, map, ℤ, pos, is_some, is_ok, Some, None, Option, sym, refl, ap, ◌∙◌, arith}
use Rattle.std.specs.Option.{option_map}
use Rattle.std.proofs.lemmas.Int.{ints}
use Rattle.std.proofs.lemmas.Bool.Decides.{nat_tests}
use Rattle.terms.specs.declared.refusal.Refusal.{Refusal}
use Rattle.terms.specs.declared.refusal.Refusal.TheVariants.{DraftOpen, NumberOutOfRange, FigureOutOfRange, NotEnrolled, NoFreeSlot}
use Rattle.market.specs.declared.resource.ResourceRow.{ResourceRow}
use Rattle.terms.specs.declared.service.Service.{Service}
use Rattle.market.specs.Shapes.{BareQuantities}
use Rattle.terms.specs.Services.{service_of}
use Rattle.terms.specs.Intervals.{interval_of}
use Rattle.terms.specs.Classes.{class_of}
use Rattle.market.specs.Limits.{numbered, figures_within}
use Rattle.table.specs.Rows.{Rising, found, known, fits, put}
use Rattle.table.proofs.Laws.{found_put_same, found_put_other}
use Rattle.history.specs.declared.account.Account.{Account}
use Rattle.history.specs.Settlement.{sum_z}
use Rattle.history.specs.Calls.{State, Call, enrol, quantities, enter, strike, prices, interval, draft, issue, drop, qse_of, resource_of, refusal, carried_out, supplied, enrolled, with_quantities, unless}
use Rattle.history.specs.Histories.{History, Lived, opening, then}
use Rattle.history.proofs.Lists.{sum_z_cong, others, sum_z_others, sum_z_put_others, sum_z_removed_others}
use Rattle.history.proofs.Living.{Kept, read_keep, lived_keep, by_refusal, settled_keep_rows, billed_keep_rows}
use Rattle.history.proofs.Words.{row_by_rows}

-- what the rows of a QSE add up to
abbrev pub under : ℕ → (ResourceRow → ℤ) → ResourceRow → ℤ
under q f r = cond (eqb r.qse q) (f r) (pos 0)

-- a QSE that is not enrolled has no rows
unfoldable pub NoOrphans : State → Type 0
NoOrphans s = (q : ℕ) → found qse_of q s.qses ≡ None → (f : ResourceRow → ℤ) → sum_z (under q f) s.resources ≡ pos 0

-- a QSE that is not there after a put was not there before
absent_before_put : (q : ℕ) (a : Account) (xs : List Account) → found qse_of q (put qse_of a xs) ≡ None → found qse_of q xs ≡ None
absent_before_put q a xs e =
    let same = found_put_same qse_of a xs in
    let other = found_put_other qse_of a xs q in
    grind (arith, nat_tests)

absent_before_supply : (q : ℕ) (v : Service) (ten : BareQuantities) (o : Option Account) (xs : List Account) → found qse_of q (supplied v ten o xs) ≡ None → found qse_of q xs ≡ None
absent_before_supply q v ten None xs e = e
absent_before_supply q v ten (Some a) xs e = absent_before_put q (with_quantities v ten a) xs e

no_row : (o : Option Account) → option_map (λ a. a.row) o ≡ None → o ≡ None
no_row None e = refl
no_row (Some a) e = absurd (let z : ◌≡◌ {A = ℕ} 0 1 = cc in omega arith)

absent_by_rows : (q : ℕ) (xs ys : List Account) → map (λ a. a.row) xs ≡ map (λ a. a.row) ys → found qse_of q xs ≡ None → found qse_of q ys ≡ None
absent_by_rows q xs ys e n = no_row (found qse_of q ys) (sym (row_by_rows q xs ys e) ∙ ap (option_map (λ a. a.row)) n)

-- rows without one number
swapped : (a b : Bool) (z : ℤ) → cond a (pos 0) (cond b z (pos 0)) ≡ cond b (cond a (pos 0) z) (pos 0)
swapped true true z = refl
swapped true false z = refl
swapped false true z = refl
swapped false false z = refl

others_none : (n q : ℕ) (xs : List ResourceRow) → ((f : ResourceRow → ℤ) → sum_z (under q f) xs ≡ pos 0) → (f : ResourceRow → ℤ) → sum_z (under q f) (others resource_of n xs) ≡ pos 0
others_none n q xs none f =
    sum_z_others resource_of (under q f) n xs
    ∙ sum_z_cong (λ r. cond (eqb (resource_of r) n) (pos 0) (under q f r)) (under q (λ r. cond (eqb (resource_of r) n) (pos 0) (f r))) xs (λ r. swapped (eqb r.number n) (eqb r.qse q) (f r))
    ∙ none (λ r. cond (eqb (resource_of r) n) (pos 0) (f r))

-- a QSE that is known is not one that is absent
known_apart : (p q : ℕ) (xs : List Account) → known qse_of p xs ≡ true → found qse_of q xs ≡ None → eqb p q ≡ false
known_apart p q xs k n = by_test (eqb p q) refl
  where
    by_test : (t : Bool) → eqb p q ≡ t → eqb p q ≡ false
    by_test false e = e
    by_test true e =
        let same : p ≡ q = grind (arith, nat_tests) in
        let here : found qse_of p xs ≡ None = ap (λ m. found qse_of m xs) same ∙ n in
        let gone : is_some (found qse_of p xs) ≡ false = ap is_some here in
        absurd (let z : ◌≡◌ {A = ℕ} 0 1 = cc in omega arith)

entered_none : (q : ℕ) (row : ResourceRow) (s : State) → Rising resource_of s.resources → eqb row.qse q ≡ false → ((f : ResourceRow → ℤ) → sum_z (under q f) s.resources ≡ pos 0) → (f : ResourceRow → ℤ) → sum_z (under q f) (put resource_of row s.resources) ≡ pos 0
entered_none q row s up apart none f =
    let a = sum_z_put_others resource_of (under q f) row s.resources up in
    let b = others_none row.number q s.resources none f in
    let c : under q f row ≡ pos 0 = ap (λ t. cond t (f row) (pos 0)) apart in
    omega (arith, ints)

five_tests : (d n b c k m : Bool) (r q p o w : Refusal) → unless (not d) r (unless n q (unless (b && c) p (unless k o (unless m w None)))) ≡ None → k ≡ true
five_tests d n b c k m r q p o w e = grind (arith, nat_tests)

orphans_step : (s : State) (c : Call) → Kept s → refusal s c ≡ None → NoOrphans s → NoOrphans (carried_out s c)
unfolding NoOrphans Kept
orphans_step s (enrol n l) k r u = λ q e f. u q (absent_before_put q (enrolled n l (found qse_of n s.qses)) s.qses e) f
orphans_step s (quantities n v ten) k r u = read_keep NoOrphans (service_of v) _ s u (λ w _ q e f. u q (absent_before_supply q w ten (found qse_of n s.qses) s.qses e) f)
orphans_step s (enter n p w g) k r u =
    let t = five_tests s.drafted (numbered n && numbered p) (is_ok (class_of w)) (figures_within g) (known qse_of p s.qses) (fits resource_of s.resource_slots n s.resources) DraftOpen NumberOutOfRange FigureOutOfRange NotEnrolled NoFreeSlot r in
    read_keep NoOrphans (class_of w) _ s u (λ c _ q e f. entered_none q (record { number = n; qse = p; class = c; figures = g }) s k.1 (known_apart p q s.qses t e) (u q e) f)
orphans_step s (strike n) k r u = λ q e f. sum_z_removed_others resource_of (under q f) n s.resources k.1 ∙ others_none n q s.resources (u q e) f
orphans_step s (prices v p) k r u = read_keep NoOrphans (service_of v) _ s u (λ w _. u)
orphans_step s (interval v p) k r u = read_keep NoOrphans (interval_of v) _ s u (λ w _. u)
orphans_step s (draft m) k r u = λ q e f. u q (absent_by_rows q _ s.qses (settled_keep_rows m s.prices s.resources s.qses 0 s.qses) e) f
orphans_step s (issue n) k r u = λ q e f. u q (absent_by_rows q _ s.qses (billed_keep_rows s.qses) e) f
orphans_step s (drop n) k r u = u

no_orphans_by : {h : History} {s : State} → Lived h s → NoOrphans s
unfolding NoOrphans
no_orphans_by (opening n q r) = λ q e f. refl
no_orphans_by (then {h} {s} c l) = by_refusal NoOrphans (refusal s c) s (carried_out s c) (no_orphans_by l) (λ e. orphans_step s c (lived_keep l) e (no_orphans_by l))

-- a QSE that is not enrolled in a lived book has no rows
pub no_orphans : {h : History} {s : State} → Lived h s → (q : ℕ) → found qse_of q s.qses ≡ None → (f : ResourceRow → ℤ) → sum_z (under q f) s.resources ≡ pos 0
unfolding NoOrphans
no_orphans l = no_orphans_by l
