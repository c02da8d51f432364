-- The distinction law.
use Rattle.std.proofs.Common.{◌≡◌, ℕ, suc, ◌≤◌, Bool, true, false, cond, ◌&&◌, eqb, List, [], ◌∷◌, map, ℤ, pos, negsuc, nat_abs, Some, None, sum, Option, unwrap_or, sym, refl, ap, ◌∙◌, subst, arith}
use Rattle.std.specs.Option.{option_map}
use Rattle.std.proofs.lemmas.Int.{ints}
use Rattle.std.proofs.lemmas.Bool.Decides.{nat_tests}
use Rattle.terms.specs.declared.service.Service.{Service}
use Rattle.terms.specs.declared.service.Service.TheVariants.{RegUp, RegDown, Responsive, NonSpin, Ecrs}
use Rattle.terms.specs.declared.service.ByService.{ByService}
use Rattle.terms.specs.declared.class.Class.{Class}
use Rattle.market.specs.declared.resource.ResourceRow.{ResourceRow}
use Rattle.market.specs.Shapes.{BareFigures}
use Rattle.market.specs.Shapes.{BareQuantities}
use Rattle.market.specs.Shapes.{BarePrices}
use Rattle.terms.specs.Services.{of}
use Rattle.terms.specs.Classes.{class_number}
use Rattle.market.specs.Limits.{quantities_within}
use Rattle.market.specs.Bare.{no_quantities}
use Rattle.market.proofs.Within.{quantities_at_most}
use Rattle.editions.specs.Meaning.{Meaning}
use Rattle.charges.specs.Section.{Between}
use Rattle.apportion.specs.Shares.{share}
use Rattle.table.specs.Rows.{found}
use Rattle.history.specs.declared.account.Account.{Account}
use Rattle.history.specs.Settlement.{by_service, sum_z, counts_for, charge_for, charges_for, loads, map_from, settled_account, settled_accounts}
use Rattle.history.specs.Calls.{State, Line, enrol, quantities, enter, strike, prices, interval, draft, issue, drop, refused, done, stated, qse_of, settled_under}
use Rattle.history.specs.Histories.{History, Lived, load_of, quantities_of, rows, prices_of, charge_at, same_figures, is_one, occurrences, last_issue, last_draft, billed_of, redraft, reissue}
use Rattle.history.specs.Law.{PutUnder, SameQses, SamePrices, RowsMatch, SameBills, DistinctionLaw, LawAt}
use Rattle.history.proofs.Lists.{count_by_sum_z, sum_z_cong, same_counts_same_sums, rising_same_lookups}
use Rattle.history.proofs.Living.{Kept, lived_keep}
use Rattle.history.proofs.Words.{row_in, quantities_in, load_agrees, quantities_agree, prices_agree}
use Rattle.history.proofs.Issues.{DraftOf, draft_behind, rows_agree, pair_in, settled_in, billed_is, IssueOf, issue_behind}
use Rattle.history.proofs.Totals.{of_by_service}
use Rattle.history.proofs.Reissue.{every_edition}
use Rattle.history.proofs.Orphans.{under, no_orphans}
use Rattle.history.proofs.Balance.{charge_agrees, row_settled, balance_law}

-- an edition put under the last issue changes what lies behind it, and nothing older
reissue_last : (e : Meaning) (lines : List Line) (h b : History) → last_issue h ≡ Some b → last_issue (reissue e lines h) ≡ Some (redraft e b)
reissue_last e lines [] b i = absurd (let z : ◌≡◌ {A = ℕ} 0 1 = cc in omega arith)
reissue_last e lines ((c, refused r) ∷ h) b i = reissue_last e lines h b i
reissue_last e lines ((c, done) ∷ h) b i = reissue_last e lines h b i
reissue_last e lines ((c, stated ls) ∷ h) b i = ap (option_map (redraft e)) i

redraft_last : (e : Meaning) (h : History) (m : Meaning) (d : History) → last_draft h ≡ Some (m, d) → last_draft (redraft e h) ≡ Some (e, d)
redraft_last e [] m d i = absurd (let z : ◌≡◌ {A = ℕ} 0 1 = cc in omega arith)
redraft_last e ((c, refused r) ∷ h) m d i = redraft_last e h m d i
redraft_last e ((draft w, done) ∷ h) m d i = ap (λ (o : Option (Meaning × History)). option_map (λ x. (e, x.1)) o) i
redraft_last e ((enrol n l, done) ∷ h) m d i = redraft_last e h m d i
redraft_last e ((quantities n v ten, done) ∷ h) m d i = redraft_last e h m d i
redraft_last e ((enter n q k f, done) ∷ h) m d i = redraft_last e h m d i
redraft_last e ((strike n, done) ∷ h) m d i = redraft_last e h m d i
redraft_last e ((prices v p, done) ∷ h) m d i = redraft_last e h m d i
redraft_last e ((interval v p, done) ∷ h) m d i = redraft_last e h m d i
redraft_last e ((issue n, done) ∷ h) m d i = redraft_last e h m d i
redraft_last e ((drop n, done) ∷ h) m d i = redraft_last e h m d i
redraft_last e ((draft w, stated ls) ∷ h) m d i = ap (λ (o : Option (Meaning × History)). option_map (λ x. (e, x.1)) o) i
redraft_last e ((enrol n l, stated ls) ∷ h) m d i = redraft_last e h m d i
redraft_last e ((quantities n v ten, stated ls) ∷ h) m d i = redraft_last e h m d i
redraft_last e ((enter n q k f, stated ls) ∷ h) m d i = redraft_last e h m d i
redraft_last e ((strike n, stated ls) ∷ h) m d i = redraft_last e h m d i
redraft_last e ((prices v p, stated ls) ∷ h) m d i = redraft_last e h m d i
redraft_last e ((interval v p, stated ls) ∷ h) m d i = redraft_last e h m d i
redraft_last e ((issue n, stated ls) ∷ h) m d i = redraft_last e h m d i
redraft_last e ((drop n, stated ls) ∷ h) m d i = redraft_last e h m d i

-- a pair of naturals as one of integers
abbrev signed : ℕ × ℕ → ℤ × ℤ
signed p = (pos p.0, pos p.1)

-- an issue of a book: the edition of its draft, the history before that draft, and the book then
record Behind (h b : History) : Type 0 where
  edition : Meaning
  older : History
  book : State
  at : State
  drafted : last_draft b ≡ Some (edition, older)
  lived : Lived older book
  then_lived : Lived b at
  settled : at ≡ settled_under edition book
  bills : (q : ℕ) (v : Service) → billed_of h q v ≡ signed (settled_in q v (settled_accounts edition book.prices book.resources book.qses))

behind_by : (h b : History) (s : State) → Lived h s → (x : Option History) → x ≡ Some b → IssueOf x s → Behind h b
unfolding IssueOf DraftOf
behind_by h b s l None i u = absurd (let z : ◌≡◌ {A = ℕ} 0 1 = cc in omega arith)
behind_by h b s l (Some c) i u =
    let same : c ≡ b = cc in
    let k = draft_behind u.lived u.drafted in
    record { edition = k.0; older = k.1; book = k.2; at = u.book; drafted = ap last_draft (sym same) ∙ k.3; lived = k.4; then_lived = subst (λ (x : History). Lived x u.book) same u.lived; settled = k.5; bills = λ q v. billed_is l q v ∙ ap signed (u.pairs q v ∙ ap (λ x. settled_in q v x.qses) k.5) }

behind : (h b : History) (s : State) → Lived h s → last_issue h ≡ Some b → Behind h b
behind h b s l i = behind_by h b s l (last_issue h) i (issue_behind l)

-- the rows rest while a draft is open: the words at an issue are those at its draft
module _ (h b : History) (x : Behind h b) where
  rest_loads : (q : ℕ) → load_of b q ≡ load_of x.older q
  rest_loads q = load_agrees x.then_lived q ∙ ap (λ s. option_map (λ r. r.load) (row_in q s.qses)) x.settled ∙ ap (option_map (λ r. r.load)) (row_settled q x.edition x.book) ∙ sym (load_agrees x.lived q)

  rest_quantities : (q : ℕ) (v : Service) → quantities_of b q v ≡ quantities_of x.older q v
  rest_quantities q v = quantities_agree x.then_lived q v ∙ ap (λ s. quantities_in (row_in q s.qses) v) x.settled ∙ ap (λ o. quantities_in o v) (row_settled q x.edition x.book) ∙ sym (quantities_agree x.lived q v)

  rest_prices : prices_of b ≡ prices_of x.older
  rest_prices = prices_agree x.then_lived ∙ ap (λ s. s.prices) x.settled ∙ sym (prices_agree x.lived)

  rest_sums : (f : ResourceRow → ℤ) → sum_z f (rows b) ≡ sum_z f (rows x.older)
  rest_sums f = rows_agree x.then_lived f ∙ ap (λ s. sum_z f s.resources) x.settled ∙ sym (rows_agree x.lived f)

  rest_occurrences : (q : ℕ) (k : Class) (f : BareFigures) → occurrences b q k f ≡ occurrences x.older q k f
  rest_occurrences q k f =
      let e = count_by_sum_z (is_one q k f) (rows b) ∙ rest_sums (λ r. cond (is_one q k f r) (pos 1) (pos 0)) ∙ sym (count_by_sum_z (is_one q k f) (rows x.older)) in
      ap nat_abs e

-- a history with an edition put under its last issue has the same history before that draft
record Put (e : Meaning) (older : History) (g : History) : Type 0 where
  book : State
  lived : Lived older book
  bills : (q : ℕ) (v : Service) → billed_of g q v ≡ signed (settled_in q v (settled_accounts e book.prices book.resources book.qses))

put_behind : (e : Meaning) (h b : History) (x : Behind h b) → last_issue h ≡ Some b → (g : History) → PutUnder e h g → Put e x.older g
put_behind e h b x i g (lines, s, same, l) =
    let y = behind g (redraft e b) s l (ap last_issue same ∙ reissue_last e lines h b i) in
    let pair : ◌≡◌ {A = Option (Meaning × History)} (Some (y.edition, y.older)) (Some (e, x.older)) = sym y.drafted ∙ redraft_last e b x.edition x.older x.drafted in
    let same-e : y.edition ≡ e = ap (λ (o : Option (Meaning × History)). (unwrap_or o (e, x.older)).0) pair in
    let same-d : y.older ≡ x.older = ap (λ (o : Option (Meaning × History)). (unwrap_or o (e, x.older)).1) pair in
    record { book = y.book; lived = subst (λ (k : History). Lived k y.book) same-d y.lived; bills = λ q v. y.bills q v ∙ ap (λ k. signed (settled_in q v (settled_accounts k y.book.prices y.book.resources y.book.qses))) same-e }

-- what settling looks at of an account: its number, its load and its charges
abbrev Seen : Type 0
Seen = ℕ × (ℕ × ByService ℕ)

abbrev seen_in : Meaning → BarePrices → List ResourceRow → Account → ℕ × ByService ℕ
seen_in e p rs a = (a.row.load, by_service (λ v. charge_for e p rs v a))

abbrev seen : Meaning → BarePrices → List ResourceRow → List Account → List Seen
seen e p rs xs = map {B = Seen} (λ a. (qse_of a, seen_in e p rs a)) xs

-- and what it makes of it
abbrev settled_seen : List Seen → ℕ → Seen → ℕ × ByService (ℕ × ℕ)
settled_seen all i y = (y.0, by_service (λ v. (of v y.1.1, share (sum (map (λ (z : Seen). of v z.1.1) all)) (map (λ (z : Seen). z.1.0) all) i)))

abbrev numbered_pairs : List Account → List (ℕ × ByService (ℕ × ℕ))
numbered_pairs xs = map {B = ℕ × ByService (ℕ × ℕ)} (λ a. (qse_of a, a.settled)) xs

module _ (e : Meaning) (p : BarePrices) (rs : List ResourceRow) where
  seen_charges : (v : Service) (xs : List Account) → charges_for e p rs v xs ≡ map (λ (z : Seen). of v z.1.1) (seen e p rs xs)
  seen_charges v [] = refl
  seen_charges v (x ∷ xs) = λ i. sym (of_by_service (λ w. charge_for e p rs w x) v) i ∷ seen_charges v xs i

  seen_loads : (xs : List Account) → loads xs ≡ map (λ (z : Seen). z.1.0) (seen e p rs xs)
  seen_loads [] = refl
  seen_loads (x ∷ xs) = ap (λ r. x.row.load ∷ r) (seen_loads xs)

  settled_by_seen : (all : List Account) (i : ℕ) (xs : List Account) → numbered_pairs (map_from i (settled_account e p rs all) xs) ≡ map_from i (settled_seen (seen e p rs all)) (seen e p rs xs)
  settled_by_seen all i [] = refl
  settled_by_seen all i (x ∷ xs) = λ j. (qse_of x, by_service (λ v. (sym (of_by_service (λ w. charge_for e p rs w x) v) j, share (sum (seen_charges v all j)) (seen_loads all j) i))) ∷ settled_by_seen all (suc i) xs j

settled_looked_up : (q : ℕ) (v : Service) (xs : List Account) → settled_in q v xs ≡ pair_in (option_map (λ y. y.1) (found (λ y. y.0) q (numbered_pairs xs))) v
settled_looked_up q v [] = refl
settled_looked_up q v (x ∷ xs) = let ih = settled_looked_up q v xs in grind (arith, nat_tests)

-- accounts of which the same is seen are settled alike
same_settled : (e : Meaning) (p r : BarePrices) (rs ss : List ResourceRow) (xs ys : List Account) → seen e p rs xs ≡ seen e r ss ys → (q : ℕ) (v : Service) → settled_in q v (settled_accounts e p rs xs) ≡ settled_in q v (settled_accounts e r ss ys)
same_settled e p r rs ss xs ys same q v =
    let pairs = settled_by_seen e p rs xs 0 xs ∙ ap (λ z. map_from 0 (settled_seen z) z) same ∙ sym (settled_by_seen e r ss ys 0 ys) in
    settled_looked_up q v (settled_accounts e p rs xs) ∙ ap (λ z. pair_in (option_map (λ y. y.1) (found (λ y. y.0) q z)) v) pairs ∙ sym (settled_looked_up q v (settled_accounts e r ss ys))

-- two histories, each with the book that it leads to, that agree in loads, prices and rows
module _ (d c : History) (t u : State) (l : Lived d t) (m : Lived c u) (same-loads : (q : ℕ) → load_of d q ≡ load_of c q) (same-prices : prices_of d ≡ prices_of c) (same-quantities : (q : ℕ) (v : Service) → quantities_of d q v ≡ quantities_of c q v) (same-occurrences : (q : ℕ) (k : Class) (f : BareFigures) → occurrences d q k f ≡ occurrences c q k f) (e : Meaning) where
  same_charge : (q : ℕ) (v : Service) → charge_at e d q v ≡ charge_at e c q v
  same_charge q v = λ i. e.charge v (same-quantities q v i) (same_counts_same_sums (rows d) (rows c) q (same-occurrences q) e v i) (same-prices i)

  same_seen_by : (q : ℕ) (x y : Option Account) → found qse_of q t.qses ≡ x → found qse_of q u.qses ≡ y → option_map (λ r. r.load) (option_map (λ a. a.row) x) ≡ option_map (λ r. r.load) (option_map (λ a. a.row) y) → option_map (seen_in e t.prices t.resources) x ≡ option_map (seen_in e u.prices u.resources) y
  same_seen_by q None None f g s = refl
  same_seen_by q None (Some b) f g s = absurd (let z : ◌≡◌ {A = ℕ} 0 1 = cc in omega arith)
  same_seen_by q (Some a) None f g s = absurd (let z : ◌≡◌ {A = ℕ} 0 1 = cc in omega arith)
  same_seen_by q (Some a) (Some b) f g s =
      let load : a.row.load ≡ b.row.load = cc in
      λ i. Some (load i, by_service (λ v. (sym (charge_agrees l e q v a f) ∙ same_charge q v ∙ charge_agrees m e q v b g) i))

  same_seen : seen e t.prices t.resources t.qses ≡ seen e u.prices u.resources u.qses
  unfolding Kept
  same_seen = rising_same_lookups qse_of qse_of (seen_in e t.prices t.resources) (seen_in e u.prices u.resources) t.qses u.qses (lived_keep l).0 (lived_keep m).0 (λ q. same_seen_by q (found qse_of q t.qses) (found qse_of q u.qses) refl refl (sym (load_agrees l q) ∙ same-loads q ∙ load_agrees m q))

  alike_settled : (q : ℕ) (v : Service) → settled_in q v (settled_accounts e t.prices t.resources t.qses) ≡ settled_in q v (settled_accounts e u.prices u.resources u.qses)
  alike_settled = same_settled e t.prices u.prices t.resources u.resources t.qses u.qses same_seen

-- rows that match are billed alike under every edition
pub match_same_bills : (h k : History) (s t : State) (b d : History) → Lived h s → Lived k t → last_issue h ≡ Some b → last_issue k ≡ Some d → SameQses b d → SamePrices b d → RowsMatch b d → SameBills h k
match_same_bills h k s t b d l m i j people paid match e g c gu cu q v =
    let x = behind h b s l i in
    let y = behind k d t m j in
    let p = put_behind e h b x i g gu in
    let r = put_behind e k d y j c cu in
    p.bills q v ∙ ap signed (alike_settled x.older y.older p.book r.book p.lived r.lived
    (λ q. sym (rest_loads h b x q) ∙ people q ∙ rest_loads k d y q)
    (sym (rest_prices h b x) ∙ paid ∙ rest_prices k d y)
    (λ q v. sym (rest_quantities h b x q v) ∙ match.0 q v ∙ rest_quantities k d y q v)
    (λ q n f. sym (rest_occurrences h b x q n f) ∙ match.1 q n f ∙ rest_occurrences k d y q n f) e q v) ∙ sym (r.bills q v)

-- a QSE's settled charge by the words of the history: 0 where it is not enrolled
abbrev charge_if : Option ℕ → ℕ → ℕ
charge_if None n = 0
charge_if (Some x) n = n

-- the charge of an account, 0 where there is none
abbrev charge_found : Meaning → BarePrices → List ResourceRow → Service → Option Account → ℕ
charge_found e p rs v None = 0
charge_found e p rs v (Some a) = charge_for e p rs v a

first_of : (f g : Service → ℕ) (v : Service) → (of v (by_service {A = ℕ × ℕ} (λ s. (f s, g s)))).0 ≡ f v
first_of f g RegUp = refl
first_of f g RegDown = refl
first_of f g Responsive = refl
first_of f g NonSpin = refl
first_of f g Ecrs = refl

-- the first of a settled pair is the charge
settled_first : (e : Meaning) (p : BarePrices) (rs : List ResourceRow) (all : List Account) (q i : ℕ) (v : Service) (xs : List Account) → (settled_in q v (map_from i (settled_account e p rs all) xs)).0 ≡ charge_found e p rs v (found qse_of q xs)
settled_first e p rs all q i v [] = refl
settled_first e p rs all q i v (x ∷ xs) = by_head (eqb (qse_of x) q) (found qse_of q (map_from (suc i) (settled_account e p rs all) xs)) (found qse_of q xs) (settled_first e p rs all q (suc i) v xs)
  where
    by_head : (t : Bool) (o w : Option Account) → (pair_in (option_map (λ a. a.settled) o) v).0 ≡ charge_found e p rs v w → (pair_in (option_map (λ a. a.settled) (cond t (Some (settled_account e p rs all i x)) o)) v).0 ≡ charge_found e p rs v (cond t (Some x) w)
    by_head true o w ih = first_of (λ s. charge_for e p rs s x) (λ s. share (sum (charges_for e p rs s all)) (loads all) i) v
    by_head false o w ih = ih

charge_found_by : {d : History} {t : State} → Lived d t → (e : Meaning) (q : ℕ) (v : Service) (o : Option Account) → found qse_of q t.qses ≡ o → charge_found e t.prices t.resources v o ≡ charge_if (option_map (λ r. r.load) (option_map (λ a. a.row) o)) (charge_at e d q v)
charge_found_by l e q v None f = refl
charge_found_by l e q v (Some a) f = sym (charge_agrees l e q v a f)

settled_charge : {d : History} {t : State} → Lived d t → (e : Meaning) (q : ℕ) (v : Service) → (settled_in q v (settled_accounts e t.prices t.resources t.qses)).0 ≡ charge_if (load_of d q) (charge_at e d q v)
settled_charge {d} {t} l e q v = settled_first e t.prices t.resources t.qses q 0 v t.qses ∙ charge_found_by l e q v (found qse_of q t.qses) refl ∙ ap (λ o. charge_if o (charge_at e d q v)) (sym (load_agrees l q))

-- an edition that charges one cent for each tenth of a single quantity, and counts nothing
one_quantity : (pick : BareQuantities → ℕ) → ((q : BareQuantities) → quantities_within q ≡ true → pick q ≤ 20000) → Meaning
one_quantity pick most = record { counted = λ s k f. pos 0; charge = λ s q z p. pick q; counted_limit = λ s k f h. (omega (arith, ints), omega (arith, ints)); charge_limit = λ s q z p hq hz hp. let m = most q hq in omega arith }

-- an edition that counts one tenth for one class with its figures, and charges one cent for each tenth that counts
one_kind : Class → BareFigures → Meaning
one_kind k f = record { counted = λ s c g. cond (eqb (class_number c) (class_number k) && same_figures g f) (pos 1) (pos 0); charge = λ s q z p. nat_abs z; counted_limit = λ s c g h. one_or_none (eqb (class_number c) (class_number k) && same_figures g f); charge_limit = λ s q z p hq hz hp. at_most z hz }
  where
    one_or_none : (b : Bool) → Between 3000 (cond b (pos 1) (pos 0))
    one_or_none true = (omega (arith, ints), omega (arith, ints))
    one_or_none false = (omega (arith, ints), omega (arith, ints))

    at_most : (z : ℤ) → Between 768000 z → nat_abs z ≤ 100000000000
    at_most (pos n) h = omega (arith, ints, h.1)
    at_most (negsuc n) h = omega (arith, ints, h.0)

-- under that edition the counted tenths of a QSE are the occurrences of that kind
kind_counted : (k : Class) (f : BareFigures) (d : History) (q : ℕ) (v : Service) → charge_at (one_kind k f) d q v ≡ occurrences d q k f
unfolding one_kind
kind_counted k f d q v = ap nat_abs (sum_z_cong (counts_for (one_kind k f) v q) (λ r. cond (is_one q k f r) (pos 1) (pos 0)) (rows d) each_row ∙ sym (count_by_sum_z (is_one q k f) (rows d)))
  where
    nested : (a b c : Bool) → cond a (cond (b && c) (pos 1) (pos 0)) (pos 0) ≡ cond (a && b && c) (pos 1) (pos 0)
    nested true true c = refl
    nested true false c = refl
    nested false b c = refl

    each_row : (r : ResourceRow) → counts_for (one_kind k f) v q r ≡ cond (is_one q k f r) (pos 1) (pos 0)
    each_row r = nested (eqb r.qse q) (eqb (class_number r.class) (class_number k)) (same_figures r.figures f)

-- two histories whose settled charges are the same under every edition
module _ (d c : History) (t u : State) (l : Lived d t) (m : Lived c u) (same-loads : (q : ℕ) → load_of d q ≡ load_of c q) (same-charges : (e : Meaning) (q : ℕ) (v : Service) → charge_if (load_of d q) (charge_at e d q v) ≡ charge_if (load_of c q) (charge_at e c q v)) where
  charged_alike : (o : Option ℕ) (q : ℕ) (x : ℕ) → load_of d q ≡ o → o ≡ Some x → (e : Meaning) (v : Service) → charge_at e d q v ≡ charge_at e c q v
  charged_alike o q x f s e v =
      let a : load_of d q ≡ Some x = f ∙ s in
      let b : load_of c q ≡ Some x = sym (same-loads q) ∙ a in
      ap (λ k. charge_if k (charge_at e d q v)) (sym a) ∙ same-charges e q v ∙ ap (λ k. charge_if k (charge_at e c q v)) b

  absent : {d : History} {t : State} → Lived d t → (q : ℕ) → load_of d q ≡ None → found qse_of q t.qses ≡ None
  absent {d} {t} l q n = none_mapped (found qse_of q t.qses) (sym (load_agrees l q) ∙ n)
    where
      none_mapped : (o : Option Account) → option_map (λ r. r.load) (option_map (λ a. a.row) o) ≡ None → o ≡ None
      none_mapped None h = refl
      none_mapped (Some a) h = absurd (let z : ◌≡◌ {A = ℕ} 0 1 = cc in omega arith)

  -- a QSE that is not enrolled has no quantities and no rows
  absent_quantities : {d : History} {t : State} → Lived d t → (q : ℕ) (v : Service) → load_of d q ≡ None → quantities_of d q v ≡ no_quantities
  absent_quantities l q v n = quantities_agree l q v ∙ ap (λ o. quantities_in (option_map (λ a. a.row) o) v) (absent l q n)

  nested : (a b : Bool) → cond (a && b) (pos 1) (pos 0) ≡ cond a (cond b (pos 1) (pos 0)) (pos 0)
  nested true b = refl
  nested false b = refl

  absent_occurrences : {d : History} {t : State} → Lived d t → (q : ℕ) (k : Class) (f : BareFigures) → load_of d q ≡ None → occurrences d q k f ≡ 0
  absent_occurrences {d} {t} l q k f n =
      ap nat_abs (count_by_sum_z (is_one q k f) (rows d) ∙ sum_z_cong (λ r. cond (is_one q k f r) (pos 1) (pos 0)) (under q (λ r. cond (eqb (class_number r.class) (class_number k) && same_figures r.figures f) (pos 1) (pos 0))) (rows d) (λ r. nested_three (eqb r.qse q) (eqb (class_number r.class) (class_number k)) (same_figures r.figures f)) ∙ rows_agree l (under q (λ r. cond (eqb (class_number r.class) (class_number k) && same_figures r.figures f) (pos 1) (pos 0))) ∙ no_orphans l q (absent l q n) (λ r. cond (eqb (class_number r.class) (class_number k) && same_figures r.figures f) (pos 1) (pos 0)))
    where
      nested_three : (a b c : Bool) → cond (a && b && c) (pos 1) (pos 0) ≡ cond a (cond (b && c) (pos 1) (pos 0)) (pos 0)
      nested_three true true c = refl
      nested_three true false c = refl
      nested_three false b c = refl

  same_pick : (pick : BareQuantities → ℕ) → ((q : BareQuantities) → quantities_within q ≡ true → pick q ≤ 20000) → (q x : ℕ) → load_of d q ≡ Some x → (v : Service) → pick (quantities_of d q v) ≡ pick (quantities_of c q v)
  unfolding one_quantity
  same_pick pick most q x s v = charged_alike (load_of d q) q x refl s (one_quantity pick most) v

  enrolled_quantities : (q x : ℕ) → load_of d q ≡ Some x → (v : Service) → quantities_of d q v ≡ quantities_of c q v
  enrolled_quantities q x s v = λ i. record { dasa = same_pick (λ z. z.dasa) (λ z h. (quantities_at_most z h).0) q x s v i; rtsa = same_pick (λ z. z.rtsa) (λ z h. (quantities_at_most z h).1) q x s v i; trs = same_pick (λ z. z.trs) (λ z h. (quantities_at_most z h).2) q x s v i; rtpc = same_pick (λ z. z.rtpc) (λ z h. (quantities_at_most z h).3) q x s v i; pc = same_pick (λ z. z.pc) (λ z h. (quantities_at_most z h).4) q x s v i; ruc = same_pick (λ z. z.ruc) (λ z h. (quantities_at_most z h).5) q x s v i; trp = same_pick (λ z. z.trp) (λ z h. (quantities_at_most z h).6) q x s v i; fq = same_pick (λ z. z.fq) (λ z h. (quantities_at_most z h).7) q x s v i; rfq = same_pick (λ z. z.rfq) (λ z h. (quantities_at_most z h).8) q x s v i; inf = same_pick (λ z. z.inf) (λ z h. (quantities_at_most z h).9) q x s v i }

  matched_quantities : (q : ℕ) (v : Service) (o : Option ℕ) → load_of d q ≡ o → quantities_of d q v ≡ quantities_of c q v
  matched_quantities q v None n = absent_quantities l q v n ∙ sym (absent_quantities m q v (sym (same-loads q) ∙ n))
  matched_quantities q v (Some x) s = enrolled_quantities q x s v

  matched_occurrences : (q : ℕ) (k : Class) (f : BareFigures) (o : Option ℕ) → load_of d q ≡ o → occurrences d q k f ≡ occurrences c q k f
  matched_occurrences q k f None n = absent_occurrences l q k f n ∙ sym (absent_occurrences m q k f (sym (same-loads q) ∙ n))
  matched_occurrences q k f (Some x) s = sym (kind_counted k f d q RegUp) ∙ charged_alike (load_of d q) q x refl s (one_kind k f) RegUp ∙ kind_counted k f c q RegUp

-- books that billed alike under every edition have rows that match
pub same_bills_match : (h k : History) (s t : State) (b d : History) → Lived h s → Lived k t → last_issue h ≡ Some b → last_issue k ≡ Some d → SameQses b d → SameBills h k → RowsMatch b d
same_bills_match h k s t b d l m i j people bills =
    let x = behind h b s l i in
    let y = behind k d t m j in
    let loads-same : (q : ℕ) → load_of x.older q ≡ load_of y.older q = λ q. sym (rest_loads h b x q) ∙ people q ∙ rest_loads k d y q in
    let charges-same : (e : Meaning) (q : ℕ) (v : Service) → charge_if (load_of x.older q) (charge_at e x.older q v) ≡ charge_if (load_of y.older q) (charge_at e y.older q v) = λ e q v.
    let g = every_edition h s l e in
    let f = every_edition k t m e in
    let p = put_behind e h b x i g.0 g.1 in
    let r = put_behind e k d y j f.0 f.1 in
    let pairs = sym (p.bills q v) ∙ bills e g.0 f.0 g.1 f.1 q v ∙ r.bills q v in
    sym (settled_charge p.lived e q v) ∙ ap (λ (z : ℤ × ℤ). nat_abs z.0) pairs ∙ settled_charge r.lived e q v in (
      λ q v. rest_quantities h b x q v ∙ matched_quantities x.older y.older x.book y.book x.lived y.lived loads-same charges-same q v (load_of x.older q) refl ∙ sym (rest_quantities k d y q v),
      λ q n f. rest_occurrences h b x q n f ∙ matched_occurrences x.older y.older x.book y.book x.lived y.lived loads-same charges-same q n f (load_of x.older q) refl ∙ sym (rest_occurrences k d y q n f),
    )

-- rows match exactly where all bills are the same
pub distinction_law : DistinctionLaw
distinction_law h k s t l m b d i j people paid = (λ match. match_same_bills h k s t b d l m i j people paid match, λ bills. same_bills_match h k s t b d l m i j people bills)

-- the law of every lived history
pub law_at : {h : History} {s : State} → Lived h s → LawAt h
law_at {h} {s} l = record { balance = balance_law h s l; distinction = λ k t m. distinction_law h k s t l m; editions = every_edition h s l }
