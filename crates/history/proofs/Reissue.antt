-- What a book answers, but for the lines of a statement, does not hang on what is settled, billed or stated. So every
-- edition can be put under the last issue.
use Rattle.std.proofs.Common.{◌≡◌, ℕ, Bool, true, false, cond, not, eqb, ltb, List, [], ◌∷◌, map, length, is_some, Some, None, Ok, Err, Option, Result, sym, refl, ap, ◌∙◌, subst}
use lib.ListN.{length-map}
use Rattle.std.proofs.lemmas.Bool.{both_ways, not-true}
use Rattle.terms.specs.declared.service.Service.{Service}
use Rattle.terms.specs.declared.refusal.Refusal.{Refusal}
use Rattle.terms.specs.declared.refusal.Refusal.TheVariants.{DraftOpen, OtherBook, NoDraft}
use Rattle.market.specs.declared.qse.QseRow.{QseRow}
use Rattle.market.specs.declared.resource.ResourceRow.{ResourceRow}
use Rattle.market.specs.Shapes.{BareQuantities}
use Rattle.market.specs.Shapes.{BarePrices}
use Rattle.terms.specs.Services.{service_of}
use Rattle.terms.specs.Intervals.{interval_of}
use Rattle.terms.specs.Classes.{class_of}
use Rattle.editions.specs.Meaning.{Meaning}
use Rattle.table.specs.Rows.{found, known, put, fits}
use Rattle.history.specs.declared.account.Account.{Account}
use Rattle.history.specs.Calls.{State, Line, Call, enrol, quantities, enter, strike, prices, interval, draft, issue, drop, refused, done, stated}
use Rattle.history.specs.Calls.{qse_of, enrolled, supplied, with_qses, with_resources, with_prices, billed_book, dropped, statement, unless, refusal, with_read, carried_out, granted, answer_by, state_by, answer, after, opened}
use Rattle.history.specs.Histories.{History, Lived, opening, then, is_statement, redraft, reissue}
use Rattle.history.specs.Law.{EveryEdition}
use Rattle.history.proofs.Living.{settled_keep_rows, billed_keep_rows}
use Rattle.history.proofs.Words.{unless_none}

-- the rows of accounts, and the number of a row
abbrev pub rows_of : List Account → List QseRow
rows_of accounts = map (λ a. a.row) accounts

abbrev pub number_of : QseRow → ℕ
number_of r = r.number

-- the row of an account, where there is one
abbrev pub row_in : Option Account → Option QseRow
row_in None = None
row_in (Some a) = Some a.row

-- a function goes through a test
through_cond : {A B : Type 0} (f : A → B) (b : Bool) (x y : A) → f (cond b x y) ≡ cond b (f x) (f y)
through_cond f true x y = refl
through_cond f false x y = refl

-- the row of the account found is the row found among the rows
pub found_rows : (q : ℕ) (xs : List Account) → row_in (found qse_of q xs) ≡ found number_of q (rows_of xs)
found_rows q [] = refl
found_rows q (x ∷ xs) = through_cond row_in (eqb (qse_of x) q) (Some x) (found qse_of q xs) ∙ rw (found_rows q xs)

-- whether there is a row in it is whether there is an account
some_row : (o : Option Account) → is_some o ≡ is_some (row_in o)
some_row None = refl
some_row (Some a) = refl

-- a QSE is known by the rows
pub known_rows : (q : ℕ) (xs : List Account) → known qse_of q xs ≡ known number_of q (rows_of xs)
known_rows q xs = some_row (found qse_of q xs) ∙ ap is_some (found_rows q xs)

-- putting an account puts its row
pub put_rows : (a : Account) (xs : List Account) → rows_of (put qse_of a xs) ≡ put number_of a.row (rows_of xs)
put_rows a [] = refl
put_rows a (x ∷ xs) =
    through_cond rows_of (ltb (qse_of x) (qse_of a)) _ _
    ∙ rw (through_cond rows_of (eqb (qse_of x) (qse_of a)) (a ∷ xs) (a ∷ x ∷ xs), put_rows a xs)

-- accounts with the same rows: the same look-up up to rows, as many, the same ones known
module _ (xs ys : List Account) (same : rows_of xs ≡ rows_of ys) where
  pub same_found : (q : ℕ) → row_in (found qse_of q xs) ≡ row_in (found qse_of q ys)
  same_found q = found_rows q xs ∙ ap (found number_of q) same ∙ sym (found_rows q ys)

  pub same_known : (q : ℕ) → known qse_of q xs ≡ known qse_of q ys
  same_known q = known_rows q xs ∙ ap (known number_of q) same ∙ sym (known_rows q ys)

  pub same_length : length xs ≡ length ys
  same_length = sym (length-map xs (λ a. a.row)) ∙ ap length same ∙ length-map ys (λ a. a.row)

  pub same_fits : (slots q : ℕ) → fits qse_of slots q xs ≡ fits qse_of slots q ys
  same_fits slots q = rw (same_known q, same_length)

  pub same_put : (a b : Account) → a.row ≡ b.row → rows_of (put qse_of a xs) ≡ rows_of (put qse_of b ys)
  same_put a b e = put_rows a xs ∙ (cc) ∙ sym (put_rows b ys)

-- an enrolment or other quantities make the same row of accounts with the same row
enrolled_row : (q load : ℕ) (o p : Option Account) → row_in o ≡ row_in p → (enrolled q load o).row ≡ (enrolled q load p).row
enrolled_row q load None None e = refl
enrolled_row q load None (Some b) e = cc
enrolled_row q load (Some a) None e = cc
enrolled_row q load (Some a) (Some b) e = cc

supplied_rows : (v : Service) (ten : BareQuantities) (o p : Option Account) (xs ys : List Account) → row_in o ≡ row_in p → rows_of xs ≡ rows_of ys → rows_of (supplied v ten o xs) ≡ rows_of (supplied v ten p ys)
supplied_rows v ten None None xs ys e same = same
supplied_rows v ten None (Some b) xs ys e same = cc
supplied_rows v ten (Some a) None xs ys e same = cc
supplied_rows v ten (Some a) (Some b) xs ys e same = let r : a.row ≡ b.row = cc in same_put xs ys same _ _ (cc)

-- two books alike in all but what is settled, billed or stated
pub record Alike (s t : State) : Type 0 where
  pub number : s.number ≡ t.number
  pub qse_slots : s.qse_slots ≡ t.qse_slots
  pub resource_slots : s.resource_slots ≡ t.resource_slots
  pub rows : rows_of s.qses ≡ rows_of t.qses
  pub resources : s.resources ≡ t.resources
  pub prices : s.prices ≡ t.prices
  pub drafted : s.drafted ≡ t.drafted
  pub issued : s.issued ≡ t.issued

-- a book is like itself
pub alike_itself : (s : State) → Alike s s
alike_itself s = record { number = refl; qse_slots = refl; resource_slots = refl; rows = refl; resources = refl; prices = refl; drafted = refl; issued = refl }

module _ (s t : State) (a : Alike s t) where
  -- alike books refuse alike
  pub alike_refusal : (c : Call) → refusal s c ≡ refusal t c
  alike_refusal (enrol q load) = rw (a.drafted, a.qse_slots, same_fits s.qses t.qses a.rows t.qse_slots q)
  alike_refusal (quantities q v ten) = rw (a.drafted, same_known s.qses t.qses a.rows q)
  alike_refusal (enter n q k f) = rw (a.drafted, same_known s.qses t.qses a.rows q, a.resource_slots, a.resources)
  alike_refusal (strike n) = rw (a.drafted, a.resources)
  alike_refusal (prices v p) = rw a.drafted
  alike_refusal (interval i p) = rw a.drafted
  alike_refusal (draft e) = rw a.drafted
  alike_refusal (issue n) = rw (a.drafted, a.number)
  alike_refusal (drop n) = rw (a.drafted, a.number)

  -- a number read the same leaves alike books alike
  alike_read : {A : Type 0} (r : Result A Refusal) (f g : A → State) → ((x : A) → Alike (f x) (g x)) → Alike (with_read r f s) (with_read r g t)
  alike_read (Ok x) f g each = each x
  alike_read (Err e) f g each = a

  -- drafts of any two editions leave alike books alike
  pub alike_drafted : (e d : Meaning) → Alike (carried_out s (draft e)) (carried_out t (draft d))
  alike_drafted e d = record { number = a.number; qse_slots = a.qse_slots; resource_slots = a.resource_slots; rows = settled_keep_rows e s.prices s.resources s.qses 0 s.qses ∙ a.rows ∙ sym (settled_keep_rows d t.prices t.resources t.qses 0 t.qses); resources = a.resources; prices = a.prices; drafted = refl; issued = a.issued }

  -- other accounts with the same rows, the same other resources and the same other prices leave alike books alike
  alike_qses : (xs ys : List Account) → rows_of xs ≡ rows_of ys → Alike (with_qses xs s) (with_qses ys t)
  alike_qses xs ys same = record { number = a.number; qse_slots = a.qse_slots; resource_slots = a.resource_slots; rows = same; resources = a.resources; prices = a.prices; drafted = a.drafted; issued = a.issued }

  alike_resources : (xs ys : List ResourceRow) → xs ≡ ys → Alike (with_resources xs s) (with_resources ys t)
  alike_resources xs ys same = record { number = a.number; qse_slots = a.qse_slots; resource_slots = a.resource_slots; rows = a.rows; resources = same; prices = a.prices; drafted = a.drafted; issued = a.issued }

  alike_prices : (p q : BarePrices) → p ≡ q → Alike (with_prices p s) (with_prices q t)
  alike_prices p q same = record { number = a.number; qse_slots = a.qse_slots; resource_slots = a.resource_slots; rows = a.rows; resources = a.resources; prices = same; drafted = a.drafted; issued = a.issued }

  -- so does an issue, and so does a drop
  alike_billed : Alike (billed_book s) (billed_book t)
  alike_billed = record { number = a.number; qse_slots = a.qse_slots; resource_slots = a.resource_slots; rows = billed_keep_rows s.qses ∙ a.rows ∙ sym (billed_keep_rows t.qses); resources = a.resources; prices = a.prices; drafted = refl; issued = refl }

  alike_dropped : Alike (dropped s) (dropped t)
  alike_dropped = record { number = a.number; qse_slots = a.qse_slots; resource_slots = a.resource_slots; rows = a.rows; resources = a.resources; prices = a.prices; drafted = refl; issued = a.issued }

  -- a call that is not refused leaves alike books alike
  pub alike_carried : (c : Call) → Alike (carried_out s c) (carried_out t c)
  alike_carried (enrol q load) = alike_qses _ _ (same_put s.qses t.qses a.rows _ _ (enrolled_row q load (found qse_of q s.qses) (found qse_of q t.qses) (same_found s.qses t.qses a.rows q)))
  alike_carried (quantities q v ten) = alike_read (service_of v) _ _ (λ x. alike_qses _ _ (supplied_rows x ten (found qse_of q s.qses) (found qse_of q t.qses) s.qses t.qses (same_found s.qses t.qses a.rows q) a.rows))
  alike_carried (enter n q k f) = alike_read (class_of k) _ _ (λ x. alike_resources _ _ (rw a.resources))
  alike_carried (strike n) = alike_resources _ _ (rw a.resources)
  alike_carried (prices v p) = alike_read (service_of v) _ _ (λ x. alike_prices _ _ (rw a.prices))
  alike_carried (interval i p) = alike_read (interval_of i) _ _ (λ x. alike_prices _ _ (rw a.prices))
  alike_carried (draft e) = alike_drafted e e
  alike_carried (issue n) = alike_billed
  alike_carried (drop n) = alike_dropped

  -- refused alike or not refused, books stay alike
  alike_by : (o : Option Refusal) (x y : State) → Alike x y → Alike (state_by o x s) (state_by o y t)
  alike_by None x y b = b
  alike_by (Some r) x y b = a

  -- a call leaves alike books alike
  pub alike_after : (c : Call) → Alike (after s c) (after t c)
  alike_after c = rw (alike_refusal c) (alike_by (refusal t c) (carried_out s c) (carried_out t c) (alike_carried c))

  -- so do drafts of any two editions
  pub alike_after_draft : (e d : Meaning) → Alike (after s (draft e)) (after t (draft d))
  alike_after_draft e d = rw (alike_refusal (draft e)) (alike_by (refusal t (draft d)) (carried_out s (draft e)) (carried_out t (draft d)) (alike_drafted e d))

  -- a call whose answer is no statement is answered alike
  pub alike_answer : (c : Call) → is_statement (answer s c) ≡ false → answer s c ≡ answer t c
  alike_answer (enrol q load) n = rw (alike_refusal (enrol q load))
  alike_answer (quantities q v ten) n = rw (alike_refusal (quantities q v ten))
  alike_answer (enter r q k f) n = rw (alike_refusal (enter r q k f))
  alike_answer (strike r) n = rw (alike_refusal (strike r))
  alike_answer (prices v p) n = rw (alike_refusal (prices v p))
  alike_answer (interval i p) n = rw (alike_refusal (interval i p))
  alike_answer (draft e) n = rw (alike_refusal (draft e))
  alike_answer (issue i) n = no_statement (refusal s (issue i)) (refusal t (issue i)) (alike_refusal (issue i)) n
    where
      no_statement : (o p : Option Refusal) → o ≡ p → is_statement (answer_by o (stated (statement s))) ≡ false → answer_by o (stated (statement s)) ≡ answer_by p (stated (statement t))
      no_statement None p e n = absurd (both_ways true n refl)
      no_statement (Some r) p e n = rw (← e)
  alike_answer (drop i) n = rw (alike_refusal (drop i))

-- a call that is done where it is not refused is answered by no statement
done_states_nothing : (o : Option Refusal) → is_statement (answer_by o done) ≡ true → ⊥
done_states_nothing None e = both_ways false refl e
done_states_nothing (Some r) e = both_ways false refl e

-- a statement is not refused
stated_is_granted : (o : Option Refusal) (lines : List Line) → is_statement (answer_by o (stated lines)) ≡ true → o ≡ None
stated_is_granted None lines e = refl
stated_is_granted (Some r) lines e = absurd (both_ways false refl e)

-- only an issue that is not refused is answered by a statement
pub states_by_issue : (s : State) (c : Call) → is_statement (answer s c) ≡ true → (n : ℕ) × (c ≡ issue n) × (refusal s c ≡ None)
states_by_issue s (enrol q load) e = absurd (done_states_nothing (refusal s (enrol q load)) e)
states_by_issue s (quantities q v ten) e = absurd (done_states_nothing (refusal s (quantities q v ten)) e)
states_by_issue s (enter r q k f) e = absurd (done_states_nothing (refusal s (enter r q k f)) e)
states_by_issue s (strike r) e = absurd (done_states_nothing (refusal s (strike r)) e)
states_by_issue s (prices v p) e = absurd (done_states_nothing (refusal s (prices v p)) e)
states_by_issue s (interval i p) e = absurd (done_states_nothing (refusal s (interval i p)) e)
states_by_issue s (draft d) e = absurd (done_states_nothing (refusal s (draft d)) e)
states_by_issue s (issue n) e = (n, refl, stated_is_granted (refusal s (issue n)) (statement s) e)
states_by_issue s (drop n) e = absurd (done_states_nothing (refusal s (drop n)) e)

-- an issue that is not refused has an open draft before it
pub drafted_before_issue : (s : State) (n : ℕ) → refusal s (issue n) ≡ None → s.drafted ≡ true
drafted_before_issue s n e = (unless_none s.drafted NoDraft None (unless_none (eqb n s.number) OtherBook _ e).1).0

-- so has every call that is answered by a statement
pub drafted_before_statement : (s : State) (c : Call) → is_statement (answer s c) ≡ true → s.drafted ≡ true
drafted_before_statement s c e = let (n, is, none) = states_by_issue s c e in drafted_before_issue s n (rw is at none)

-- where a book states, an alike book states its own lines
pub alike_statement : (s t : State) → Alike s t → (c : Call) → is_statement (answer s c) ≡ true → answer t c ≡ stated (statement t)
alike_statement s t a c e =
    let (n, is, none) = states_by_issue s c e in
    let same : refusal t (issue n) ≡ None = sym (alike_refusal s t a (issue n)) ∙ rw is at none in
    rw (is, same)

-- reading a number leaves a draft open or not as before
read_drafted : {A : Type 0} (r : Result A Refusal) (f : A → State) (s : State) → ((x : A) → (f x).drafted ≡ s.drafted) → (with_read r f s).drafted ≡ s.drafted
read_drafted (Ok x) f s each = each x
read_drafted (Err e) f s each = refl

-- a call that an open draft refuses is carried out only where none is open
not_under_draft : (b : Bool) (rest : Option Refusal) → unless (not b) DraftOpen rest ≡ None → b ≡ true → ⊥
not_under_draft b rest e d = both_ways b (not-true b (unless_none (not b) DraftOpen rest e).0) d

-- of the calls that are not refused only a draft leaves a draft open
pub drafted_by_draft : (s : State) (c : Call) → refusal s c ≡ None → (carried_out s c).drafted ≡ true → (d : Meaning) × (c ≡ draft d)
drafted_by_draft s (enrol q load) e Open-after = absurd (not_under_draft s.drafted _ e Open-after)
drafted_by_draft s (quantities q v ten) e Open-after = absurd (not_under_draft s.drafted _ e (sym (read_drafted (service_of v) _ s (λ x. refl)) ∙ Open-after))
drafted_by_draft s (enter r q k f) e Open-after = absurd (not_under_draft s.drafted _ e (sym (read_drafted (class_of k) _ s (λ x. refl)) ∙ Open-after))
drafted_by_draft s (strike r) e Open-after = absurd (not_under_draft s.drafted _ e Open-after)
drafted_by_draft s (prices v p) e Open-after = absurd (not_under_draft s.drafted _ e (sym (read_drafted (service_of v) _ s (λ x. refl)) ∙ Open-after))
drafted_by_draft s (interval i p) e Open-after = absurd (not_under_draft s.drafted _ e (sym (read_drafted (interval_of i) _ s (λ x. refl)) ∙ Open-after))
drafted_by_draft s (draft d) e Open-after = (d, refl)
drafted_by_draft s (issue n) e Open-after = absurd (both_ways false refl Open-after)
drafted_by_draft s (drop n) e Open-after = absurd (both_ways false refl Open-after)

-- a history with another edition in its last draft is lived, and leads to an alike book
abbrev pub Redrafted : Meaning → History → State → Type 0
Redrafted e h s = (t : State) × Lived (redraft e h) t × Alike s t

-- the last call is the draft
redrafted_here : {h : History} {s : State} → Lived h s → (e d : Meaning) → refusal s (draft d) ≡ None → Redrafted e ((draft d, done) ∷ h) (carried_out s (draft d))
redrafted_here {h} {s} l e d none = (carried_out s (draft e), subst (λ o. Lived ((draft e, answer_by o done) ∷ h) (state_by o (carried_out s (draft e)) s)) none (then (draft e) l), alike_drafted s s (alike_itself s) d e)

-- the last call is refused
redrafted_below : (h : History) (s : State) (c : Call) (e : Meaning) (r : Refusal) → refusal s c ≡ Some r → Redrafted e h s → Redrafted e ((c, refused r) ∷ h) s
redrafted_below h s c e r is older =
    let (t, l, a) = older in
    (t, subst (λ o. Lived ((c, answer_by o (granted t c)) ∷ redraft e h) (state_by o (carried_out t c) t)) (sym (alike_refusal s t a c) ∙ is) (then c l), a)

-- one call more, refused or not
redrafted_step : {h : History} {s : State} → Lived h s → (c : Call) (e : Meaning) (o : Option Refusal) → refusal s c ≡ o → (state_by o (carried_out s c) s).drafted ≡ true → (s.drafted ≡ true → Redrafted e h s) → Redrafted e ((c, answer_by o (granted s c)) ∷ h) (state_by o (carried_out s c) s)
redrafted_step {h} {s} l c e None is Open-after older =
    let (d, drafts) = drafted_by_draft s c is Open-after in
    subst (λ k. Redrafted e ((k, granted s k) ∷ h) (carried_out s k)) (sym drafts) (redrafted_here l e d (rw drafts at is))
redrafted_step {h} {s} l c e (Some r) is Open-after older = redrafted_below h s c e r is (older Open-after)

-- where a draft is open, any edition can be put in the last draft
pub redraft_lived : {h : History} {s : State} → Lived h s → s.drafted ≡ true → (e : Meaning) → Redrafted e h s
redraft_lived (opening n q r) open-now e = absurd (both_ways false refl open-now)
redraft_lived (then {h} {s} c l) open-now e = redrafted_step l c e (refusal s c) refl open-now (λ before. redraft_lived l before e)

-- a history with an edition put under its last issue is lived, and leads to an alike book
abbrev pub Reissued : Meaning → History → State → Type 0
Reissued e h s = (lines : List Line) × (t : State) × Lived (reissue e lines h) t × Alike s t

-- one call more, answered by a statement or not
reissued_step : {h : History} {s : State} → Lived h s → (c : Call) (e : Meaning) (b : Bool) → is_statement (answer s c) ≡ b → Reissued e h s → Reissued e ((c, answer s c) ∷ h) (after s c)
reissued_step {h} {s} l c e true is older =
    let (t, k, a) = redraft_lived l (drafted_before_statement s c is) e in
    (statement t, after t c, rw is (rw (alike_statement s t a c is) at (then c k)), alike_after s t a c)
reissued_step {h} {s} l c e false is older =
    let (lines, t, k, a) = older in
    (lines, after t c, rw (is, alike_answer s t a c is) (then c k), alike_after s t a c)

-- any edition can be put under the last issue
pub reissue_lived : {h : History} {s : State} → Lived h s → (e : Meaning) → Reissued e h s
reissue_lived (opening n q r) e = ([], opened n q r, opening n q r, alike_itself (opened n q r))
reissue_lived (then {h} {s} c l) e = reissued_step l c e (is_statement (answer s c)) refl (reissue_lived l e)

-- every edition can be put under an issue
pub every_edition : EveryEdition
every_edition h s l e =
    let (lines, t, k, a) = reissue_lived l e in
    (reissue e lines h, (lines, t, refl, k))
