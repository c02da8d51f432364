-- Histories of a book, and the words of the law as functions of a history alone.
use Rattle.std.specs.Prelude.{ℕ, Bool, true, false, cond, not, ◌&&◌, List, [], ◌∷◌, ℤ, pos, ◌+ℤ◌, Some, None, Ok, Err, count_by, filter, Option, Result, ◌==◌}
use Rattle.std.specs.Option.{unwrap_or}
use Rattle.terms.specs.declared.service.Service.{Service}
use Rattle.terms.specs.declared.interval.Interval.{Interval}
use Rattle.terms.specs.declared.interval.Interval.TheVariants.{First, Second, Third, Fourth}
use Rattle.terms.specs.declared.class.Class.{Class}
use Rattle.terms.specs.declared.refusal.Refusal.{Refusal}
use Rattle.market.specs.declared.resource.ResourceRow.{ResourceRow}
use Rattle.market.specs.Shapes.{BareFigures}
use Rattle.market.specs.Shapes.{BareQuantities}
use Rattle.market.specs.Shapes.{BareServicePrices}
use Rattle.market.specs.Shapes.{BareIntervalPrices}
use Rattle.market.specs.Shapes.{BarePrices}
use Rattle.terms.specs.Services.{service_number, of}
use Rattle.terms.specs.Intervals.{interval_number}
use Rattle.terms.specs.Classes.{class_of, class_number}
use Rattle.market.specs.Bare.{no_quantities}
use Rattle.editions.specs.Meaning.{Meaning}
use Rattle.history.specs.Settlement.{by_service, sum_z, over_services, counted_sum}
use Rattle.history.specs.Calls.{State, Call, enrol, quantities, enter, strike, prices, interval, draft, issue, drop, Answer, refused, done, stated, Line, answer, after, opened}

-- everything done to a book since it was opened: each call with its answer, the newest first
abbrev pub History : Type 0
History = List (Call × Answer)

-- a history and the book that it leads to, from an opening with any number and any slots
pub data Lived : History → State → Type 0 where
  opening : (number qse_slots resource_slots : ℕ) → Lived [] (opened number qse_slots resource_slots)
  then : {h : History} {s : State} (c : Call) → Lived h s → Lived ((c, answer s c) ∷ h) (after s c)

-- whether an answer is no refusal
abbrev pub taken : Answer → Bool
taken (refused r) = false
taken done = true
taken (stated lines) = true

-- the first of two settings that is there
abbrev pub or_else : {A : Type 0} → Option A → Option A → Option A
or_else None y = y
or_else (Some x) y = Some x

-- the newest of what calls set, refused ones left out
abbrev pub newest : {A : Type 0} → (Call → Option A) → History → Option A
newest sets [] = None
newest sets ((c, a) ∷ h) = cond (taken a) (or_else (sets c) (newest sets h)) (newest sets h)

-- something where a test holds
abbrev pub when : {A : Type 0} → Bool → A → Option A
when b x = cond b (Some x) None

-- the load that a call sets for a QSE
abbrev pub sets_load : ℕ → Call → Option ℕ
sets_load q (enrol n load) = when (n == q) load
sets_load q (quantities n v ten) = None
sets_load q (enter n o k f) = None
sets_load q (strike n) = None
sets_load q (prices v p) = None
sets_load q (interval i p) = None
sets_load q (draft e) = None
sets_load q (issue n) = None
sets_load q (drop n) = None

-- the ten quantities that a call sets for a QSE in a service
abbrev pub sets_quantities : ℕ → Service → Call → Option BareQuantities
sets_quantities q s (enrol n load) = None
sets_quantities q s (quantities n v ten) = when (n == q && v == service_number s) ten
sets_quantities q s (enter n o k f) = None
sets_quantities q s (strike n) = None
sets_quantities q s (prices v p) = None
sets_quantities q s (interval i p) = None
sets_quantities q s (draft e) = None
sets_quantities q s (issue n) = None
sets_quantities q s (drop n) = None

-- the prices that a call sets for a service
abbrev pub sets_prices : Service → Call → Option BareServicePrices
sets_prices s (enrol n load) = None
sets_prices s (quantities n v ten) = None
sets_prices s (enter n o k f) = None
sets_prices s (strike n) = None
sets_prices s (prices v p) = when (v == service_number s) p
sets_prices s (interval i p) = None
sets_prices s (draft e) = None
sets_prices s (issue n) = None
sets_prices s (drop n) = None

-- the prices that a call sets for an interval
abbrev pub sets_interval : Interval → Call → Option BareIntervalPrices
sets_interval i (enrol n load) = None
sets_interval i (quantities n v ten) = None
sets_interval i (enter n o k f) = None
sets_interval i (strike n) = None
sets_interval i (prices v p) = None
sets_interval i (interval v p) = when (v == interval_number i) p
sets_interval i (draft e) = None
sets_interval i (issue n) = None
sets_interval i (drop n) = None

-- a QSE's load, where it was enrolled
abbrev pub load_of : History → ℕ → Option ℕ
load_of h q = newest (sets_load q) h

-- a QSE's ten quantities in a service, 0 where none were set
abbrev pub quantities_of : History → ℕ → Service → BareQuantities
quantities_of h q s = unwrap_or (newest (sets_quantities q s) h) no_quantities

-- the prices of the hour, 0 where none were set
abbrev pub service_prices_of : History → Service → BareServicePrices
service_prices_of h s = unwrap_or (newest (sets_prices s) h) (record { dam = 0; sasm = 0; rsasm = 0 })

abbrev pub interval_prices_of : History → Interval → BareIntervalPrices
interval_prices_of h i = unwrap_or (newest (sets_interval i) h) (record { rtrsvpor = 0; rtrdp = 0 })

abbrev pub prices_of : History → BarePrices
prices_of h = record { services = by_service (service_prices_of h); intervals = record { first = interval_prices_of h First; second = interval_prices_of h Second; third = interval_prices_of h Third; fourth = interval_prices_of h Fourth } }

-- rows without the one of a number
abbrev pub without : ℕ → List ResourceRow → List ResourceRow
without n rs = filter (λ r. not (r.number == n)) rs

-- rows with a newer one of its number
abbrev pub newer : (resource qse : ℕ) → Result Class Refusal → BareFigures → List ResourceRow → List ResourceRow
newer n q (Ok k) f rs = record { number = n; qse = q; class = k; figures = f } ∷ without n rs
newer n q (Err e) f rs = rs

-- what a call makes of the resources' rows: an entry puts a newer one of its number, a strike takes it away
abbrev pub rows_after : Call → List ResourceRow → List ResourceRow
rows_after (enrol n load) rs = rs
rows_after (quantities n v ten) rs = rs
rows_after (enter n q k f) rs = newer n q (class_of k) f rs
rows_after (strike n) rs = without n rs
rows_after (prices v p) rs = rs
rows_after (interval i p) rs = rs
rows_after (draft e) rs = rs
rows_after (issue n) rs = rs
rows_after (drop n) rs = rs

-- the newest row of each resource, struck ones gone until they are entered again
abbrev pub rows : History → List ResourceRow
rows [] = []
rows ((c, a) ∷ h) = cond (taken a) (rows_after c (rows h)) (rows h)

-- whether two resources have the same figures
abbrev pub same_figures : BareFigures → BareFigures → Bool
same_figures f g = f.telemetered.up == g.telemetered.up && f.telemetered.down == g.telemetered.down && f.telemetered.responsive == g.telemetered.responsive && f.telemetered.nonspin == g.telemetered.nonspin && f.telemetered.ecrs == g.telemetered.ecrs && f.npf == g.npf && f.lpc == g.lpc

-- whether a row stands under a QSE with a class and figures; its own number is not looked at
abbrev pub is_one : ℕ → Class → BareFigures → ResourceRow → Bool
is_one q k f r = r.qse == q && class_number r.class == class_number k && same_figures r.figures f

-- how often a class with its figures occurs under a QSE
abbrev pub occurrences : History → ℕ → Class → BareFigures → ℕ
occurrences h q k f = count_by (is_one q k f) (rows h)

-- the lines that an answer states
abbrev pub lines_of : Answer → List Line
lines_of (refused r) = []
lines_of done = []
lines_of (stated lines) = lines

-- whether an answer is a statement: only an issue that is not refused has one
abbrev pub is_statement : Answer → Bool
is_statement (refused r) = false
is_statement done = false
is_statement (stated lines) = true

-- the history before the last issue, where there was one
abbrev pub last_issue : History → Option History
last_issue [] = None
last_issue ((c, a) ∷ h) = cond (is_statement a) (Some h) (last_issue h)

-- the edition of a draft
abbrev pub edition_of : Call → Option Meaning
edition_of (enrol n load) = None
edition_of (quantities n v ten) = None
edition_of (enter n o k f) = None
edition_of (strike n) = None
edition_of (prices v p) = None
edition_of (interval i p) = None
edition_of (draft e) = Some e
edition_of (issue n) = None
edition_of (drop n) = None

-- the last draft that was not refused: its edition, and the history before it
abbrev pub or_older : Option Meaning → History → Option (Meaning × History) → Option (Meaning × History)
or_older None h older = older
or_older (Some e) h older = Some (e, h)

abbrev pub last_draft : History → Option (Meaning × History)
last_draft [] = None
last_draft ((c, a) ∷ h) = cond (taken a) (or_older (edition_of c) h (last_draft h)) (last_draft h)

-- a QSE's charge in a service under an edition, at what the calls of a history set
abbrev pub charge_at : Meaning → History → ℕ → Service → ℕ
charge_at e h q s = e.charge s (quantities_of h q s) (counted_sum e s q (rows h)) (prices_of h)

-- one of the two figures of a QSE's line in a service, 0 in a line of another QSE
abbrev pub line_figure : (ℤ × ℤ → ℤ) → ℕ → Service → Line → ℤ
line_figure figure q s l = cond (l.qse == q) (figure (of s l.figures)) (pos 0)

-- that figure added over all statements issued
abbrev pub billed_figure : (ℤ × ℤ → ℤ) → History → ℕ → Service → ℤ
billed_figure figure [] q s = pos 0
billed_figure figure ((c, a) ∷ h) q s = sum_z (line_figure figure q s) (lines_of a) +ℤ billed_figure figure h q s

abbrev pub charge : ℤ × ℤ → ℤ
charge x = x.0

abbrev pub credit : ℤ × ℤ → ℤ
credit x = x.1

-- what the book billed a QSE in a service: charge and credit
abbrev pub billed_of : History → ℕ → Service → ℤ × ℤ
billed_of h q s = (billed_figure charge h q s, billed_figure credit h q s)

-- one of the two figures added over all lines and services of all statements issued
abbrev pub total_figure : (ℤ × ℤ → ℤ) → History → ℤ
total_figure figure [] = pos 0
total_figure figure ((c, a) ∷ h) = sum_z (λ l. over_services (λ s. figure (of s l.figures))) (lines_of a) +ℤ total_figure figure h

-- a history with another edition in its last draft that was not refused
abbrev pub redrafted : Meaning → Call → Call
redrafted e (enrol n load) = enrol n load
redrafted e (quantities n v ten) = quantities n v ten
redrafted e (enter n o k f) = enter n o k f
redrafted e (strike n) = strike n
redrafted e (prices v p) = prices v p
redrafted e (interval i p) = interval i p
redrafted e (draft d) = draft e
redrafted e (issue n) = issue n
redrafted e (drop n) = drop n

abbrev pub is_draft : Call → Bool
is_draft (enrol n load) = false
is_draft (quantities n v ten) = false
is_draft (enter n o k f) = false
is_draft (strike n) = false
is_draft (prices v p) = false
is_draft (interval i p) = false
is_draft (draft e) = true
is_draft (issue n) = false
is_draft (drop n) = false

abbrev pub redraft : Meaning → History → History
redraft e [] = []
redraft e ((c, a) ∷ h) = cond (taken a && is_draft c) ((redrafted e c, a) ∷ h) ((c, a) ∷ redraft e h)

-- a history with an edition put under its last issue, which then states other lines; no other call or answer changes
abbrev pub reissue : Meaning → List Line → History → History
reissue e lines [] = []
reissue e lines ((c, a) ∷ h) = cond (is_statement a) ((c, stated lines) ∷ redraft e h) ((c, a) ∷ reissue e lines h)
