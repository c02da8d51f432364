-- The book as a reader would draw it, the calls on it, what each answers and what it leaves.
use Rattle.std.specs.Prelude.{ℕ, min, Bool, true, false, cond, not, ◌&&◌, List, [], map, ℤ, pos, is_ok, Some, None, Ok, Err, Option, Result, ◌==◌}
use Rattle.terms.specs.declared.service.Service.{Service}
use Rattle.terms.specs.declared.service.ByService.{ByService}
use Rattle.terms.specs.declared.refusal.Refusal.{Refusal}
use Rattle.terms.specs.declared.refusal.Refusal.TheVariants.{DraftOpen, NumberOutOfRange, FigureOutOfRange, NotEnrolled, NoSuchResource, NoFreeSlot, OtherBook, NoDraft}
use Rattle.market.specs.declared.resource.ResourceRow.{ResourceRow}
use Rattle.market.specs.Shapes.{BareFigures}
use Rattle.market.specs.Shapes.{BareQuantities}
use Rattle.market.specs.Shapes.{BareServicePrices}
use Rattle.market.specs.Shapes.{BareIntervalPrices}
use Rattle.market.specs.Shapes.{BarePrices}
use Rattle.market.specs.Limits.{numbered, load_within, quantities_within, figures_within, service_prices_within, interval_prices_within}
use Rattle.terms.specs.Services.{service_of, service_of_letter, always, of, with_service}
use Rattle.terms.specs.Intervals.{interval_of, with_interval}
use Rattle.terms.specs.Classes.{class_of}
use Rattle.market.specs.Bare.{no_quantities, no_prices}
use Rattle.editions.specs.Meaning.{Meaning}
use Rattle.table.specs.Rows.{found, known, put, fits, removed}
use Rattle.history.specs.declared.account.Account.{Account}
use Rattle.history.specs.Settlement.{settled_accounts, line_of, billed_account}

-- the numbers by which accounts and resources are known
abbrev pub qse_of : Account → ℕ
qse_of a = a.row.number

abbrev pub resource_of : ResourceRow → ℕ
resource_of r = r.number

-- the book
pub record State : Type 0 where
  -- its number
  pub number : ℕ
  -- how many QSEs and how many resources it has slots for
  pub qse_slots : ℕ
  pub resource_slots : ℕ
  -- the accounts of its QSEs and the rows of its resources, in rising order of number
  pub qses : List Account
  pub resources : List ResourceRow
  pub prices : BarePrices
  -- whether a draft is open, and whether anything was issued
  pub drafted : Bool
  pub issued : Bool

-- a line of a statement: a QSE's charge and credit in each service
pub record Line : Type 0 where
  pub qse : ℕ
  pub figures : ByService (ℤ × ℤ)

-- the calls with what they are given; a draft is the number that it carries
pub data Call : Type 0 where
  enrol : (qse load : ℕ) → Call
  quantities : (qse service : ℕ) → BareQuantities → Call
  enter : (resource qse class : ℕ) → BareFigures → Call
  strike : (resource : ℕ) → Call
  prices : (service : ℕ) → BareServicePrices → Call
  interval : (interval : ℕ) → BareIntervalPrices → Call
  draft : Meaning → Call
  issue : (carried : ℕ) → Call
  drop : (carried : ℕ) → Call

pub data Answer : Type 0 where
  refused : Refusal → Answer
  done : Answer
  stated : List Line → Answer

-- a new QSE's account: quantities 0, nothing settled, billed or stated
abbrev pub new_account : ℕ → ℕ → Account
new_account qse load = record { row = record { number = qse; load = load; quantities = always no_quantities }; settled = always (0, 0); billed = always (0, 0); line = always (pos 0, pos 0) }

-- an account with another load, or with other quantities in a service
abbrev pub with_load : ℕ → Account → Account
with_load load a = record { row = record { number = a.row.number; load = load; quantities = a.row.quantities }; settled = a.settled; billed = a.billed; line = a.line }

abbrev pub with_quantities : Service → BareQuantities → Account → Account
with_quantities s ten a = record { row = record { number = a.row.number; load = a.row.load; quantities = with_service s ten a.row.quantities }; settled = a.settled; billed = a.billed; line = a.line }

-- the account of a QSE after its enrolment: a known QSE keeps its own
abbrev pub enrolled : ℕ → ℕ → Option Account → Account
enrolled qse load None = new_account qse load
enrolled qse load (Some a) = with_load load a

-- the accounts after other quantities in a service
abbrev pub supplied : Service → BareQuantities → Option Account → List Account → List Account
supplied s ten None accounts = accounts
supplied s ten (Some a) accounts = put qse_of (with_quantities s ten a) accounts

-- the book with other accounts, other resources, other prices
abbrev pub with_qses : List Account → State → State
with_qses accounts s = record { number = s.number; qse_slots = s.qse_slots; resource_slots = s.resource_slots; qses = accounts; resources = s.resources; prices = s.prices; drafted = s.drafted; issued = s.issued }

abbrev pub with_resources : List ResourceRow → State → State
with_resources rs s = record { number = s.number; qse_slots = s.qse_slots; resource_slots = s.resource_slots; qses = s.qses; resources = rs; prices = s.prices; drafted = s.drafted; issued = s.issued }

abbrev pub with_prices : BarePrices → State → State
with_prices p s = record { number = s.number; qse_slots = s.qse_slots; resource_slots = s.resource_slots; qses = s.qses; resources = s.resources; prices = p; drafted = s.drafted; issued = s.issued }

-- the book with its accounts settled and the draft open; with its lines billed; with the draft closed
abbrev pub settled_under : Meaning → State → State
settled_under e s = record { number = s.number; qse_slots = s.qse_slots; resource_slots = s.resource_slots; qses = settled_accounts e s.prices s.resources s.qses; resources = s.resources; prices = s.prices; drafted = true; issued = s.issued }

abbrev pub billed_book : State → State
billed_book s = record { number = s.number; qse_slots = s.qse_slots; resource_slots = s.resource_slots; qses = map billed_account s.qses; resources = s.resources; prices = s.prices; drafted = false; issued = true }

abbrev pub dropped : State → State
dropped s = record { number = s.number; qse_slots = s.qse_slots; resource_slots = s.resource_slots; qses = s.qses; resources = s.resources; prices = s.prices; drafted = false; issued = s.issued }

-- the statement that an issue makes
abbrev pub statement : State → List Line
statement s = map (λ a. record { qse = a.row.number; figures = line_of a }) s.qses

-- tests in their order: the first that fails is the refusal
abbrev pub unless : Bool → Refusal → Option Refusal → Option Refusal
unless lawful r rest = cond lawful rest (Some r)

-- the refusal of a call, where there is one
abbrev pub refusal : State → Call → Option Refusal
refusal s (enrol qse load) = unless (not s.drafted) DraftOpen (unless (numbered qse) NumberOutOfRange (unless (load_within load) FigureOutOfRange (unless (fits qse_of s.qse_slots qse s.qses) NoFreeSlot None)))
refusal s (quantities qse service ten) = unless (not s.drafted) DraftOpen (unless (numbered qse) NumberOutOfRange (unless (is_ok (service_of service) && quantities_within ten) FigureOutOfRange (unless (known qse_of qse s.qses) NotEnrolled None)))
refusal s (enter resource qse class figures) = unless (not s.drafted) DraftOpen (unless (numbered resource && numbered qse) NumberOutOfRange (unless (is_ok (class_of class) && figures_within figures) FigureOutOfRange (unless (known qse_of qse s.qses) NotEnrolled (unless (fits resource_of s.resource_slots resource s.resources) NoFreeSlot None))))
refusal s (strike resource) = unless (not s.drafted) DraftOpen (unless (numbered resource) NumberOutOfRange (unless (known resource_of resource s.resources) NoSuchResource None))
refusal s (prices service p) = unless (not s.drafted) DraftOpen (unless (is_ok (service_of service) && service_prices_within p) FigureOutOfRange None)
refusal s (interval i p) = unless (not s.drafted) DraftOpen (unless (is_ok (interval_of i) && interval_prices_within p) FigureOutOfRange None)
refusal s (draft e) = unless (not s.drafted) DraftOpen None
refusal s (issue carried) = unless (carried == s.number) OtherBook (unless s.drafted NoDraft None)
refusal s (drop carried) = unless (carried == s.number) OtherBook (unless s.drafted NoDraft None)

-- the book after a service's, an interval's or a class's number was read, as before where there is none
abbrev pub with_read : {A : Type 0} → Result A Refusal → (A → State) → State → State
with_read (Ok x) f s = f x
with_read (Err e) f s = s

-- the book after a call that is not refused
abbrev pub carried_out : State → Call → State
carried_out s (enrol qse load) = with_qses (put qse_of (enrolled qse load (found qse_of qse s.qses)) s.qses) s
carried_out s (quantities qse service ten) = with_read (service_of service) (λ v. with_qses (supplied v ten (found qse_of qse s.qses) s.qses) s) s
carried_out s (enter resource qse class figures) = with_read (class_of class) (λ k. with_resources (put resource_of (record { number = resource; qse = qse; class = k; figures = figures }) s.resources) s) s
carried_out s (strike resource) = with_resources (removed resource_of resource s.resources) s
carried_out s (prices service p) = with_read (service_of service) (λ v. with_prices (record { services = with_service v p s.prices.services; intervals = s.prices.intervals }) s) s
carried_out s (interval i p) = with_read (interval_of i) (λ v. with_prices (record { services = s.prices.services; intervals = with_interval v p s.prices.intervals }) s) s
carried_out s (draft e) = settled_under e s
carried_out s (issue carried) = billed_book s
carried_out s (drop carried) = dropped s

-- the answer of a call that is not refused
abbrev pub granted : State → Call → Answer
granted s (enrol qse load) = done
granted s (quantities qse service ten) = done
granted s (enter resource qse class figures) = done
granted s (strike resource) = done
granted s (prices service p) = done
granted s (interval i p) = done
granted s (draft e) = done
granted s (issue carried) = stated (statement s)
granted s (drop carried) = done

abbrev pub answer_by : Option Refusal → Answer → Answer
answer_by None a = a
answer_by (Some r) a = refused r

abbrev pub state_by : Option Refusal → State → State → State
state_by None s before = s
state_by (Some r) s before = before

-- what a call answers, and what it leaves: a refusal leaves the book as before
abbrev pub answer : State → Call → Answer
answer s c = answer_by (refusal s c) (granted s c)

abbrev pub after : State → Call → State
after s c = state_by (refusal s c) (carried_out s c) s

-- the book at its opening over so many lent slots: beyond 64 and 256 they go unused
abbrev pub opened : (number qse_slots resource_slots : ℕ) → State
opened n q r = record { number = n; qse_slots = min q 64; resource_slots = min r 256; qses = []; resources = []; prices = no_prices; drafted = false; issued = false }

-- what is said of a service of a known QSE: its number, then the letter, then whether it is enrolled
abbrev pub of_account : {A : Type 0} → Option Account → (Account → A) → Result A Refusal
of_account None f = Err NotEnrolled
of_account (Some a) f = Ok (f a)

abbrev pub of_letter : {A : Type 0} → Result Service Refusal → (Service → Result A Refusal) → Result A Refusal
of_letter (Ok v) f = f v
of_letter (Err e) f = Err e

abbrev pub asked : {A : Type 0} → State → (qse letter : ℕ) → (Service → Account → A) → Result A Refusal
asked s qse letter f = cond (numbered qse) (of_letter (service_of_letter letter) (λ v. of_account (found qse_of qse s.qses) (f v))) (Err NumberOutOfRange)

-- what "read" answers: the pair billed to date
abbrev pub read : State → (qse letter : ℕ) → Result (ℕ × ℕ) Refusal
read s qse letter = asked s qse letter (λ v a. of v a.billed)

-- what "preview" answers: the pair that the draft's issue will add
abbrev pub preview : State → (carried qse letter : ℕ) → Result (ℤ × ℤ) Refusal
preview s carried qse letter = cond (carried == s.number) (cond s.drafted (asked s qse letter (λ v a. of v (line_of a))) (Err NoDraft)) (Err OtherBook)
