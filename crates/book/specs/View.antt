-- A book as its state, and an answer in code as an answer of the definitions.
use Rattle.std.specs.Prelude.{◌≡◌, ℕ, List, map, Ok, Err, Result}
use Rattle.terms.specs.declared.refusal.Refusal.{Refusal}
use Rattle.market.specs.Bare.{bare_prices}
use Rattle.table.specs.Tables.{rows, capacity}
use Rattle.history.specs.Calls.{State, Line, Answer, refused, done, stated}
use Rattle.terms.specs.declared.service.Service.{Service}
use Rattle.market.specs.declared.units.Cents.{Cents}
use Rattle.history.specs.declared.account.Account.{Account}
use Rattle.book.specs.declared.book.Book.{Book}
use Rattle.book.specs.declared.draft.Draft.{Draft}

abbrev pub view : Book → State
view b = record { number = b.number; qse_slots = capacity b.accounts; resource_slots = capacity b.resources; qses = rows b.accounts; resources = rows b.resources; prices = bare_prices b.prices; drafted = b.drafted; issued = b.issued }

abbrev pub said : {A : Type 0} → Result A Refusal → Answer
said (Ok x) = done
said (Err r) = refused r

-- the same where a refusal hands the draft back
abbrev pub said_back : {A : Type 0} → Result A (Refusal × Draft) → Answer
said_back (Ok x) = done
said_back (Err (r, d)) = refused r

-- the lines of the last statement
abbrev pub last_lines : State → List Line
last_lines s = map (λ a. record { qse = a.row.number; figures = a.line }) s.qses

-- an issue's answer: the statement lies in the book
abbrev pub stated_back : {A : Type 0} → Result A (Refusal × Draft) → State → Answer
stated_back (Ok x) s = stated (last_lines s)
stated_back (Err (r, d)) s = refused r

-- a refusal hands back the draft that it was given
abbrev pub HandsBack : {A : Type 0} → Draft → Result A (Refusal × Draft) → Type 0
HandsBack draft (Ok x) = Unit {0}
HandsBack draft (Err (r, d)) = d ≡ draft

-- a service with an account
abbrev pub both : Service → Account → Service × Account
both v a = (v, a)

-- a charge and a credit within their limits, as two numbers
abbrev pub in_cents : Cents 6400000000000 × Cents 6400000000000 → ℕ × ℕ
in_cents p = (p.0.value, p.1.value)
