use Rattle.std.proofs.Common.{◌≡◌, true, false, List, [], ◌∷◌, map, refl, ap, ◌∙◌}
use Rattle.table.specs.Tables.{rows}
use Rattle.history.specs.declared.account.Account.{Account}
use Rattle.history.specs.Settlement.{line_of, billed_account}
use Rattle.history.specs.Called.{Called}
use Rattle.history.specs.Calls.{State, Line, Call, Answer, stated, issue}
use Rattle.history.specs.Histories.{History, Lived}
use Rattle.history.specs.Law.{LawAt}
use Rattle.history.proofs.Calling.{called_refused, called_granted}
use Rattle.history.proofs.Distinction.{law_at}
use Rattle.book.specs.View.{view}
use Rattle.book.proofs.book.Book.issue.Goals as goal

-- a call goes on with the law
law_after : {s t : State} {c : Call} {a : Answer} → Called s c a t → (h : History) → Lived h s → LawAt ((c, a) ∷ h)
law_after k h l = law_at (k.history h l)

-- the lines that a billed book keeps are those of its statement
lines_kept : (xs : List Account) → map (λ (a : Account). let l : Line = record { qse = a.row.number; figures = a.line } in l) (map billed_account xs) ≡ map (λ (a : Account). let l : Line = record { qse = a.row.number; figures = line_of a } in l) xs
lines_kept [] = refl
lines_kept (x ∷ xs) = ap (λ r. record { qse = x.row.number; figures = line_of x } ∷ r) (lines_kept xs)

pub returns-in-Err : goal.returns-in-Err
returns-in-Err c =
    let k = called_refused (view c.args.self.now) _ (issue c.args.draft.book) c.in-Err.refusal c.in-Err.ensures.tested refl in
    record { called = k; back = refl; law = law_after k }

pub returns-in-Ok : goal.returns-in-Ok
returns-in-Ok c =
    let b = c.args.self.now in
    let s = view b in
    let all = c.bill_table.ensures.after b.accounting in
    let room = c.bill_table.ensures.capacity in
    let lines = ap (map (λ (a : Account). let l : Line = record { qse = a.row.number; figures = a.line } in l)) all ∙ lines_kept (rows b.accounts) in
    let k = called_granted s _ (issue c.args.draft.book) _ c.in-Ok.ensures.tested.0 (ap stated lines) (λ i. record { number = s.number; qse_slots = room i; resource_slots = s.resource_slots; qses = all i; resources = s.resources; prices = s.prices; drafted = false; issued = true }) in
    record { called = k; back = tt; law = law_after k }
