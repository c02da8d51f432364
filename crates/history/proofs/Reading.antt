-- What "read" answers, and what a statement holds.
use Rattle.std.proofs.Common.{◌≡◌, ℕ, Bool, true, false, cond, List, [], ◌∷◌, map, pos, Some, None, Ok, Err, Option, Result, sym, refl, ap, ◌∙◌, subst, arith}
use Rattle.std.specs.Option.{option_map}
use Rattle.terms.specs.declared.service.Service.{Service}
use Rattle.terms.specs.declared.refusal.Refusal.{Refusal}
use Rattle.terms.specs.declared.refusal.Refusal.TheVariants.{NumberOutOfRange}
use Rattle.market.specs.Limits.{numbered}
use Rattle.terms.specs.Services.{service_of_letter, of}
use Rattle.table.specs.Rows.{Rising, found}
use Rattle.history.specs.declared.account.Account.{Account}
use Rattle.history.specs.Settlement.{line_of}
use Rattle.history.specs.Calls.{State, Line, Call, Answer, stated, qse_of, answer, statement, of_letter, of_account}
use Rattle.history.specs.Histories.{History, Lived, opening, then, lines_of, is_statement}
use Rattle.history.specs.Law.{ReadLaw, StatementLaw}
use Rattle.history.proofs.Living.{Kept, lived_keep, rising_alike}
use Rattle.history.proofs.Issues.{pair_in, billed_is}
use Rattle.history.proofs.Reissue.{alike_itself, alike_statement}

-- a pair that is read is the billed pair of the account
read_pair : (b : Bool) (r : Result Service Refusal) (o : Option Account) (v : Service) (pair : ℕ × ℕ) → r ≡ Ok v → cond b (of_letter r (λ w. of_account o (λ a. of w a.billed))) (Err NumberOutOfRange) ≡ Ok pair → pair_in (option_map (λ a. a.billed) o) v ≡ pair
read_pair false r o v pair e f = absurd (let z : ◌≡◌ {A = ℕ} 0 1 = cc in omega arith)
read_pair true (Err x) o v pair e f = absurd (let z : ◌≡◌ {A = ℕ} 0 1 = cc in omega arith)
read_pair true (Ok w) None v pair e f = absurd (let z : ◌≡◌ {A = ℕ} 0 1 = cc in omega arith)
read_pair true (Ok w) (Some a) v pair e f =
    let same : w ≡ v = cc in
    let p : of w a.billed ≡ pair = cc in
    ap (λ u. of u a.billed) (sym same) ∙ p

-- "read" answers what the lines add up to
pub read_law : ReadLaw
read_law h s l qse letter v pair e f = billed_is l qse v ∙ ap (λ (p : ℕ × ℕ). (pos p.0, pos p.1)) (read_pair (numbered qse) (service_of_letter letter) (found qse_of qse s.qses) v pair e f)

-- a call in a lived history was made on a lived book, and answered by it
called_on : {k : History} {s : State} → Lived k s → (h : History) (c : Call) (a : Answer) → k ≡ (c, a) ∷ h → (t : State) × Lived h t × (a ≡ answer t c)
called_on (opening n q r) h c a e = absurd (let z : ◌≡◌ {A = ℕ} 0 1 = cc in omega arith)
called_on (then {h = h0} {s = s0} c0 l) h c a e =
    let same-c : c0 ≡ c = ap (λ (x : History). first x) e in
    let same-a : answer s0 c0 ≡ a = ap (λ (x : History). first_answer x) e in
    let same-h : h0 ≡ h = ap (λ (x : History). rest x) e in
    (s0, subst (λ (x : History). Lived x s0) same-h l, sym same-a ∙ ap (answer s0) same-c)
  where
    first : History → Call
    first [] = c
    first (x ∷ xs) = x.0

    first_answer : History → Answer
    first_answer [] = a
    first_answer (x ∷ xs) = x.1

    rest : History → History
    rest [] = []
    rest (x ∷ xs) = xs

-- a statement is made of the book that it was issued on
pub statement_law : StatementLaw
unfolding Kept
statement_law h c lines s l =
    let on = called_on l h c (stated lines) refl in
    let states : is_statement (answer on.0 c) ≡ true = ap is_statement (sym on.2) in
    let same : lines ≡ statement on.0 = ap lines_of (on.2 ∙ alike_statement on.0 on.0 (alike_itself on.0) c states) in
    let up : Rising (λ l. l.qse) (statement on.0) = rising_alike qse_of (λ (l : Line). l.qse) on.0.qses (statement on.0) (numbers on.0.qses) (lived_keep on.1).0 in
    (on.0, on.1, same, subst (λ (x : List Line). Rising (λ l. l.qse) x) (sym same) up)
  where
    numbers : (xs : List Account) → map qse_of xs ≡ map (λ (l : Line). l.qse) (map (λ (a : Account). record { qse = a.row.number; figures = line_of a }) xs)
    numbers [] = refl
    numbers (x ∷ xs) = ap (λ r. x.row.number ∷ r) (numbers xs)
