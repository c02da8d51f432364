-- What is asked of a service of a QSE's account, and the limits of what it answers.
use Rattle.std.proofs.Common.{◌≡◌, ℕ, Bool, true, false, cond, eqb, Some, None, Ok, Err, Option, Result, refl, ap, ◌∙◌, arith}
use Rattle.terms.specs.declared.refusal.Refusal.{Refusal}
use Rattle.terms.specs.declared.refusal.Refusal.TheVariants.{NumberOutOfRange, OtherBook, NoDraft}
use Rattle.terms.specs.declared.service.Service.{Service}
use Rattle.terms.specs.declared.service.Service.TheVariants.{RegUp, RegDown, Responsive, NonSpin, Ecrs}
use Rattle.market.specs.Answers.{plainly}
use Rattle.market.specs.Limits.{numbered}
use Rattle.terms.specs.Services.{of, service_of_letter}
use Rattle.table.specs.Rows.{found}
use Rattle.history.specs.declared.account.Account.{Account}
use Rattle.history.specs.Calls.{State, qse_of, of_account, of_letter, unless, asked, preview}
use Rattle.history.specs.Settlement.{less, line_of}
use Rattle.book.specs.View.{both}

-- what is asked of a service and an account is asked of the two together
found_plainly : {A : Type 0} (f : Service → Account → A) (b : Bool) (l : Result Service Refusal) (o : Option Account) → plainly (λ x. f x.0 x.1) (cond b (of_letter l (λ v. of_account o (both v))) (Err NumberOutOfRange)) ≡ cond b (of_letter l (λ v. of_account o (f v))) (Err NumberOutOfRange)
found_plainly f true (Ok v) (Some a) = refl
found_plainly f true (Ok v) None = refl
found_plainly f true (Err r) o = refl
found_plainly f false l o = refl

module _ {A : Type 0} (f : Service → Account → A) (s : State) (q l : ℕ) where
  asked_plainly : plainly (λ x. f x.0 x.1) (asked s q l both) ≡ asked s q l f
  asked_plainly = found_plainly f (numbered q) (service_of_letter l) (found qse_of q s.qses)

  pub asked_answers : (v : Service) (a : Account) → ◌≡◌ {A = Result (Service × Account) Refusal} (Ok (v, a)) (asked s q l both) → ◌≡◌ {A = Result A Refusal} (Ok (f v a)) (asked s q l f)
  asked_answers v a e = ap (plainly (λ x. f x.0 x.1)) e ∙ asked_plainly

  pub asked_refuses : (r : Refusal) → ◌≡◌ {A = Result (Service × Account) Refusal} (Err r) (asked s q l both) → ◌≡◌ {A = Result A Refusal} (Err r) (asked s q l f)
  asked_refuses r e = ap (plainly (λ x. f x.0 x.1)) e ∙ asked_plainly

-- the service and the account that are asked for
pub asked_both : (b : Bool) (l : Result Service Refusal) (o : Option Account) (v : Service) (a : Account) → ◌≡◌ {A = Result Service Refusal} (Ok v) (cond b l (Err NumberOutOfRange)) → Some a ≡ o → ◌≡◌ {A = Result (Service × Account) Refusal} (Ok (v, a)) (cond b (of_letter l (λ v. of_account o (both v))) (Err NumberOutOfRange))
asked_both true (Ok w) (Some x) v a e f = let p : v ≡ w = cc in let q : a ≡ x = cc in cc
asked_both true (Ok w) None v a e f = absurd (let z : ◌≡◌ {A = ℕ} 0 1 = cc in omega arith)
asked_both true (Err x) o v a e f = absurd (let z : ◌≡◌ {A = ℕ} 0 1 = cc in omega arith)
asked_both false l o v a e f = absurd (let z : ◌≡◌ {A = ℕ} 0 1 = cc in omega arith)

-- a line in a service is what was settled there less what was billed
pub line_of_lem : (v : Service) (a : Account) → less (of v a.settled) (of v a.billed) ≡ of v (line_of a)
line_of_lem RegUp a = refl
line_of_lem RegDown a = refl
line_of_lem Responsive a = refl
line_of_lem NonSpin a = refl
line_of_lem Ecrs a = refl

-- a preview whose draft's tests refuse nothing is what is asked of the line
previewed_by : {A : Type 0} (mine drafted : Bool) (x : Result A Refusal) → unless mine OtherBook (unless drafted NoDraft None) ≡ None → x ≡ cond mine (cond drafted x (Err NoDraft)) (Err OtherBook)
previewed_by true true x e = refl
previewed_by true false x e = absurd (let z : ◌≡◌ {A = ℕ} 0 1 = cc in omega arith)
previewed_by false d x e = absurd (let z : ◌≡◌ {A = ℕ} 0 1 = cc in omega arith)

pub previewed_asks : (s : State) (n q l : ℕ) → unless (eqb n s.number) OtherBook (unless s.drafted NoDraft None) ≡ None → asked s q l (λ v a. of v (line_of a)) ≡ preview s n q l
previewed_asks s n q l e = previewed_by (eqb n s.number) s.drafted (asked s q l (λ v a. of v (line_of a))) e
