use Rattle.std.proofs.Common.{ℕ, Ok, ap, ◌∙◌, arith}
use Rattle.terms.specs.Services.{of}
use Rattle.book.specs.View.{view}
use Rattle.book.proofs.Asking.{asked_answers}
use Rattle.history.proofs.Limits.{billed_pair}
use Rattle.book.proofs.book.Book.read.Goals as goal

-- what a sound account was billed lies within the limits
pub invariant_of-result : goal.invariant_of-result
invariant_of-result c =
    let l = billed_pair c.in_ok-service.account c.in_ok-service.service c.in_ok-service.ensures.sound in
    let e = c.of-charge.ensures.answer in
    record { within = omega (arith, ap (λ (p : ℕ × ℕ). p.0) e, ap (λ (p : ℕ × ℕ). p.1) e, l.0, l.1) }

pub invariant_of-result-2 : goal.invariant_of-result-2
invariant_of-result-2 c =
    let l = billed_pair c.in_ok-service.account c.in_ok-service.service c.in_ok-service.ensures.sound in
    let e = c.of-charge.ensures.answer in
    record { within = omega (arith, ap (λ (p : ℕ × ℕ). p.0) e, ap (λ (p : ℕ × ℕ). p.1) e, l.0, l.1) }

pub returns : goal.returns
returns c =
    let a = c.in_ok-service.account in
    let v = c.in_ok-service.service in
    record { answer = ap (λ (p : ℕ × ℕ). Ok p) c.of-charge.ensures.answer ∙ asked_answers (λ v a. of v a.billed) (view c.args.self.now) c.args.qse c.args.letter v a c.in_ok-service.ensures.answer }
