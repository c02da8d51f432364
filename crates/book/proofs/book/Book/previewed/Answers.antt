use Rattle.std.proofs.Common.{◌≡◌, ℤ, Ok, ap, ◌∙◌}
use Rattle.std.proofs.lemmas.Result.{err_from_is_err_and}
use Rattle.terms.specs.Services.{of}
use Rattle.history.specs.Settlement.{less, line_of}
use Rattle.book.specs.View.{view}
use Rattle.book.proofs.Asking.{asked_answers, asked_refuses, line_of_lem, previewed_asks}
use Rattle.history.proofs.Limits.{billed_pair, settled_pair}
use Rattle.book.proofs.book.Book.previewed.Goals as goal

pub returns-in_err-service : goal.returns-in_err-service
returns-in_err-service c =
    let p = err_from_is_err_and c.from_residual-in_err-service.result c.from_residual-in_err-service.ensures.1 in
    let s = view c.args.self.now in
    rw (p.1, p.2) (record { answer = asked_refuses (λ v a. of v (line_of a)) s c.args.qse c.args.letter _ c.in_err-service.ensures.answer ∙ previewed_asks s c.args.carried c.args.qse c.args.letter c.in_ok-tested_draft.ensures.tested.0 })

pub returns : goal.returns
returns c =
    let s = view c.args.self.now in
    let a = c.in_ok-service.account in
    let v = c.in_ok-service.service in
    let e = c.in_ok-service.ensures.sound in
    let difference = c.difference.ensures.answer (rw c.of-settled.ensures.answer (settled_pair a v e).0) (rw c.of-settled.ensures.answer (settled_pair a v e).1) (rw c.of-billed.ensures.answer (billed_pair a v e).0) (rw c.of-billed.ensures.answer (billed_pair a v e).1) in
    let read : less c.of-settled.result c.of-billed.result ≡ less (of v a.settled) (of v a.billed) = λ i. less (c.of-settled.ensures.answer i) (c.of-billed.ensures.answer i) in
    record { answer = ap (λ (p : ℤ × ℤ). Ok p) (difference ∙ read ∙ line_of_lem v a) ∙ asked_answers (λ v a. of v (line_of a)) s c.args.qse c.args.letter v a c.in_ok-service.ensures.answer ∙ previewed_asks s c.args.carried c.args.qse c.args.letter c.in_ok-tested_draft.ensures.tested.0 }
