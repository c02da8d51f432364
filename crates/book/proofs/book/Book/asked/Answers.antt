use Rattle.std.proofs.Common.{sym}
use Rattle.market.specs.Limits.{numbered}
use Rattle.terms.specs.Services.{service_of_letter}
use Rattle.table.specs.Rows.{found}
use Rattle.table.proofs.Laws.{sound_found}
use Rattle.history.specs.Accounts.{account_sound}
use Rattle.history.specs.Calls.{qse_of}
use Rattle.book.specs.View.{view}
use Rattle.book.proofs.Asking.{asked_both}
use Rattle.book.proofs.book.Book.asked.Goals as goal

pub returns-in-Some : goal.returns-in-Some
returns-in-Some c =
    let b = c.args.self.now in
    let s = view b in
    let f = c.in-Some.ensures.answer b.accounting.1 in
    record { answer = asked_both (numbered c.args.qse) (service_of_letter c.args.letter) (found qse_of c.args.qse s.qses) c.in_ok-service.service c.in-Some.account c.in_ok-service.ensures.answer f; sound = sound_found qse_of account_sound c.args.qse s.qses c.in-Some.account b.accounting.2 (sym f) }
