use Rattle.std.proofs.Common.{◌+◌, ◌*◌, ◌≤◌, List, map, length, sym, ap, subst, ◌∙◌, arith}
use Rattle.std.proofs.lemmas.List.{length-append}
use Rattle.history.specs.declared.account.Account.{Account}
use Rattle.statement.specs.Text.{book_text, statement_text, line_of_account}
use Rattle.statement.proofs.Limits.{book_short, statement_short}
use Rattle.statement.proofs.length.length.Goals as goal

pub put_book-requires : goal.put_book-requires
put_book-requires c =
    let first = book_short c.number.result (omega arith) in
    let none = ap length c.new-first.ensures in
    (omega arith, omega arith)

pub returns : goal.returns
returns c =
    let number = c.args.book.now.number in
    let accounts = c.accounts.result.now in
    let none = ap length c.new-first.ensures in
    let size = c.len.ensures.value ∙ ap length c.put_book.ensures.written ∙ length-append c.new-first.result.bytes (book_text c.number.result) in
    let first = ap (λ n. length (book_text n)) c.number.ensures.answer in
    let Short : List Account → Type 0 = λ xs. length (statement_text number (map line_of_account xs)) ≤ c.len.result + 190 * length accounts + 42 in
    let whole = statement_short number accounts c.accounts.ensures.few c.accounts.ensures.kept in
    let fits = c.len.ensures.fits in
    record { answer = (sym c.if-not-issued.ensures.answer, subst Short c.accounts.ensures.answer (omega arith), omega (arith, c.accounts.ensures.few)) }
