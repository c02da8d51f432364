use Rattle.std.proofs.Common.{◌≡◌, ℕ, [], length, sym, subst, rules}
use Rattle.history.specs.Calls.{State, opened}
use Rattle.history.specs.Histories.{Lived, opening}
use Rattle.book.proofs.book.Book.opened.Goals as goal

-- a book that is as at an opening has lived no call
lived_opened : (s : State) (n q r : ℕ) → s ≡ opened n q r → Lived [] s
lived_opened s n q r e = subst (λ (x : State). Lived [] x) (sym e) (opening n q r)

pub returns : goal.returns
returns c =
    let e : _ ≡ opened c.args.number (length c.args.qses.now) (length c.args.resources.now) = search rules in
    record { answer = e; history = lived_opened _ _ _ _ e }
