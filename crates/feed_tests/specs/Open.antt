-- A book with an open draft.
use Rattle.std.specs.Prelude.{◌≡◌, true}
use Rattle.book.specs.declared.book.Book.{Book}
use Rattle.book.specs.declared.draft.Draft.{Draft}

-- a draft is open, and this one carries the book's number
abbrev pub Takes : Book → Draft → Type 0
Takes b d = (b.drafted ≡ true) × (d.book ≡ b.number)
