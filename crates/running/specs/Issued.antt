-- A book after a statement was issued at once.
use Rattle.std.specs.Prelude.{cond}
use Rattle.editions.specs.Meaning.{Meaning}
use Rattle.history.specs.Calls.{State, settled_under, billed_book}

-- settled and billed under an edition, or as before where a draft was open
abbrev pub issued_under : Meaning → State → State
issued_under e s = cond s.drafted s (billed_book (settled_under e s))
