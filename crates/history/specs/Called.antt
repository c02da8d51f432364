-- What every call of a book promises.
use Rattle.std.specs.Prelude.{◌≡◌, ◌∷◌, Some, None, Ok, Err, Option, Result}
use Rattle.terms.specs.declared.refusal.Refusal.{Refusal}
use Rattle.history.specs.Calls.{State, Call, Answer, answer, after}
use Rattle.history.specs.Histories.{History, Lived}

-- a call on a book, with its answer and the book that it leaves
pub record Called (s : State) (c : Call) (a : Answer) (t : State) : Type 0 where
  -- which answer it gives
  pub answers : a ≡ answer s c
  -- what the book holds afterwards
  pub leaves : t ≡ after s c
  -- a lived history goes on by this call with this answer
  pub history : (h : History) → Lived h s → Lived ((c, a) ∷ h) t

-- what tests answer: the refusal, or that there is none with what was made on the way
abbrev pub Tested : {A : Type 0} → Option Refusal → (A → Type 0) → Result A Refusal → Type 0
Tested o P (Ok x) = (o ≡ None) × P x
Tested o P (Err r) = o ≡ Some r
