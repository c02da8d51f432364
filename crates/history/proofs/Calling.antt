-- How a call in code meets what every call promises.
use Rattle.std.proofs.Common.{◌≡◌, ◌∷◌, Some, None, sym, ap, ◌∙◌, subst}
use Rattle.terms.specs.declared.refusal.Refusal.{Refusal}
use Rattle.history.specs.Calls.{State, Call, Answer, refused, refusal, granted, carried_out, answer, after, answer_by, state_by}
use Rattle.history.specs.Histories.{Lived, then}
use Rattle.history.specs.Called.{Called}

-- an answer and a state that are the definitions' make a call
pub called_by : (s t : State) (c : Call) (a : Answer) → a ≡ answer s c → t ≡ after s c → Called s c a t
called_by s t c a e f = record { answers = e; leaves = f; history = λ h l. subst (λ (x : Answer). Lived ((c, x) ∷ h) t) (sym e) (subst (λ (x : State). Lived ((c, answer s c) ∷ h) x) (sym f) (then c l)) }

-- a call that is refused, and leaves the book
pub called_refused : (s t : State) (c : Call) (r : Refusal) → refusal s c ≡ Some r → t ≡ s → Called s c (refused r) t
called_refused s t c r e f = called_by s t c (refused r) (sym (ap (λ o. answer_by o (granted s c)) e)) (f ∙ sym (ap (λ o. state_by o (carried_out s c) s) e))

-- a call that is carried out
pub called_granted : (s t : State) (c : Call) (a : Answer) → refusal s c ≡ None → a ≡ granted s c → t ≡ carried_out s c → Called s c a t
called_granted s t c a e g f = called_by s t c a (g ∙ sym (ap (λ o. answer_by o (granted s c)) e)) (f ∙ sym (ap (λ o. state_by o (carried_out s c) s) e))
