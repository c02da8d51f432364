-- The call of a group, and what making it answers and leaves.
use Rattle.std.proofs.Common.{◌≡◌, ℕ, true, List, Some, None, Ok, Err, Option, Result, sym, ap, ◌∙◌, arith}
use Rattle.terms.specs.declared.fault.Fault.{Fault}
use Rattle.terms.specs.declared.fault.Layer.TheVariants.{Book}
use Rattle.terms.specs.declared.refusal.Refusal.{Refusal}
use Rattle.history.specs.Called.{Called}
use Rattle.history.specs.Calls.{State, Call, Answer, refused, refusal, granted, answer_by}
use Rattle.history.specs.Histories.{taken}
use Rattle.history.proofs.Words.{granted_taken}
use Rattle.feed.specs.Words.{kind_of}
use Rattle.feed.specs.Groups.{needed, fault, group_at}
use Rattle.std.specs.Result.{MatchResult}
use Rattle.book.specs.View.{said}
use Rattle.feed.specs.Feeding.{told, group_answer, group_left}

-- a call that was refused was refused by the book's first test that failed
told_refused : (i count : ℕ) (o : Option Refusal) (a : Answer) (r : Refusal) → taken a ≡ true → refused r ≡ answer_by o a → Err (fault r Book i) ≡ told i count o
told_refused i count None a r t e = absurd (let z : ◌≡◌ {A = ℕ} 0 1 = cc in omega arith)
told_refused i count (Some q) a r t e = let same : r ≡ q = cc in ap (λ (x : Refusal). Err (fault x Book i)) same

-- a group that the book refused, whose fault says so
pub made_refused : (i count : ℕ) (f : Fault) (s t : State) (c : Call) (r : Result (Unit {0}) Refusal) → MatchResult r (λ x. ⊥) (λ e. f ≡ fault e Book i) → Called s c (said r) t → Err f ≡ told i count (refusal s c)
made_refused i count f s t c (Ok u) h k = absurd h
made_refused i count f s t c (Err r) h k = ap (λ (x : Fault). Err x) h ∙ told_refused i count (refusal s c) (granted s c) r (granted_taken s c) k.answers

-- what making a group answers and leaves, said of the words that it was read from
pub group_made : (i k n word : ℕ) (rest : List ℕ) (r : Result ℕ Fault) (s t : State) (c : Call) → k ≡ i → n ≡ needed (kind_of word) → group_at i word rest ≡ Ok c → r ≡ group_answer k n (Ok c) s → t ≡ group_left (Ok c) s → (r ≡ group_answer i (needed (kind_of word)) (group_at i word rest) s) × (t ≡ group_left (group_at i word rest) s)
group_made i k n word rest r s t c here same e answered left = (answered ∙ (λ j. group_answer (here j) (same j) (sym e j) s), left ∙ (λ j. group_left (sym e j) s))

-- and where no group could be read
pub group_unread : (i word : ℕ) (rest : List ℕ) (f : Fault) (s : State) → group_at i word rest ≡ Err f → (Err f ≡ group_answer i (needed (kind_of word)) (group_at i word rest) s) × (s ≡ group_left (group_at i word rest) s)
group_unread i word rest f s e = ((λ j. group_answer i (needed (kind_of word)) (sym e j) s), (λ j. group_left (sym e j) s))
