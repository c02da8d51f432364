-- What feeding words to a book answers, what it leaves and which calls it makes.
use Rattle.std.specs.Prelude.{ℕ, suc, ◌-◌, cond, List, [], ◌∷◌, Some, None, Ok, Err, Option, Result, ◌==◌}
use Rattle.terms.specs.declared.fault.Fault.{Fault}
use Rattle.terms.specs.declared.fault.Layer.TheVariants.{Book}
use Rattle.terms.specs.declared.refusal.Refusal.{Refusal}
use Rattle.history.specs.Calls.{State, Call, refusal, answer, after}
use Rattle.history.specs.Histories.{History}
use Rattle.feed.specs.Words.{kind_of}
use Rattle.feed.specs.Groups.{needed, fault, group_at}

pub record Feeding : Type 0 where
  -- how many groups there were, or the fault that ended the feed
  pub answer : Result ℕ Fault
  -- the book afterwards: groups before a fault stay in force
  pub left : State
  -- the calls made with their answers, the newest first
  pub made : History

-- after a call of the group at an index: a refusal of the book ends the feed, else it goes on
abbrev pub onward : (index : ℕ) → Option Refusal → State → History → (State → History → Feeding) → Feeding
onward index None s made more = more s made
onward index (Some r) s made more = record { answer = Err (fault r Book index); left = s; made = made }

-- a group is made as its call, or its fault ends the feed
abbrev pub grouped : (index : ℕ) → Result Call Fault → State → History → (State → History → Feeding) → Feeding
grouped index (Ok c) s made more = onward index (refusal s c) (after s c) ((c, answer s c) ∷ made) more
grouped index (Err f) s made more = record { answer = Err f; left = s; made = made }

-- the words from an index on, of which the first are still data of a group before
abbrev pub fed : List ℕ → (pending index groups : ℕ) → State → History → Feeding
fed [] d i n s made = record { answer = Ok n; left = s; made = made }
fed (w ∷ ws) d i n s made = cond (d == 0) (grouped i (group_at i w ws) s made (λ t calls. fed ws (needed (kind_of w)) (suc i) (suc n) t calls)) (fed ws (d - 1) (suc i) n s made)

-- a whole feed
abbrev pub feeding : List ℕ → State → Feeding
feeding words s = fed words 0 0 0 s []

-- one group on a book: how many data words it had, or the fault that ends the feed
abbrev pub told : (index count : ℕ) → Option Refusal → Result ℕ Fault
told index count None = Ok count
told index count (Some r) = Err (fault r Book index)

abbrev pub group_answer : (index count : ℕ) → Result Call Fault → State → Result ℕ Fault
group_answer index count (Ok c) s = told index count (refusal s c)
group_answer index count (Err f) s = Err f

-- and the book that it leaves
abbrev pub group_left : Result Call Fault → State → State
group_left (Ok c) s = after s c
group_left (Err f) s = s
