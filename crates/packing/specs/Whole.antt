-- Whole feeds: the words of groups one after the other.
use Rattle.std.specs.Prelude.{◌≡◌, ℕ, suc, ◌+◌, List, [], ◌∷◌, ◌++◌, map, length, None, Ok}
use Rattle.history.specs.Calls.{State, Call, refusal, answer, after}
use Rattle.history.specs.Histories.{History}
use Rattle.feed.specs.Feeding.{Feeding, onward, feeding}
use Rattle.packing.specs.declared.group.Group.{Group}
use Rattle.packing.specs.Packing.{call_of_group, words_of_call}

-- the words of a group, and of groups
abbrev pub words_of_group : Group → List ℕ
words_of_group g = words_of_call (call_of_group g)

abbrev pub words_of_groups : List Group → List ℕ
words_of_groups [] = []
words_of_groups (g ∷ gs) = words_of_group g ++ words_of_groups gs

-- the calls of groups made in turn, from a word's index on: the first that the book refuses ends them
abbrev pub in_turn : List Group → (index groups : ℕ) → State → History → Feeding
in_turn [] i n s made = record { answer = Ok n; left = s; made = made }
in_turn (g ∷ gs) i n s made = onward i (refusal s (call_of_group g)) (after s (call_of_group g)) ((call_of_group g, answer s (call_of_group g)) ∷ made) (λ t calls. in_turn gs (i + length (words_of_group g)) (suc n) t calls)

-- none of these calls is refused, each on the book that those before it leave
abbrev pub Granted : State → List Call → Type 0
Granted s [] = Unit {0}
Granted s (c ∷ cs) = (refusal s c ≡ None) × Granted (after s c) cs

-- the book that calls leave in turn
abbrev pub after_all : State → List Call → State
after_all s [] = s
after_all s (c ∷ cs) = after_all (after s c) cs

-- every whole feed is read as the calls of its groups in turn: nothing but a refusal of the book ends it
abbrev pub ReadInTurn : Type 0
ReadInTurn = (gs : List Group) (s : State) → feeding (words_of_groups gs) s ≡ in_turn gs 0 0 s []

-- where no call is refused, the feed answers how many groups there were and leaves the book that the calls leave
abbrev pub TakenWhole : Type 0
TakenWhole = (gs : List Group) (s : State) → Granted s (map call_of_group gs) → ((feeding (words_of_groups gs) s).answer ≡ Ok (length gs)) × ((feeding (words_of_groups gs) s).left ≡ after_all s (map call_of_group gs))
