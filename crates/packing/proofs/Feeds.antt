-- The feed reads the words of groups as their calls in turn.
use Rattle.std.proofs.Common.{◌≡◌, ℕ, suc, ◌+◌, List, [], ◌∷◌, ◌++◌, map, length, Some, None, Ok, Option, sym, refl, ap, ◌∙◌, arith, ne_eqb}
use Rattle.terms.specs.declared.refusal.Refusal.{Refusal}
use Rattle.history.specs.Calls.{State, Call, refusal, answer, after}
use Rattle.history.specs.Histories.{History}
use Rattle.feed.specs.Words.{kind_of}
use Rattle.feed.specs.Groups.{needed}
use Rattle.feed.specs.Feeding.{Feeding, onward, grouped, fed}
use Rattle.packing.specs.declared.group.Group.{Group}
use Rattle.packing.specs.Packing.{call_of_group, ReadAs}
use Rattle.packing.specs.Whole.{words_of_group, words_of_groups, in_turn, Granted, after_all, ReadInTurn, TakenWhole}
use Rattle.packing.proofs.Reading.{read_back}

-- the feed passes over the data of a group
past_data : (ws rest : List ℕ) (i n : ℕ) (s : State) (made : History) → fed (ws ++ rest) (length ws) i n s made ≡ fed rest 0 (i + length ws) n s made
past_data [] rest i n s made = ap (λ k. fed rest 0 k n s made) (omega arith)
past_data (w ∷ ws) rest i n s made =
    rw (ne_eqb (suc (length ws)) 0 (λ e. omega arith)) (ap (λ d. fed (ws ++ rest) d (suc i) n s made) (omega arith) ∙ past_data ws rest (suc i) n s made ∙ ap (λ k. fed rest 0 k n s made) (omega arith))

onward_same : (i : ℕ) (o : Option Refusal) (t : State) (made : History) (f g : State → History → Feeding) → f t made ≡ g t made → onward i o t made f ≡ onward i o t made g
onward_same i None t made f g e = e
onward_same i (Some r) t made f g e = refl

-- words that are read as a call make it, and the words after them come next
past_group : (words rest : List ℕ) (c : Call) (i n : ℕ) (s : State) (made : History) (more : State → History → Feeding) → ReadAs c words → fed rest 0 (i + length words) (suc n) (after s c) ((c, answer s c) ∷ made) ≡ more (after s c) ((c, answer s c) ∷ made) → fed (words ++ rest) 0 i n s made ≡ onward i (refusal s c) (after s c) ((c, answer s c) ∷ made) more
past_group [] rest c i n s made more r e = absurd r
past_group (h ∷ ws) rest c i n s made more r e =
    ap (λ g. grouped i g s made (λ t calls. fed (ws ++ rest) (needed (kind_of h)) (suc i) (suc n) t calls)) (r.1 i rest)
    ∙ onward_same i (refusal s c) (after s c) ((c, answer s c) ∷ made) _ more
    (ap (λ d. fed (ws ++ rest) d (suc i) (suc n) (after s c) ((c, answer s c) ∷ made)) (sym r.0)
    ∙ past_data ws rest (suc i) (suc n) (after s c) ((c, answer s c) ∷ made)
    ∙ ap (λ k. fed rest 0 k (suc n) (after s c) ((c, answer s c) ∷ made)) (omega arith)
    ∙ e)

all_in_turn : (gs : List Group) (i n : ℕ) (s : State) (made : History) → fed (words_of_groups gs) 0 i n s made ≡ in_turn gs i n s made
all_in_turn [] i n s made = refl
all_in_turn (g ∷ gs) i n s made =
    past_group (words_of_group g) (words_of_groups gs) (call_of_group g) i n s made (λ t calls. in_turn gs (i + length (words_of_group g)) (suc n) t calls) (read_back g) (all_in_turn gs (i + length (words_of_group g)) (suc n) (after s (call_of_group g)) ((call_of_group g, answer s (call_of_group g)) ∷ made))

pub read_in_turn : ReadInTurn
read_in_turn gs s = all_in_turn gs 0 0 s []

-- calls of which none is refused
turned : (gs : List Group) (i n : ℕ) (s : State) (made : History) → Granted s (map call_of_group gs) → ((in_turn gs i n s made).answer ≡ Ok (n + length gs)) × ((in_turn gs i n s made).left ≡ after_all s (map call_of_group gs))
turned [] i n s made h = (ap Ok (omega arith), refl)
turned (g ∷ gs) i n s made h =
    let c = call_of_group g in
    let j = i + length (words_of_group g) in
    let calls : History = (c, answer s c) ∷ made in
    let e : in_turn (g ∷ gs) i n s made ≡ in_turn gs j (suc n) (after s c) calls = ap (λ o. onward i o (after s c) calls (λ t k. in_turn gs j (suc n) t k)) h.0 in
    let p = turned gs j (suc n) (after s c) calls h.1 in
    (ap (λ f. f.answer) e ∙ p.0 ∙ ap Ok (omega arith), ap (λ f. f.left) e ∙ p.1)

pub taken_whole : TakenWhole
taken_whole gs s h =
    let e = read_in_turn gs s in
    let p = turned gs 0 0 s [] h in
    (ap (λ f. f.answer) e ∙ p.0 ∙ ap Ok (omega arith), ap (λ f. f.left) e ∙ p.1)
