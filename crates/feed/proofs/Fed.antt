-- How a feed goes on after a group, and how it ends.
use Rattle.std.proofs.Common.{◌≡◌, ℕ, zero, suc, ◌+◌, ◌-◌, ◌≤◌, eqb, List, [], ◌∷◌, ◌++◌, length, get_or, take, drop, Some, None, Ok, Err, Option, Result, sym, refl, ap, ◌∙◌, subst, arith}
use lib.Dec.{eqb-suc-zero}
use Rattle.std.proofs.lemmas.List.{take_rest}
use Rattle.std.proofs.lemmas.Bool.{cond-false, cond_both}
use Rattle.terms.specs.declared.fault.Fault.{Fault}
use Rattle.terms.specs.declared.refusal.Refusal.{Refusal}
use Rattle.history.specs.Calls.{State, Call, refusal, answer, after}
use Rattle.history.specs.Histories.{History, Lived, then}
use Rattle.feed.specs.Words.{kind_of}
use Rattle.feed.specs.Groups.{needed, group_at}
use Rattle.feed.specs.Feeding.{Feeding, onward, grouped, fed, feeding, told, group_answer, group_left}

-- data words are passed over
pub fed_over : (k : ℕ) (ws : List ℕ) (i n : ℕ) (s : State) (made : History) → fed ws k i n s made ≡ fed (drop k ws) 0 (i + k) n s made
fed_over zero ws i n s made = let e : i ≡ i + 0 = omega arith in ap (λ (j : ℕ). fed ws 0 j n s made) e
fed_over (suc k) [] i n s made = refl
fed_over (suc k) (w ∷ ws) i n s made =
    let less : suc k - 1 ≡ k = omega arith in
    let more : suc i + k ≡ i + suc k = omega arith in
    cond-false (eqb (suc k) 0) _ _ (eqb-suc-zero k)
    ∙ ap (λ (j : ℕ). fed ws j (suc i) n s made) less
    ∙ fed_over k ws (suc i) n s made
    ∙ ap (λ (j : ℕ). fed (drop k ws) 0 j n s made) more

-- a call that the book did not refuse lets the feed go on
onward_more : (i count d : ℕ) (o : Option Refusal) (t : State) (calls : History) (more : State → History → Feeding) → Ok d ≡ told i count o → (d ≡ count) × (onward i o t calls more ≡ more t calls)
onward_more i count d None t calls more e = (cc, refl)
onward_more i count d (Some r) t calls more e = absurd (let z : ◌≡◌ {A = ℕ} 0 1 = cc in omega arith)

grouped_more : (i count d : ℕ) (g : Result Call Fault) (s t : State) (made : History) (more : State → History → Feeding) → Ok d ≡ group_answer i count g s → t ≡ group_left g s → (d ≡ count) × ((calls : History) × (grouped i g s made more ≡ more t calls))
grouped_more i count d (Ok c) s t made more e f =
    let calls = (c, answer s c) ∷ made in
    let p = onward_more i count d (refusal s c) (after s c) calls more e in
    (p.0, (calls, p.1 ∙ ap (λ (x : State). more x calls) (sym f)))
grouped_more i count d (Err f) s t made more e k = absurd (let z : ◌≡◌ {A = ℕ} 0 1 = cc in omega arith)

-- a refusal ends it
onward_ends : (i count : ℕ) (f : Fault) (o : Option Refusal) (t : State) (calls : History) (more : State → History → Feeding) → Err f ≡ told i count o → (Err f ≡ (onward i o t calls more).answer) × (t ≡ (onward i o t calls more).left)
onward_ends i count f None t calls more e = absurd (let z : ◌≡◌ {A = ℕ} 0 1 = cc in omega arith)
onward_ends i count f (Some r) t calls more e = (e, refl)

grouped_ends : (i count : ℕ) (f : Fault) (g : Result Call Fault) (s t : State) (made : History) (more : State → History → Feeding) → Err f ≡ group_answer i count g s → t ≡ group_left g s → (Err f ≡ (grouped i g s made more).answer) × (t ≡ (grouped i g s made more).left)
grouped_ends i count f (Ok c) s t made more e k =
    let p = onward_ends i count f (refusal s c) (after s c) ((c, answer s c) ∷ made) more e in
    (p.0, k ∙ p.1)
grouped_ends i count f (Err d) s t made more e k = (e, k)

-- words with one at least are a head and the rest
pub head_rest : (ws : List ℕ) → 1 ≤ length ws → ws ≡ get_or ws 0 0 ∷ take (length ws - 1) (drop 1 ws)
head_rest [] h = absurd (omega arith)
head_rest (w ∷ ws) h = ap (λ (l : List ℕ). w ∷ l) (sym (take_rest (w ∷ ws) 1))

-- a feed after a group that was made
pub fed_more : (ws : List ℕ) (w : ℕ) (rest left : List ℕ) (d i n : ℕ) (s t : State) (made : History) (whole : Feeding) → ws ≡ w ∷ rest → left ≡ drop d rest → Ok d ≡ group_answer i (needed (kind_of w)) (group_at i w rest) s → t ≡ group_left (group_at i w rest) s → whole ≡ fed ws 0 i n s made → (calls : History) × (whole ≡ fed left 0 (i + (1 + d)) (n + 1) t calls)
fed_more ws w rest left d i n s t made whole split over e f so =
    let p = grouped_more i (needed (kind_of w)) d (group_at i w rest) s t made (λ t calls. fed rest (needed (kind_of w)) (suc i) (suc n) t calls) e f in
    let calls = p.1.0 in
    let index : suc i + d ≡ i + (1 + d) = omega arith in
    let count : suc n ≡ n + 1 = omega arith in
    (calls, so ∙ ap (λ (l : List ℕ). fed l 0 i n s made) split ∙ p.1.1 ∙ ap (λ (k : ℕ). fed rest k (suc i) (suc n) t calls) (sym p.0) ∙ fed_over d rest (suc i) (suc n) t calls ∙ (λ j. fed (sym over j) 0 (index j) (count j) t calls))

-- a feed that ends at a group
pub fed_ends : (ws : List ℕ) (w : ℕ) (rest : List ℕ) (f : Fault) (i n : ℕ) (s t : State) (made : History) (whole : Feeding) → ws ≡ w ∷ rest → Err f ≡ group_answer i (needed (kind_of w)) (group_at i w rest) s → t ≡ group_left (group_at i w rest) s → whole ≡ fed ws 0 i n s made → (Err f ≡ whole.answer) × (t ≡ whole.left)
fed_ends ws w rest f i n s t made whole split e k so =
    let p = grouped_ends i (needed (kind_of w)) f (group_at i w rest) s t made (λ t calls. fed rest (needed (kind_of w)) (suc i) (suc n) t calls) e k in
    let here : whole ≡ fed (w ∷ rest) 0 i n s made = so ∙ ap (λ (l : List ℕ). fed l 0 i n s made) split in
    (p.0 ∙ sym (ap (λ (x : Feeding). x.answer) here), p.1 ∙ sym (ap (λ (x : Feeding). x.left) here))

-- what a feed leads to was lived, since each of its calls was
onward_lived : (i : ℕ) (o : Option Refusal) (t : State) (calls h : History) (more : State → History → Feeding) → ((x : State) (m : History) → Lived (m ++ h) x → Lived ((more x m).made ++ h) (more x m).left) → Lived (calls ++ h) t → Lived ((onward i o t calls more).made ++ h) (onward i o t calls more).left
onward_lived i None t calls h more go l = go t calls l
onward_lived i (Some r) t calls h more go l = l

grouped_lived : (i : ℕ) (g : Result Call Fault) (s : State) (made h : History) (more : State → History → Feeding) → ((x : State) (m : History) → Lived (m ++ h) x → Lived ((more x m).made ++ h) (more x m).left) → Lived (made ++ h) s → Lived ((grouped i g s made more).made ++ h) (grouped i g s made more).left
grouped_lived i (Ok c) s made h more go l = onward_lived i (refusal s c) (after s c) ((c, answer s c) ∷ made) h more go (then c l)
grouped_lived i (Err f) s made h more go l = l

fed_lived : (ws : List ℕ) (d i n : ℕ) (s : State) (made h : History) → Lived (made ++ h) s → Lived ((fed ws d i n s made).made ++ h) (fed ws d i n s made).left
fed_lived [] d i n s made h l = l
fed_lived (w ∷ ws) d i n s made h l = cond_both (eqb d 0) (grouped i (group_at i w ws) s made (λ t calls. fed ws (needed (kind_of w)) (suc i) (suc n) t calls)) (fed ws (d - 1) (suc i) n s made) (λ x. Lived (x.made ++ h) x.left) (λ e. grouped_lived i (group_at i w ws) s made h (λ t calls. fed ws (needed (kind_of w)) (suc i) (suc n) t calls) (λ x m k. fed_lived ws (needed (kind_of w)) (suc i) (suc n) x m h k) l) (λ e. fed_lived ws (d - 1) (suc i) n s made h l)

pub feeding_lived : (ws : List ℕ) (s t : State) → t ≡ (feeding ws s).left → (h : History) → Lived h s → Lived ((feeding ws s).made ++ h) t
feeding_lived ws s t e h l = subst (λ (x : State). Lived ((feeding ws s).made ++ h) x) (sym e) (fed_lived ws 0 0 0 s [] h l)

-- a feed that came to the end of its words
pub fed_all : (ws : List ℕ) (i n : ℕ) (s : State) (made : History) (whole : Feeding) → length ws ≤ 0 → whole ≡ fed ws 0 i n s made → (Ok n ≡ whole.answer) × (s ≡ whole.left)
fed_all [] i n s made whole h e = (sym (ap (λ (x : Feeding). x.answer) e), sym (ap (λ (x : Feeding). x.left) e))
fed_all (w ∷ ws) i n s made whole h e = absurd (omega arith)
