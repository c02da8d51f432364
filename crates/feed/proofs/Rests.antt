-- What a feed leaves as it was: it opens and closes no draft, and keeps the book's number.
use Rattle.std.proofs.Common.{◌≡◌, ℕ, suc, ◌-◌, eqb, leb, List, [], ◌∷◌, length, take, Some, None, Ok, Err, Option, Result, sym, refl, subst}
use Rattle.std.proofs.lemmas.Bool.{cond_both}
use Rattle.terms.specs.declared.fault.Fault.{Fault}
use Rattle.terms.specs.declared.refusal.Refusal.{Refusal}
use Rattle.terms.specs.Classes.{class_of}
use Rattle.terms.specs.Intervals.{interval_of}
use Rattle.terms.specs.Services.{service_of}
use Rattle.history.specs.Calls.{State, Call, enrol, quantities, enter, strike, prices, interval, refusal, answer, after, state_by, carried_out, with_read}
use Rattle.history.specs.Histories.{History}
use Rattle.feed.specs.Words.{kind_of, value_of}
use Rattle.feed.specs.Groups.{is_head, needed, at, ten_of, figures_of, service_prices_of, interval_prices_of, call_of, first_other, of_data, group_at}
use Rattle.feed.specs.Feeding.{Feeding, onward, grouped, fed, feeding, group_left}

module _ (P : State → Type 0) where
  -- a refused call leaves what there was
  by_refusal : (o : Option Refusal) (s t : State) → P s → P t → P (state_by o t s)
  by_refusal None s t h k = k
  by_refusal (Some r) s t h k = h

  by_read : {A : Type 0} (r : Result A Refusal) (f : A → State) (s : State) → P s → ((x : A) → P (f x)) → P (with_read r f s)
  by_read (Ok x) f s h k = k x
  by_read (Err e) f s h k = h

  -- what each setting call keeps, a group keeps
  group_keeps : ((s : State) (kind value : ℕ) (d : List ℕ) → P s → P (after s (call_of kind value d))) → (i head : ℕ) (rest : List ℕ) (s : State) → P s → P (group_left (group_at i head rest) s)
  group_keeps call i head rest s h =
      let Q : Result Call Fault → Type 0 = λ g. P (group_left g s) in
      let c = call_of (kind_of head) (value_of head) rest in
      cond_both (is_head (kind_of head)) _ _ Q
      (λ _. cond_both (leb (needed (kind_of head)) (length rest)) _ _ Q
      (λ _. elim (first_other (take (needed (kind_of head)) rest)) as (λ o. Q (of_data i o c)) [ None ↦ call s (kind_of head) (value_of head) rest h | Some place ↦ h ])
      (λ _. h))
      (λ _. h)

  onward_keeps : (i : ℕ) (o : Option Refusal) (t : State) (calls : History) (more : State → History → Feeding) → ((x : State) (m : History) → P x → P (more x m).left) → P t → P (onward i o t calls more).left
  onward_keeps i None t calls more go h = go t calls h
  onward_keeps i (Some r) t calls more go h = h

  grouped_keeps : (i : ℕ) (g : Result Call Fault) (s : State) (made : History) (more : State → History → Feeding) → ((x : State) (m : History) → P x → P (more x m).left) → P (group_left g s) → P (grouped i g s made more).left
  grouped_keeps i (Ok c) s made more go h = onward_keeps i (refusal s c) (after s c) ((c, answer s c) ∷ made) more go h
  grouped_keeps i (Err f) s made more go h = h

  -- and so a feed
  fed_keeps : ((s : State) (kind value : ℕ) (d : List ℕ) → P s → P (after s (call_of kind value d))) → (ws : List ℕ) (d i n : ℕ) (s : State) (made : History) → P s → P (fed ws d i n s made).left
  fed_keeps call [] d i n s made h = h
  fed_keeps call (w ∷ ws) d i n s made h =
      cond_both (eqb d 0) (grouped i (group_at i w ws) s made (λ t calls. fed ws (needed (kind_of w)) (suc i) (suc n) t calls)) (fed ws (d - 1) (suc i) n s made) (λ x. P x.left)
      (λ _. grouped_keeps i (group_at i w ws) s made (λ t calls. fed ws (needed (kind_of w)) (suc i) (suc n) t calls) (λ x m k. fed_keeps call ws (needed (kind_of w)) (suc i) (suc n) x m k) (group_keeps call i w ws s h))
      (λ _. fed_keeps call ws (d - 1) (suc i) n s made h)

-- the same number, and a draft open where one was
abbrev pub Rests : State → State → Type 0
Rests s t = (t.number ≡ s.number) × (t.drafted ≡ s.drafted)

setting_rests : (b s : State) (kind value : ℕ) (d : List ℕ) → Rests b s → Rests b (after s (call_of kind value d))
setting_rests b s kind value d h =
    let Q : Call → Type 0 = λ c. Rests b (after s c) in
    let by = λ (c : Call) (k : Rests b (carried_out s c)). by_refusal (Rests b) (refusal s c) s (carried_out s c) h k in
    cond_both (eqb kind 1) _ _ Q (λ _. by (enrol value (at d 0)) h)
    (λ _. cond_both (eqb kind 2) _ _ Q (λ _. by (quantities value (at d 0) (ten_of d)) (by_read (Rests b) (service_of (at d 0)) _ s h (λ v. h)))
    (λ _. cond_both (eqb kind 3) _ _ Q (λ _. by (enter value (at d 0) (at d 1) (figures_of d)) (by_read (Rests b) (class_of (at d 1)) _ s h (λ v. h)))
    (λ _. cond_both (eqb kind 4) _ _ Q (λ _. by (strike value) h)
    (λ _. cond_both (eqb kind 5) _ _ Q (λ _. by (prices value (service_prices_of d)) (by_read (Rests b) (service_of value) _ s h (λ v. h)))
    (λ _. by (interval value (interval_prices_of d)) (by_read (Rests b) (interval_of value) _ s h (λ v. h)))))))

pub feeding_rests : (ws : List ℕ) (s t : State) → t ≡ (feeding ws s).left → Rests s t
feeding_rests ws s t e = subst (λ (x : State). Rests s x) (sym e) (fed_keeps (Rests s) (setting_rests s) ws 0 0 0 s [] (refl, refl))
